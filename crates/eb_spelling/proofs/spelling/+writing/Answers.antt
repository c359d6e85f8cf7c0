use Rattle.std.proofs.Common.{◌≡◌, ◌∙◌, ◌-◌, ◌++◌, ◌∷◌, take, drop, length, map, sym, ap, rules}
use Rattle.eb_signs.specs.declared.sign.Sign.TheVariants as signs
use Rattle.eb_spelling.specs.Spelling.{sign, kinds_of, row_kinds}
use Rattle.eb_spelling.proofs.SpellingSteps.{first_others, others_done, flat_mapped}
use Rattle.eb_spelling.proofs.spelling.+writing.Goals as goal

pub row-returns : goal.row-returns
row-returns t c =
    let others = take (length c.args.members.now - 1) (drop 1 c.args.members.now) in
    let whole = first_others c.args.members.now c.first-item.result c.in-len1-up.len_at_least c.first-item.is in
    let first : c.write.new.out ≡ c.args.out.now ++ kinds_of c.first-item.result = search rules in
    others_done (kinds_of c.first-item.result) (λ a. sign signs.Comma ∷ kinds_of a) others c.args.out.now c.write.new.out c.loop-member.out c.loop-member.member-index first c.loop-member.invariant c.loop-member-test.false
    ∙ (ap (λ z. c.args.out.now ++ (kinds_of c.first-item.result ++ z)) (flat_mapped kinds_of (λ ts. sign signs.Comma ∷ ts) others) ∙ ap (λ z. c.args.out.now ++ row_kinds (map kinds_of z)) (sym whole))
