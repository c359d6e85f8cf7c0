use Rattle.std.proofs.Common.{◌≡◌, ◌∙◌, ◌^◌, ◌-◌, min, ap, sym, rules}
use Rattle.eb_value.specs.declared.types.EbType.{the_lemmas}
use Rattle.eb_value.specs.Counts.{cardinal}
use Rattle.eb_value.proofs.CountLaws.{min-pow-min}
use Rattle.eb_value.proofs.typing.+cardinal.Goals as goal

pub returns-in-Power : goal.returns-in-Power
returns-in-Power t c =
    let sets_of : cardinal c.args.scope.now c.args.ty.now ≡ 2 ^ cardinal c.args.scope.now c.get-in-Power.result.now = search (rules, the_lemmas) in
    c.subsets_of.ensures ∙ ap (λ k. min (2 ^ k) (2 ^ 64 - 1)) c.cardinal-in-Power.ensures ∙ min-pow-min (cardinal c.args.scope.now c.get-in-Power.result.now) ∙ ap (λ k. min k (2 ^ 64 - 1)) (sym sets_of)
