use Rattle.std.proofs.Common.{◌≡◌, ◌∙◌, ◌+◌, sym, ap₂, subst, drop}
use Rattle.cbc_query.specs.Settings.{terms_from}
use Rattle.cbc_query.specs.steps.Tables.{filled, part_terms, constants_behind}
use Rattle.cbc_query.proofs.Tables.{part_next}
use Rattle.cbc_query.proofs.known.known_terms.Goals as goal

pub loop-part-preserved : goal.loop-part-preserved
loop-part-preserved c =
    let scope = c.args.scope.now in
    let types = c.args.types.now in
    let known = c.loop-part.known in
    let k = c.loop-part.constants in
    let i = c.loop-part.part-index in
    let p = c.part-item.result in
    let n = subst (λ z. filled known (terms_from scope types k (drop i z)) ≡ filled (filled known (part_terms scope types k p)) (terms_from scope types (constants_behind k p) (drop (i + 1) z)))
    c.as_slice-part-items.ensures (part_next scope types known k i c.as_slice-part-items.result.now p c.loop-part-test.true c.part-item.is) in
    ap₂ (λ a b. filled a (terms_from scope types b (drop (i + 1) c.args.model.now.parts))) c.in_ok-next.ensures.known c.in_ok-next.ensures.count ∙ (sym n ∙ c.loop-part.invariant)
