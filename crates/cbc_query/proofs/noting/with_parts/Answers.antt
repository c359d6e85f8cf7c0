use Rattle.std.proofs.Common.{◌∙◌, ◌+◌, sym, ap, drop}
use Rattle.std.specs.List.{flat_map}
use Rattle.cbc_query.specs.Parts.{part_axioms}
use Rattle.cbc_query.specs.steps.Distinct.{with_all}
use Rattle.cbc_query.specs.steps.Told.{notes_of}
use Rattle.cbc_query.proofs.Noted.{part_next}
use Rattle.cbc_query.proofs.noting.with_parts.Goals as goal

pub loop-part-preserved : goal.loop-part-preserved
loop-part-preserved c =
    let s = c.args.setting.now in
    let ps = c.args.parts.now in
    let i = c.loop-part.part-index in
    ap (λ a. with_all a (flat_map (notes_of s) (flat_map part_axioms (drop (i + 1) ps)))) c.in_ok-notes.ensures
    ∙ (sym (part_next s c.loop-part.notes ps i c.part-item.result c.loop-part-test.true c.part-item.is) ∙ c.loop-part.invariant)
