use Rattle.std.proofs.Common.{◌∙◌, ap₂}
use Rattle.std.specs.List.{flat_map}
use Rattle.cbc_query.specs.Parts.{part_axioms}
use Rattle.cbc_query.specs.steps.Distinct.{with_all}
use Rattle.cbc_query.specs.steps.Told.{notes_of}
use Rattle.cbc_query.proofs.Noted.{axioms_noted}
use Rattle.cbc_query.proofs.noting.axioms_notes.Goals as goal

pub returns : goal.returns
returns c = record {
  notes =
      c.into_notes.ensures
      ∙ (c.in_ok-notes.ensures
      ∙ (ap₂ (λ ds ps. with_all ds (flat_map (notes_of c.in_ok-setting.setting) (flat_map part_axioms ps))) c.new.ensures c.as_slice-parts.ensures
      ∙ axioms_noted c.args.scope.now c.args.model.now c.args.types.now c.in_ok-setting.setting c.in_ok-setting.ensures));
}
