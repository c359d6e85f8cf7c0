use Rattle.std.proofs.Common.{◌≡◌, drop}
use Rattle.eb_forms.specs.Forms as spec
use Rattle.eb_forms.proofs.models.in_labelled.Given as goal

abbrev pub invariant-loop-formula : goal.invariant-loop-formula
invariant-loop-formula l = spec.first_in (spec.in_formula l.types) l.formulas ≡ spec.first_in (spec.in_formula l.types) (drop l.formula-index l.formulas)
