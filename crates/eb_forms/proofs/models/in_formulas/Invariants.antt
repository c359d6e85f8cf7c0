use Rattle.std.proofs.Common.{◌≡◌, drop}
use Rattle.eb_forms.specs.declared.kind.Kind.TheVariants as kind
use Rattle.eb_forms.specs.Forms as spec
use Rattle.eb_forms.proofs.models.in_formulas.Given as goal

abbrev pub invariant-loop-formula : goal.invariant-loop-formula
invariant-loop-formula l = spec.first_in (spec.misplaced_in l.types kind.Value) l.formulas ≡ spec.first_in (spec.misplaced_in l.types kind.Value) (drop l.formula-index l.formulas)
