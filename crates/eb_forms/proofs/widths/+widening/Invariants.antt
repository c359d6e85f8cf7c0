use Rattle.std.proofs.Common.{◌≡◌, drop, map}
use Rattle.eb_forms.specs.Widths as spec
use Rattle.eb_forms.proofs.widths.+widening.Given as goal

abbrev pub invariant-any-loop-formula : goal.invariant-any-loop-formula
invariant-any-loop-formula l = spec.any (map spec.widths_of l.formulas) ≡ spec.either l.found (spec.any (map spec.widths_of (drop l.formula-index l.formulas)))
