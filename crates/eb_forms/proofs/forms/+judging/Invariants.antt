use Rattle.std.proofs.Common.{◌≡◌, drop, map}
use Rattle.eb_forms.specs.Forms as spec
use Rattle.eb_forms.proofs.forms.+judging.Given as goal

abbrev pub invariant-all_misplaced-loop-formula : goal.invariant-all_misplaced-loop-formula
invariant-all_misplaced-loop-formula l = spec.all_misplaced (map (spec.judge l.types) l.formulas) ≡ spec.all_misplaced (map (spec.judge l.types) (drop l.formula-index l.formulas))
