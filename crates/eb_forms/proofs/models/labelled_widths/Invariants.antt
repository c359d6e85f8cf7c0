use Rattle.std.proofs.Common.{◌≡◌, drop}
use Rattle.eb_forms.specs.Widths as width
use Rattle.eb_forms.proofs.models.labelled_widths.Given as goal

abbrev pub invariant-loop-formula : goal.invariant-loop-formula
invariant-loop-formula l = width.each_wide width.wide_in_formula l.formulas ≡ width.either l.found (width.each_wide width.wide_in_formula (drop l.formula-index l.formulas))
