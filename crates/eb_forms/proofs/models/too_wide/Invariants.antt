use Rattle.std.proofs.Common.{◌≡◌, drop}
use Rattle.eb_forms.specs.Widths as width
use Rattle.eb_forms.proofs.models.too_wide.Given as goal

abbrev pub invariant-loop-part : goal.invariant-loop-part
invariant-loop-part l = width.each_wide width.wide_in_part l.model.parts ≡ width.either l.found (width.each_wide width.wide_in_part (drop l.part-index l.model.parts))
