use Rattle.std.proofs.Common.{◌≡◌, drop}
use Rattle.eb_forms.specs.Widths as width
use Rattle.eb_forms.proofs.models.action_widths.Given as goal

abbrev pub invariant-loop-action : goal.invariant-loop-action
invariant-loop-action l = width.each_wide width.wide_in_action l.actions ≡ width.either l.found (width.each_wide width.wide_in_action (drop l.action-index l.actions))
