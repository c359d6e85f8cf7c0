use Rattle.std.proofs.Common.{◌≡◌, drop}
use Rattle.eb_forms.specs.Forms as spec
use Rattle.eb_forms.proofs.models.in_actions.Given as goal

abbrev pub invariant-loop-action : goal.invariant-loop-action
invariant-loop-action l = spec.first_in (spec.in_action l.types) l.actions ≡ spec.first_in (spec.in_action l.types) (drop l.action-index l.actions)
