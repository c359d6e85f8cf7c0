use Rattle.std.proofs.Common.{◌≡◌, take}
use Rattle.std.specs.Prelude.{fold}
use Rattle.eb_model.specs.Models as spec
use Rattle.eb_model.proofs.walker.Walker.events.Given as goal

abbrev pub invariant-loop-event : goal.invariant-loop-event
invariant-loop-event l = l.self ≡ fold (spec.event_at l.scope.entries) l.initial.self (take l.event-index l.events)
