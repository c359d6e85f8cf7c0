use Rattle.std.proofs.Common.{◌≡◌, [], take}
use Rattle.std.specs.List.{flat_map}
use Rattle.eb_lower.specs.Unsupported.{event_places}
use Rattle.eb_lower.proofs.unsupported.events_place.Given as goal

abbrev pub invariant-loop-event : goal.invariant-loop-event
invariant-loop-event l = flat_map event_places (take l.event-index l.events) ≡ []
