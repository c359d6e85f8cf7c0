use Rattle.std.proofs.Common.{◌≡◌, ◌++◌, map, take}
use Rattle.std.specs.List.{flat_map}
use Rattle.eb_declared.specs.Parts as spec
use Rattle.eb_declared.specs.Seen as seen
use Rattle.eb_declared.proofs.walk.push_events.Given as goal

abbrev pub invariant-loop-event : goal.invariant-loop-event
invariant-loop-event l = map seen.part l.out.items ≡ map seen.part l.initial.out.items ++ flat_map spec.event_parts (take l.event-index l.events)
