use Rattle.eb_lower.specs.Unsupported.{event_places}
use Rattle.eb_lower.proofs.PlaceLaws.{first_at}
use Rattle.eb_lower.proofs.unsupported.events_place.Goals as goal

pub returns-in-Some : goal.returns-in-Some
returns-in-Some c = first_at event_places c.args.events.now c.loop-event.event-index c.event-item.result c.in-Some.place c.loop-event-test.true c.event-item.is c.loop-event.invariant c.in-Some.ensures
