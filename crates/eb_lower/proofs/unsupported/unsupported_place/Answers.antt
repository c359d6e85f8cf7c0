use Rattle.eb_lower.specs.Unsupported.{unit_places}
use Rattle.eb_lower.proofs.PlaceLaws.{first_at}
use Rattle.eb_lower.proofs.unsupported.unsupported_place.Goals as goal

pub returns-in-Some : goal.returns-in-Some
returns-in-Some c = first_at unit_places c.args.units.now c.loop-unit.unit-index c.unit-item.result c.in-Some.place c.loop-unit-test.true c.unit-item.is c.loop-unit.invariant c.in-Some.ensures
