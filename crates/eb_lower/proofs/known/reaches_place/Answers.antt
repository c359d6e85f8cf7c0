use Rattle.std.proofs.Common.{◌≡◌, ◌<◌, length, get_or, rules}
use Rattle.eb_syntax.specs.declared.units.EbUnit.TheVariants as eb
use Rattle.eb_lower.proofs.ReachLaws.{place_tells}
use Rattle.eb_lower.proofs.known.reaches_place.Goals as goal

pub returns-in-Some-Context-clause-answer : goal.returns-in-Some-Context-clause-answer
returns-in-Some-Context-clause-answer c = let us = c.args.units.now in let x = c.in-Some-Context.context in
    let inside : c.args.place < length us = search rules in
    let here : eb.Context x ≡ get_or us c.args.place (eb.Context x) = search rules in
    place_tells us c.args.walk.now c.args.place x c.as_str.result.now c.walk_reaches.result inside here c.as_str.ensures c.walk_reaches.ensures.answer
