use Rattle.std.proofs.Common.{◌≡◌, ◌∙◌, [], ◌∷◌, sym}
use Rattle.eb_scoping.specs.Groups.{group}
use Rattle.eb_lower.proofs.ReachLaws.{group_none, group_some, tells_none, tells_reached}
use Rattle.eb_lower.proofs.known.is_known_in_axiom.Goals as goal

pub returns-in_default-clause-known : goal.returns-in_default-clause-known
returns-in_default-clause-known c = λ marks t. let q = c.args.used.name.now in let m = c.args.facts.now.statics in
    tells_none c.args.units.now marks m c.args.context.now q c.args.used.is_primed t.0 t.1.statics c.requires.placed c.if-used.false (group_none m q c.as_str.result.now c.as_str.ensures c.in_default.ensures.value)

pub returns-clause-reached : goal.returns-clause-reached
returns-clause-reached c = c.in_ok-found.ensures.walk (c.as_str-name.result.now ∷ []) c.in_ok-walk.ensures

pub returns-clause-known : goal.returns-clause-known
returns-clause-known c = λ marks t. let q = c.args.used.name.now in let m = c.args.facts.now.statics in let from = c.as_str-name.result.now in
    let places : c.deref.result.now ≡ group m q = c.deref.ensures.value ∙ sym (group_some m q c.as_str.result.now c.in-Some.places.now c.as_str.ensures c.in-Some.ensures.value) in
    tells_reached c.args.units.now marks m c.args.context.now q c.args.used.is_primed t.0 t.1.statics c.requires.placed c.if-used.false from c.deref.result.now c.in_ok-found.found c.as_str-name.ensures places
    (c.in_ok-found.ensures.answer from c.in_ok-walk.ensures)
