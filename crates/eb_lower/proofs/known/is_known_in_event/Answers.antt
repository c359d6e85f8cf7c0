use Rattle.eb_scoping.specs.FreeNames.{names_of}
use Rattle.eb_lower.proofs.EventLaws.{tells_after, known_static, known_variable, known_parameter}
use Rattle.eb_lower.proofs.known.is_known_in_event.Goals as goal

pub returns-then-used : goal.returns-then-used
returns-then-used c = λ us marks t. tells_after us marks c.args.event.now (names_of c.args.after.now) c.args.used.name.now c.as_str-name.result.now c.args.used.is_primed c.is_listed.result c.if-used.true c.as_str-name.ensures c.is_listed.ensures

pub returns-then-is_static : goal.returns-then-is_static
returns-then-is_static c = λ us marks t. known_static us marks c.args.event.now (names_of c.args.after.now) c.args.used.name.now c.as_str-name.result.now c.args.used.is_primed c.if-used.false c.as_str-name.ensures
    c.is_static.result (c.is_static.ensures us marks t) c.if-is_static.true

pub returns-then-has_value_before : goal.returns-then-has_value_before
returns-then-has_value_before c = λ us marks t. known_variable us marks c.args.event.now (names_of c.args.after.now) c.args.used.name.now c.as_str-name.result.now c.args.used.is_primed c.if-used.false c.as_str-name.ensures
    c.is_static.result (c.is_static.ensures us marks t) c.has_value_before.result (c.has_value_before.ensures us marks t) c.if-has_value_before.true

pub returns : goal.returns
returns c = λ us marks t. known_parameter us marks c.args.event.now (names_of c.args.after.now) c.args.used.name.now c.as_str-name.result.now c.args.used.is_primed c.if-used.false c.as_str-name.ensures
    c.is_static.result (c.is_static.ensures us marks t) c.has_value_before.result (c.has_value_before.ensures us marks t) c.is_parameter.result c.if-is_static.false c.if-has_value_before.false c.is_parameter.ensures
