use Rattle.std.proofs.Common.{◌∙◌, [], None, sym, ap}
use Rattle.std.specs.Option.{option_copied}
use Rattle.eb_lower.proofs.StaticLaws.{tells_static, tells_none, group_found}
use Rattle.eb_lower.proofs.UnitLaws.{marks_length}
use Rattle.eb_lower.proofs.known.is_static.Goals as goal

pub returns-in-Some : goal.returns-in-Some
returns-in-Some c = λ us marks t. tells_static us marks c.args.facts.now.statics c.args.name.now c.in-Some.places.now c.is_empty.result (marks_length us [] us marks t.0) t.1.statics (sym (ap option_copied c.in-Some.is) ∙ c.get.ensures.value) c.is_empty.ensures

pub returns-in-None : goal.returns-in-None
returns-in-None c = λ us marks t. tells_none us marks c.args.facts.now.statics c.args.name.now (marks_length us [] us marks t.0) t.1.statics
    (group_found c.args.facts.now.statics c.args.name.now None (sym (ap option_copied c.in-None.is) ∙ c.get.ensures.value))
