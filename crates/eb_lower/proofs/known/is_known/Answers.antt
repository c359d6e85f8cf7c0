use Rattle.std.proofs.Common.{◌∙◌, IfOk, sym, ap, subst}
use Rattle.eb_scoping.specs.FreeNames as uses
use Rattle.eb_lower.specs.Usages as spec
use Rattle.eb_declared.specs.Seen as held
use Rattle.eb_scoping.specs.Sets.{has_text}
use Rattle.eb_lower.specs.steps.Known.{Tells}
use Rattle.eb_lower.proofs.ContextLaws.{tells_context, tells_carrier}
use Rattle.eb_lower.proofs.known.is_known.Goals as goal

pub returns-in-Context-clause-known : goal.returns-in-Context-clause-known
returns-in-Context-clause-known c = λ marks t. let us = c.args.units.now in let q = c.args.usage.used.name.now in let r = c.has_name.result in
    subst (λ p. Tells r (spec.IsKnownAt us marks (held.position p) (uses.seen c.args.usage.used))) (sym c.in-Context.is)
    (tells_context us q r (c.has_name.ensures ∙ (ap (has_text c.args.facts.now.contexts) c.as_str-name.ensures ∙ t.1.contexts q)))

pub returns-in-Size-clause-known : goal.returns-in-Size-clause-known
returns-in-Size-clause-known c = λ marks t. let us = c.args.units.now in let q = c.args.usage.used.name.now in let r = c.has_name-in-Size.result in
    subst (λ p. Tells r (spec.IsKnownAt us marks (held.position p) (uses.seen c.args.usage.used))) (sym c.in-Size.is)
    (tells_carrier us marks q r (c.has_name-in-Size.ensures ∙ (ap (has_text c.args.facts.now.carriers) c.as_str-name.ensures ∙ t.1.carriers q)))

pub returns-in-Axiom-clause-known : goal.returns-in-Axiom-clause-known
returns-in-Axiom-clause-known c = λ marks t. let us = c.args.units.now in
    subst (λ p. IfOk c.is_known_in_axiom.result (λ known. Tells known (spec.IsKnownAt us marks (held.position p) (uses.seen c.args.usage.used)))) (sym c.in-Axiom.is) (c.is_known_in_axiom.ensures.known marks t)
