use Rattle.std.proofs.Common.{◌≡◌, take}
use Rattle.domain_store.specs.steps.Firsts.{choice_domains}
use Rattle.domain_store.proofs.firsts.choice_domains.Given as goal

abbrev pub invariant-loop-choice : goal.invariant-loop-choice
invariant-loop-choice l = l.domains.items ≡ choice_domains l.scope (take l.choice-index l.choices)
