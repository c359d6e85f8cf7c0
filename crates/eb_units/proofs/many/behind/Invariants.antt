use Rattle.std.proofs.Common.{◌≡◌, ◌-◌, drop}
use Rattle.eb_units.specs.steps.Descending as spec
use Rattle.eb_units.proofs.many.behind.Given as goal

abbrev pub invariant-loop : goal.invariant-loop
invariant-loop g l = spec.with_front l.read (spec.many g.T.Listed.begins (g.T.Listed.reads l.tokens) (spec.room l.tokens - l.counter) (drop l.rest l.tokens)) ≡ (spec.with_front l.fn.front (spec.many g.T.Listed.begins (g.T.Listed.reads l.tokens) (spec.room l.tokens) (drop l.fn.at l.tokens)))
