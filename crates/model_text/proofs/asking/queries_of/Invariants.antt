use Rattle.std.proofs.Common.{◌≡◌, ◌++◌, map, drop}
use Rattle.model_text.specs.Asking as spec
use Rattle.model_text.proofs.asking.queries_of.Given as goal

abbrev pub invariant-loop-unit : goal.invariant-loop-unit
invariant-loop-unit l = map (λ q. q.now) l.all.items ++ spec.queries (drop l.unit-index l.units) ≡ spec.queries l.units
