use Rattle.std.proofs.Common.{◌≡◌, map, drop}
use Rattle.std.specs.List.{list_all}
use Rattle.model_text.specs.Asking as spec
use Rattle.model_text.proofs.asking.all_axioms.Given as goal

abbrev pub invariant-loop-query : goal.invariant-loop-query
invariant-loop-query l = list_all spec.asks_axioms (map (λ q. q.now) l.queries) ≡ list_all spec.asks_axioms (map (λ q. q.now) (drop l.query-index l.queries))
