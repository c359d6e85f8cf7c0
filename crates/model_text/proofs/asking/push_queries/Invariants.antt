use Rattle.std.proofs.Common.{◌≡◌, ◌++◌, map, drop}
use Rattle.model_text.proofs.asking.push_queries.Given as goal

abbrev pub invariant-loop-query : goal.invariant-loop-query
invariant-loop-query l = map (λ q. q.now) l.all.items ++ drop l.query-index l.queries ≡ map (λ q. q.now) l.fn.all.items ++ l.queries
