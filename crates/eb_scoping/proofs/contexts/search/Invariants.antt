use Rattle.std.proofs.Common.{◌≡◌, ℕ, List}
use Rattle.eb_scoping.specs.Walks.{IsWalk}
use Rattle.eb_scoping.proofs.contexts.search.Given as goal

abbrev pub invariant-loop-at : goal.invariant-loop-at
invariant-loop-at l = record { done : l.walk.done ≡ l.at; walk : (first : List (List ℕ)) → IsWalk l.units first l.initial.walk → IsWalk l.units first l.walk }
