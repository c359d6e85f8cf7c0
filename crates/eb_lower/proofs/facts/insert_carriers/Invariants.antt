use Rattle.std.proofs.Common.{◌≡◌, ◌||◌, ℕ, List, take}
use Rattle.std.specs.List.{flat_map}
use Rattle.eb_scoping.specs.FreeNames.{is_among}
use Rattle.eb_lower.specs.Usages as spec
use Rattle.eb_scoping.specs.Sets.{has_text}
use Rattle.eb_lower.proofs.facts.insert_carriers.Given as goal

abbrev pub invariant-loop-clause : goal.invariant-loop-clause
invariant-loop-clause l = (q : List ℕ) → has_text l.set q ≡ (is_among (flat_map spec.clause_carriers (take l.clause-index l.clauses)) q || has_text l.initial.set q)
