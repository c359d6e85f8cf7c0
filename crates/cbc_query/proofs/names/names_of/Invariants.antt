use Rattle.std.proofs.Common.{◌≡◌, ℕ, take}
use Rattle.std.specs.BTreeMap.{get}
use Rattle.std.specs.Ordering.{nat_cmp}
use Rattle.cbc_query.specs.steps.Named.{first_name}
use Rattle.cbc_query.proofs.names.names_of.Given as goal

abbrev pub invariant-loop-entry : goal.invariant-loop-entry
invariant-loop-entry l = (k : ℕ) → get nat_cmp l.names k ≡ first_name k (take l.entry-index l.entries)
