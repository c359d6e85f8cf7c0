use Rattle.std.proofs.Common.{◌≡◌, true, map, length, List}
use Rattle.std.specs.List.{list_all}
use Rattle.eb_value.specs.Comprehensions as set
use Rattle.eb_value.specs.declared.value.Value.{Value}
use Rattle.eb_value.specs.Values.{is_ascending}
use Rattle.eb_value.proofs.families.is_in_all.Given as goal

-- what is left is ascending, and decides
pub record Decides (value : Value) (sets rest : List Value) : Type 0 where
  pub ascending : list_all (λ v. is_ascending (set.members v)) rest ≡ true
  pub decides : list_all (λ t. set.has t value) (map set.members sets) ≡ list_all (λ t. set.has t value) (map set.members rest)

abbrev pub invariant-loop-rest : goal.invariant-loop-rest
invariant-loop-rest l = Decides l.value l.fn.sets l.rest

abbrev pub decreases-loop-rest : goal.decreases-loop-rest
decreases-loop-rest l = length l.rest
