use Rattle.std.proofs.Common.{◌≡◌, ◌++◌, take}
use Rattle.std.specs.List.{flat_map}
use Rattle.cbc_query.specs.Notes.{bound_in}
use Rattle.cbc_query.proofs.bounded.+binding.Given as goal

abbrev pub invariant-push_bound_in_all-loop-formula : goal.invariant-push_bound_in_all-loop-formula
invariant-push_bound_in_all-loop-formula l = l.all ≡ l.initial.all ++ flat_map bound_in (take l.formula-index l.formulas)
