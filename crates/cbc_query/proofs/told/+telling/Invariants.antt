use Rattle.std.proofs.Common.{◌≡◌, ◌++◌, take}
use Rattle.std.specs.List.{flat_map}
use Rattle.cbc_query.specs.Limits.{range_types}
use Rattle.cbc_query.specs.steps.Told.{told_number}
use Rattle.cbc_query.proofs.told.+telling.Given as goal

abbrev pub invariant-push_row-loop-term : goal.invariant-push_row-loop-term
invariant-push_row-loop-term l = l.numbers ≡ l.initial.numbers ++ flat_map told_number (flat_map range_types (take l.term-index l.terms))
