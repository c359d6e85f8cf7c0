use Rattle.std.proofs.Common.{◌≡◌, drop}
use Rattle.std.specs.List.{list_any, flat_map}
use Rattle.cbc_query.specs.Limits.{has_many, range_types}
use Rattle.cbc_query.proofs.large.+going.Given as goal

abbrev pub invariant-go_far-loop-term : goal.invariant-go_far-loop-term
invariant-go_far-loop-term l = list_any (has_many l.scope) (flat_map range_types l.terms) ≡ list_any (has_many l.scope) (flat_map range_types (drop l.term-index l.terms))
