use Rattle.std.proofs.Common.{◌≡◌, drop}
use Rattle.std.specs.Prelude.{[], unwrap_or}
use Rattle.std.specs.BTreeMap.{get}
use Rattle.std.specs.List.{flat_map}
use Rattle.std.specs.Ordering.{nat_cmp}
use Rattle.cbc_query.specs.steps.Distinct.{with_all}
use Rattle.cbc_query.specs.steps.Told.{named_notes}
use Rattle.cbc_query.proofs.noting.with_numbers.Given as goal

abbrev pub invariant-loop-number : goal.invariant-loop-number
invariant-loop-number l = with_all l.notes (flat_map (named_notes l.setting.types l.label (λ k. unwrap_or (get nat_cmp l.names k) [])) (drop l.number-index l.numbers)) ≡ with_all l.initial.notes (flat_map (named_notes l.setting.types l.label (λ k. unwrap_or (get nat_cmp l.names k) [])) l.numbers)
