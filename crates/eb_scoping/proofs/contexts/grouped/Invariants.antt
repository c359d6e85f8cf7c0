use Rattle.std.proofs.Common.{◌≡◌, ℕ, List, [], map, filter, take, bytes_eq}
use Rattle.std.specs.Option.{option_map_or}
use Rattle.std.specs.BTreeMap.{get_by}
use Rattle.std.specs.Ordering.{nat_cmp}
use Rattle.std.specs.Cmp.Lexicographic.{slice_cmp}
use Rattle.eb_scoping.proofs.contexts.grouped.Given as goal

abbrev pub invariant-loop-name : goal.invariant-loop-name
invariant-loop-name l = (q : List ℕ) → option_map_or (λ g. g.items) (get_by (λ k. slice_cmp nat_cmp q k.now) l.groups) [] ≡ map (λ p. p.1) (filter (λ p. bytes_eq q p.0.now) (take l.name-index l.heads))
