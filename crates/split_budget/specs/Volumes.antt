-- How many valuations a store has.
use Rattle.std.specs.Prelude.{◌≡◌, ℕ, suc, ◌*◌, true, List, [], ◌∷◌}
use Rattle.std.specs.List.{list_all}
use Rattle.eb_term.specs.declared.problem.Choice.{Choice}
use Rattle.occ_domains.specs.Wholes.{is_without_sets}
use Rattle.occurrences.specs.declared.place.Place.TheVariants as place
use Rattle.occurrences.specs.Stores.{Domains}
use Rattle.domain_counts.specs.Counts.{count_in}
-- how many valuations there are
pub use Rattle.occ_store.specs.Stores.{valuation_count}

-- how many values choices may have together, of which the first stands at this place
abbrev pub volume_from : Domains → ℕ → List Choice → ℕ
volume_from at k [] = 1
volume_from at k (c ∷ cs) = count_in (at (place.Choice k) []) * volume_from at (suc k) cs

-- no choice has a type that contains sets
abbrev pub HaveNoSets : List Choice → Type 0
HaveNoSets cs = list_all (λ c. is_without_sets c.ty) cs ≡ true
