-- Where the domain of an occurrence stands: a place by its number, and behind all places the occurrences with bound values that
-- got domains of their own, in that order.
use Rattle.std.specs.Prelude.{ℕ, Bool, suc, ◌+◌, nat_eq, ◌&&◌, if◌then◌else◌, List, [], ◌∷◌, Option, Some, None, option_map, option_and_then}
use Rattle.eb_value.specs.declared.value.Value.{Value}
use Rattle.eb_term.specs.declared.problem.Problem.{Problem}
use Rattle.occurrences.specs.declared.place.Place.{Place}
use Rattle.occurrences.specs.Stores.{same_values}
use Rattle.domain_store.specs.declared.slots.Key.{Key}
use Rattle.domain_store.specs.Places.{place_count, place_number}

-- the key is of this place and these values
abbrev pub is_key : Key → ℕ → List Value → Bool
is_key key number bound = nat_eq key.number number && same_values key.bound bound

-- the first of the keys that is of this place and these values
abbrev pub key_at : List Key → ℕ → List Value → Option ℕ
key_at [] number bound = None
key_at (key ∷ keys) number bound = if is_key key number bound then Some 0 else option_map suc (key_at keys number bound)

abbrev pub slot_at : ℕ → List Key → ℕ → List Value → Option ℕ
slot_at places keys number [] = Some number
slot_at places keys number (v ∷ vs) = option_map (λ i. places + i) (key_at keys number (v ∷ vs))

-- where the domain of an occurrence stands, if it has a place of its own
abbrev pub slot_of : Problem → List Key → Place → List Value → Option ℕ
slot_of p keys place bound = option_and_then (λ number. slot_at (place_count p) keys number bound) (place_number p place)
