-- The places of a problem, numbered: its choices, its definitions, and its nodes.
use Rattle.std.specs.Prelude.{ℕ, ◌+◌, ◌<◌, nat_lt, if◌then◌else◌, length, Option, Some, None}
use Rattle.eb_term.specs.declared.problem.Problem.{Problem}
use Rattle.eb_term.specs.Nodes.{nodes_of}
use Rattle.occurrences.specs.declared.place.Place.{Place}
use Rattle.occurrences.specs.declared.place.Place.TheVariants as place

-- how many places the problem has
abbrev pub place_count : Problem → ℕ
place_count p = length p.choices + length p.definitions + length (nodes_of p)

-- the problem has the place
abbrev pub HasPlace : Problem → Place → Type 0
HasPlace p (place.Choice k) = k < length p.choices
HasPlace p (place.Definition k) = k < length p.definitions
HasPlace p (place.Node k) = k < length (nodes_of p)

abbrev pub number_from : ℕ → ℕ → ℕ → Option ℕ
number_from start count k = if nat_lt k count then Some (start + k) else None

-- the number of a place that the problem has: choices first, then definitions, then nodes
abbrev pub place_number : Problem → Place → Option ℕ
place_number p (place.Choice k) = number_from 0 (length p.choices) k
place_number p (place.Definition k) = number_from (length p.choices) (length p.definitions) k
place_number p (place.Node k) = number_from (length p.choices + length p.definitions) (length (nodes_of p)) k
