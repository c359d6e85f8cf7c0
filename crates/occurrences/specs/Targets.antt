-- The rules of propagation at a place, and the occurrence whose domain each narrows.
use Rattle.std.specs.Prelude.{ℕ, ◌-◌, nat_lt, if◌then◌else◌, List, [], length, Option, Some, None, option_and_then, slice_get}
use Rattle.eb_value.specs.declared.value.Value.{Value}
use Rattle.eb_term.specs.declared.problem.Problem.{Problem}
use Rattle.eb_term.specs.declared.term.Head.TheOpen as head
use Rattle.eb_term.specs.Terms.{Layer, layer}
use Rattle.eb_term.specs.Nodes.{nodes_of}
use Rattle.problem_nodes.specs.declared.nodes.Above.{Above}
use Rattle.problem_nodes.specs.declared.nodes.Above.TheVariants as above
use Rattle.problem_nodes.specs.Aboves.{above_of}
use Rattle.occurrences.specs.declared.place.Place.{Place}
use Rattle.occurrences.specs.declared.place.Place.TheVariants as place
use Rattle.occurrences.specs.declared.place.Rule.{Rule}
use Rattle.occurrences.specs.declared.place.Rule.TheVariants as rule

-- what a reference stands for: the choices, and then the definitions
abbrev pub referred : ℕ → ℕ → Place
referred choices number = if nat_lt number choices then place.Choice number else place.Definition (number - choices)

abbrev pub reference_in : ℕ → Layer → Option Place
reference_in choices (head.Reference number ty) = Some (referred choices number)
reference_in choices _ = None

-- what the node with this number refers to
abbrev pub reference_at : Problem → ℕ → Option Place
reference_at p k = option_and_then (λ t. reference_in (length p.choices) (layer t)) (slice_get (nodes_of p) k)

-- a node that is no fact is narrowed by what it stands below
abbrev pub below : ℕ → Option Above → Option Place
below k None = None
below k (Some (above.Fact number)) = None
below k (Some _) = Some (place.Node k)

abbrev pub definition_there : ℕ → ℕ → Option Place
definition_there definitions k = if nat_lt k definitions then Some (place.Definition k) else None

-- The place whose domain the rule at a place narrows: Up that of a definition or a node; Down that of a node, but of no fact; and
-- Refer, at a reference, that of what it refers to.
abbrev pub target : Problem → Rule → Place → Option Place
target p rule.Up (place.Definition k) = definition_there (length p.definitions) k
target p rule.Up (place.Node k) = option_and_then (λ t. Some (place.Node k)) (slice_get (nodes_of p) k)
target p rule.Down (place.Node k) = below k (above_of p k)
target p rule.Refer (place.Node k) = reference_at p k
target p _ _ = None

-- the values of the binders around what is narrowed: what is referred to stands outside all binders
abbrev pub target_bound : Rule → List Value → List Value
target_bound rule.Refer bound = []
target_bound _ bound = bound
