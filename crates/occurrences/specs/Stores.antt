-- Stores: a domain for each occurrence, and the store before anything is known.
use Rattle.std.specs.Prelude.{ℕ, Bool, true, false, ◌&&◌, if◌then◌else◌, nat_eq, List, [], ◌∷◌, Option, Some, None, slice_get}
use Rattle.eb_value.specs.declared.scope.Scope.{Scope}
use Rattle.eb_value.specs.declared.types.EbType.{EbType}
use Rattle.eb_value.specs.declared.value.Value.{Value}
use Rattle.eb_value.specs.Comprehensions.{same}
use Rattle.eb_term.specs.declared.problem.Choice.{Choice}
use Rattle.eb_term.specs.declared.problem.Problem.{Problem}
use Rattle.eb_term.specs.declared.term.Term.{Term}
use Rattle.eb_term.specs.Nodes.{nodes_of}
use Rattle.term_types.specs.Types.{type_of}
use Rattle.problem_nodes.specs.declared.nodes.Above.{Above}
use Rattle.problem_nodes.specs.declared.nodes.Above.TheVariants as above
use Rattle.problem_nodes.specs.Aboves.{above_of}
use Rattle.occ_domains.specs.declared.domain.Domain.{Domain}
use Rattle.occ_domains.specs.declared.domain.Domain.TheVariants as domain
use Rattle.occ_domains.specs.Domains.{nothing}
use Rattle.occ_domains.specs.Wholes.{whole, first}
use Rattle.occurrences.specs.declared.place.Place.{Place}
use Rattle.occurrences.specs.declared.place.Place.TheVariants as place

-- The domain of each place, by the values of the binders around it, the outermost first.
abbrev pub Domains : Type 0
Domains = Place → List Value → Domain

-- ---- the first store

-- a truth alone
abbrev pub truth_alone : Bool → Domain
truth_alone b = domain.Truths (record { can_be_true = b; can_be_false = if b then false else true; can_be_undefined = false })

-- all truths
abbrev pub all_truths : Domain
all_truths = domain.Truths (record { can_be_true = true; can_be_false = true; can_be_undefined = true })

abbrev pub whole_by : Scope → Option EbType → Domain
whole_by scope None = all_truths
whole_by scope (Some ty) = domain.Values (whole scope ty) true

-- the domain of all that may come of a term: all truths of a predicate, all values of an expression's type and Undefined
abbrev pub whole_of : Scope → Term → Domain
whole_of scope t = whole_by scope (type_of t)

abbrev pub is_fact_above : Option Above → Bool
is_fact_above (Some (above.Fact number)) = true
is_fact_above _ = false

-- the node with this number is a fact
abbrev pub is_fact : Problem → ℕ → Bool
is_fact p k = is_fact_above (above_of p k)

abbrev pub choice_domain : Scope → Option Choice → Domain
choice_domain scope None = nothing
choice_domain scope (Some c) = domain.Values (first scope c.ty) false

abbrev pub term_domain : Scope → Option Term → Domain
term_domain scope None = nothing
term_domain scope (Some t) = whole_of scope t

-- A choice may have the values of its type in the scope, a fact is True, and of all else everything may come; a place that the
-- problem hasn't has no outcome.
abbrev pub first_domains : Scope → Problem → Domains
first_domains scope p (place.Choice k) bound = choice_domain scope (slice_get p.choices k)
first_domains scope p (place.Definition k) bound = term_domain scope (slice_get p.definitions k)
first_domains scope p (place.Node k) bound = if is_fact p k then truth_alone true else term_domain scope (slice_get (nodes_of p) k)

-- ---- changes

abbrev pub same_place : Place → Place → Bool
same_place (place.Choice k) (place.Choice j) = nat_eq k j
same_place (place.Definition k) (place.Definition j) = nat_eq k j
same_place (place.Node k) (place.Node j) = nat_eq k j
same_place _ _ = false

abbrev pub same_values : List Value → List Value → Bool
same_values [] [] = true
same_values (v ∷ vs) (w ∷ ws) = same v w && same_values vs ws
same_values _ _ = false

-- the store with the domain of one occurrence replaced
abbrev pub with_domain : Domains → Place → List Value → Domain → Domains
with_domain at place bound d other values = if same_place place other && same_values bound values then d else at other values
