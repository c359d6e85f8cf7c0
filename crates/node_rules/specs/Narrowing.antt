-- What a rule of propagation at an occurrence makes of the domain that it narrows, and of the store.
use Rattle.std.specs.Prelude.{ℕ, List, [], Option, Some, None, slice_get}
use Rattle.eb_value.specs.declared.scope.Scope.{Scope}
use Rattle.eb_value.specs.declared.value.Value.{Value}
use Rattle.eb_term.specs.declared.problem.Problem.{Problem}
use Rattle.eb_term.specs.declared.term.Term.{Term}
use Rattle.eb_term.specs.Nodes.{nodes_of}
use Rattle.problem_nodes.specs.declared.nodes.Above.{Above}
use Rattle.problem_nodes.specs.Places.{definition_roots}
use Rattle.problem_nodes.specs.Aboves.{above_of}
use Rattle.occ_domains.specs.declared.domain.Domain.{Domain}
use Rattle.occ_domains.specs.Domains.{nothing, meet}
use Rattle.occurrences.specs.declared.place.Place.{Place}
use Rattle.occurrences.specs.declared.place.Place.TheVariants as place
use Rattle.occurrences.specs.declared.place.Rule.{Rule}
use Rattle.occurrences.specs.declared.place.Rule.TheVariants as rule
use Rattle.occurrences.specs.Stores.{Domains, with_domain}
use Rattle.occurrences.specs.Targets.{target_bound}
use Rattle.node_rules.specs.Nodes.{up_at, down_at}

abbrev pub given_root : Domains → Option ℕ → Domain
given_root at None = nothing
given_root at (Some root) = at (place.Node root) []

abbrev pub given_up : Scope → Problem → Domains → ℕ → List Value → Option Term → Domain
given_up scope p at k bound None = nothing
given_up scope p at k bound (Some t) = up_at scope p at k bound t

abbrev pub given_down : Problem → Domains → ℕ → List Value → Option Above → Domain
given_down p at k bound None = nothing
given_down p at k bound (Some a) = down_at p at k bound a

-- What the rule at an occurrence gives its target: to a definition its term's domain, to a node Up or Down there, and to what is
-- referred to the domain of the reference.
abbrev pub given : Scope → Problem → Domains → Rule → Place → List Value → Domain
given scope p at rule.Up (place.Definition k) bound = given_root at (slice_get (definition_roots p) k)
given scope p at rule.Up (place.Node k) bound = given_up scope p at k bound (slice_get (nodes_of p) k)
given scope p at rule.Down (place.Node k) bound = given_down p at k bound (above_of p k)
given scope p at rule.Refer (place.Node k) bound = at (place.Node k) bound
given scope p at _ _ bound = nothing

-- the target's domain, met with what the rule gives it
abbrev pub met : Scope → Problem → Domains → Rule → Place → List Value → Place → Domain
met scope p at rule from bound to = meet (at to (target_bound rule bound)) (given scope p at rule from bound)

-- the store after the rule at an occurrence narrowed its target
abbrev pub narrowed : Scope → Problem → Domains → Rule → Place → List Value → Place → Domains
narrowed scope p at rule from bound to = with_domain at to (target_bound rule bound) (met scope p at rule from bound to)
