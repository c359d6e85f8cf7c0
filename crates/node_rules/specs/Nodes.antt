-- The rules at the nodes of a problem: Up from the domains of a node's parts, Down to a part from the node's domain and that of its
-- other part. Nodes of operators that have no rule may be all that may come of them.
use Rattle.std.specs.Prelude.{ℕ, zero, suc, ◌+◌, true, if◌then◌else◌, List, [], length, Option, Some, None, option_and_then, slice_get}
use Rattle.eb_value.specs.declared.scope.Scope.{Scope}
use Rattle.eb_value.specs.declared.types.EbType.{EbType}
use Rattle.eb_value.specs.declared.value.Value.{Value}
use Rattle.eb_operations.specs.Operations.{part_at}
use Rattle.eb_term.specs.declared.operators.Side.{Side}
use Rattle.eb_term.specs.declared.operators.Side.TheVariants as side
use Rattle.eb_term.specs.declared.problem.Problem.{Problem}
use Rattle.eb_term.specs.declared.term.Term.{Term}
use Rattle.eb_term.specs.declared.term.Head.TheOpen as head
use Rattle.eb_term.specs.Terms.{Layer, layer}
use Rattle.eb_term.specs.Nodes.{nodes_of}
use Rattle.problem_nodes.specs.declared.nodes.Above.{Above}
use Rattle.problem_nodes.specs.declared.nodes.Above.TheVariants as above
use Rattle.problem_nodes.specs.Places.{size}
use Rattle.occ_domains.specs.declared.domain.Domain.{Domain}
use Rattle.occ_domains.specs.declared.domain.Domain.TheVariants as domain
use Rattle.occ_domains.specs.Domains.{only}
use Rattle.occ_domains.specs.Wholes.{whole, is_without_sets}
use Rattle.rules_base.specs.declared.rule.UnaryRule.{UnaryRule}
use Rattle.rules_base.specs.declared.rule.BinaryRule.{BinaryRule}
use Rattle.rules_base.specs.Operators.{unary_rule, binary_rule}
use Rattle.rules_base.specs.Rules.{up_one, up_two, down_one, down_two}
use Rattle.occurrences.specs.declared.place.Place.TheVariants as place
use Rattle.occurrences.specs.Stores.{Domains, truth_alone, whole_of}
use Rattle.occurrences.specs.Targets.{referred}

-- all values of the type, and Undefined
abbrev pub whole_values : Scope → EbType → Domain
whole_values scope ty = domain.Values (whole scope ty) true

-- a value that is known: alone, but of a type with sets all values
abbrev pub known : Scope → EbType → Value → Domain
known scope ty v = if is_without_sets ty then only (Some v) else whole_values scope ty

abbrev pub known_slot : Scope → EbType → Option Value → Domain
known_slot scope ty None = whole_values scope ty
known_slot scope ty (Some v) = known scope ty v

abbrev pub up_unary : Option UnaryRule → Domain → Domain → Domain
up_unary None whole part = whole
up_unary (Some rule) whole part = up_one rule part

abbrev pub up_binary : Option BinaryRule → Domain → Domain → Domain → Domain
up_binary None whole left right = whole
up_binary (Some rule) whole left right = up_two rule left right

abbrev pub up_layer : Scope → ℕ → Domains → ℕ → List Value → Term → Layer → Domain
up_layer scope choices at k bound t (head.Truth b) = truth_alone b
up_layer scope choices at k bound t (head.Literal v ty) = known scope ty v
up_layer scope choices at k bound t (head.Reference number ty) = at (referred choices number) []
up_layer scope choices at k bound t (head.Variable number path ty) = known_slot scope ty (option_and_then (part_at path) (slice_get bound number))
up_layer scope choices at k bound t (head.Unary o a) = up_unary (unary_rule o) (whole_of scope t) (at (place.Node (suc k)) bound)
up_layer scope choices at k bound t (head.Binary o a b) = up_binary (binary_rule o) (whole_of scope t) (at (place.Node (suc k)) bound) (at (place.Node (suc k + size a)) bound)
up_layer scope choices at k bound t _ = whole_of scope t

-- Up at the node with this number, which is this term
abbrev pub up_at : Scope → Problem → Domains → ℕ → List Value → Term → Domain
up_at scope p at k bound t = up_layer scope (length p.choices) at k bound t (layer t)

-- ---- Down

abbrev pub down_unary : Option UnaryRule → Domain → Domain → Domain
down_unary None whole part = part
down_unary (Some rule) whole part = down_one rule whole part

abbrev pub down_binary : Option BinaryRule → Side → Domain → Domain → Domain → Domain
down_binary None s whole part other = part
down_binary (Some rule) s whole part other = down_two rule s whole part other

-- to the part at this place of the node with this number
abbrev pub down_layer : Domains → ℕ → List Value → ℕ → Layer → Domain → Domain
down_layer at number bound zero (head.Unary o a) part = down_unary (unary_rule o) (at (place.Node number) bound) part
down_layer at number bound zero (head.Binary o a b) part = down_binary (binary_rule o) side.First (at (place.Node number) bound) part (at (place.Node (suc number + size a)) bound)
down_layer at number bound (suc zero) (head.Binary o a b) part = down_binary (binary_rule o) side.Second (at (place.Node number) bound) part (at (place.Node (suc number)) bound)
down_layer at number bound _ _ part = part

abbrev pub down_in : Option Term → Domains → ℕ → List Value → ℕ → Domain → Domain
down_in None at number bound place part = part
down_in (Some t) at number bound place part = down_layer at number bound place (layer t) part

-- Down to the node with this number: to a definition's from the definition, to a part from its node; of a fact's nothing more is known
abbrev pub down_at : Problem → Domains → ℕ → List Value → Above → Domain
down_at p at k bound (above.Definition number) = at (place.Definition number) []
down_at p at k bound (above.Fact number) = at (place.Node k) bound
down_at p at k bound (above.Part number part) = down_in (slice_get (nodes_of p) number) at number bound part (at (place.Node k) bound)
