-- The limits of the problem of a query.
use Rattle.std.specs.Prelude.{nat_lt, Bool, List, [], ◌∷◌, ◌++◌, length, Option}
use Rattle.std.specs.List.{list_any, flat_map}
use Rattle.eb_value.specs.declared.scope.Scope.{Scope}
use Rattle.eb_value.specs.declared.types.EbType.{EbType, fold-EbType}
use Rattle.eb_value.specs.declared.types.Shape.{Shape-F}
use Rattle.eb_value.specs.declared.types.Shape.TheOpen as ty
use Rattle.eb_value.specs.Types.{integer, boolean, carrier, product, power}
use Rattle.eb_value.specs.Counts.{cardinal}
use Rattle.eb_term.specs.declared.problem.Choice.{Choice}
use Rattle.eb_term.specs.declared.term.Term.{Term}
use Rattle.eb_term.specs.declared.term.Head.{Head-F}
use Rattle.eb_term.specs.declared.term.Head.TheOpen as head
use Rattle.eb_term.specs.Terms.{by_parts}
use Rattle.eb_term.specs.Nodes.{nodes_of}
use Rattle.eb_model.specs.declared.model.EbModel.{EbModel}
use Rattle.scope_settings.specs.declared.limit.Limit.{Limit}
use Rattle.scope_settings.specs.declared.limit.Limit.TheVariants as limit
use Rattle.scope_settings.specs.Limits.{first_passed}
use Rattle.cbc_query.specs.Problems.{choices_of, axiom_terms, axioms_problem}

-- the type has more than 4,096 values
abbrev pub has_many : Scope → EbType → Bool
has_many scope t = nat_lt 4096 (cardinal scope t)

-- A type, and the types of the members of each set in it.
pub record Inside : Type 0 where
  pub whole : EbType
  pub elements : List EbType

abbrev pub inside_step : Shape-F Inside Inside → Inside
inside_step ty.Integer = record { whole = integer; elements = [] }
inside_step ty.Bool = record { whole = boolean; elements = [] }
inside_step (ty.Carrier s) = record { whole = carrier s; elements = [] }
inside_step (ty.Product a b) = record { whole = product a.whole b.whole; elements = a.elements ++ b.elements }
inside_step (ty.Power a) = record { whole = power a.whole; elements = a.whole ∷ a.elements }

-- each T of which POW(T) stands inside the type
abbrev pub element_types : EbType → List EbType
element_types t = (fold-EbType Inside Inside inside_step (λ t. t.shape) t).elements

abbrev pub has_large_element : Scope → Choice → Bool
has_large_element scope c = list_any (has_many scope) (element_types c.ty)

abbrev pub range_step : Head-F (List EbType) (List EbType) → List EbType
range_step (head.Truth b) = []
range_step (head.Literal v t) = []
range_step (head.Reference place t) = []
range_step (head.Variable k path t) = []
range_step (head.Infinite i) = []
range_step (head.Identity t) = t ∷ []
range_step (head.Projection s a b) = a ∷ b ∷ []
range_step (head.Unary o a) = a
range_step (head.Binary o a b) = a ++ b
range_step (head.Many o es) = flat_map (λ e. e) es
range_step (head.Over o range body) = range ++ body
range_step (head.All o t body) = t ∷ body

-- the types over whose values a term goes, from left to right: those of binders without a set, and those of id, prj1 and prj2
abbrev pub range_types : Term → List EbType
range_types = by_parts (List EbType) range_step

-- The first limit that the problem of the axioms passes: for each set inside a choice's type its members' type has at most 4,096
-- values, and so has each type over whose values the axioms go; and the problem has at most 1,000,000 nodes.
abbrev pub axioms_passed : Scope → EbModel → List EbType → Option Limit
axioms_passed scope m types = first_passed (
    (list_any (has_large_element scope) (choices_of m types), limit.Element)
    ∷ (list_any (has_many scope) (flat_map range_types (axiom_terms scope m types)), limit.Bound)
    ∷ (nat_lt 1000000 (length (nodes_of (axioms_problem scope m types))), limit.Nodes) ∷ [])
