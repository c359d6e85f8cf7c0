-- Problems whose formulas are typed in a scope.
use Rattle.std.specs.Prelude.{◌≡◌, ℕ, ◌+◌, ◌<◌, true, List, [], length, Option, Some, option_map, option_and_then, slice_get, MatchOption, Contains}
use Rattle.type_table.specs.Rows.{predicate, expression}
use Rattle.eb_value.specs.declared.scope.Scope.{Scope}
use Rattle.eb_value.specs.declared.types.EbType.{EbType}
use Rattle.eb_term.specs.declared.problem.Problem.{Problem}
use Rattle.eb_term.specs.declared.term.Term.{Term}
use Rattle.eb_term.specs.Typed.{HasSort}
use Rattle.eb_term.specs.Leaves.{references}
use Rattle.eb_term.specs.Nodes.{nodes_of}
use Rattle.eb_meaning.specs.Meaning.{Slot, slot_at}
use Rattle.eb_meaning.specs.Fitting.{slot_has_type, fits}
use Rattle.term_types.specs.Types.{type_of}
use Rattle.occurrences.specs.declared.place.Place.{Place}
use Rattle.occurrences.specs.declared.place.Place.TheVariants as place
use Rattle.occurrences.specs.Targets.{referred}

abbrev pub type_there : Problem → Place → Option EbType
type_there p (place.Choice k) = option_map (λ c. c.ty) (slice_get p.choices k)
type_there p (place.Definition k) = option_and_then type_of (slice_get p.definitions k)
type_there p (place.Node k) = option_and_then type_of (slice_get (nodes_of p) k)

-- the type of what a reference with this number stands for
abbrev pub named_type : Problem → ℕ → Option EbType
named_type p number = type_there p (referred (length p.choices) number)

-- what the references stand for is Undefined or has its type
abbrev pub AreOfNamedTypes : Scope → Problem → List Slot → Type 0
AreOfNamedTypes scope p slots = (number : ℕ) (ty : EbType) → named_type p number ≡ Some ty → slot_has_type scope (slot_at slots number) ty ≡ true

-- the literals of the term have the types that they say, and its references those of what they stand for, whatever that is
abbrev pub FitsAll : Scope → Problem → Term → Type 0
FitsAll scope p t = (slots : List Slot) → AreOfNamedTypes scope p slots → fits scope slots t ≡ true

-- Each definition is an expression, and each fact a predicate, under no binder. A definition refers to choices and earlier
-- definitions, a fact to choices and definitions.
pub record IsTyped (scope : Scope) (p : Problem) : Type 0 where
  pub definitions : (k : ℕ) (t : Term) → slice_get p.definitions k ≡ Some t → MatchOption (type_of t) ⊥ (λ ty. HasSort [] t (expression ty))
  pub earlier : (k number : ℕ) (t : Term) → slice_get p.definitions k ≡ Some t → Contains (references t) number → number < length p.choices + k
  pub definitions_fit : (k : ℕ) (t : Term) → slice_get p.definitions k ≡ Some t → FitsAll scope p t
  pub facts : (t : Term) → Contains p.facts t → HasSort [] t predicate
  pub within : (t : Term) (number : ℕ) → Contains p.facts t → Contains (references t) number → number < length p.choices + length p.definitions
  pub facts_fit : (t : Term) → Contains p.facts t → FitsAll scope p t
