-- What the proofs rest on: laws of the crates below, in a scope.
use Rattle.std.proofs.Common.{◌≡◌, ℕ, true, ◌&&◌, List, slice_get, Some, None, Contains}
use Rattle.std.specs.declared.cmp.Ordering.TheVariants.{Equal}
use Rattle.eb_value.specs.declared.scope.Scope.{Scope}
use Rattle.eb_value.specs.declared.types.EbType.{EbType}
use Rattle.eb_value.specs.declared.value.Value.{Value}
use Rattle.eb_value.specs.Scopes.{vals}
use Rattle.eb_value.specs.Typing.{has_type}
use Rattle.eb_value.specs.Values.{compare}
use Rattle.type_table.specs.Rows.{Sort, predicate, expression}
use Rattle.eb_term.specs.declared.problem.Problem.{Problem}
use Rattle.eb_term.specs.declared.term.Term.{Term}
use Rattle.eb_term.specs.Leaves.{references}
use Rattle.eb_term.specs.Nodes.{nodes_of}
use Rattle.eb_term.specs.Terms.{layer}
use Rattle.eb_term.specs.Typed.{HasSort}
use Rattle.eb_meaning.specs.Meaning.{Slot, slot_at, value_of}
use Rattle.eb_meaning.specs.Fitting.{slot_has_type, fits, AreOfTypes}
use Rattle.term_types.specs.Types.{type_of}
use Rattle.problem_nodes.specs.declared.nodes.Above.{Above}
use Rattle.problem_nodes.specs.Places.{parts, definition_roots, fact_roots, part_numbers, StandsBelow}
use Rattle.problem_nodes.specs.Aboves.{above_of}
use Rattle.occ_domains.specs.declared.domain.Domain.{Domain}
use Rattle.occ_domains.specs.Bodies as bodies
use Rattle.occ_domains.specs.Domains.{Outcome, has, meet}
use Rattle.occ_domains.specs.Wholes.{whole, first}
use Rattle.occurrences.specs.declared.place.Place.TheVariants as place
use Rattle.occurrences.specs.Outcomes.{env_of, outcome_of}
use Rattle.occurrences.specs.Stores.{Domains}
use Rattle.node_rules.specs.Nodes.{up_layer, down_layer}
use Rattle.node_rules.specs.Sound.{PartsHave, ReferenceHas}

-- of values, terms and their types
pub record TermLaws (scope : Scope) : Type 0 where
  pub exact : (v w : Value) → compare v w ≡ Equal → v ≡ w
  pub complete : (ty : EbType) (v : Value) → Contains (vals scope ty) v → has_type scope v ty ≡ true
  pub value : (types : List EbType) (t : Term) (ty : EbType) → HasSort types t (expression ty) → type_of t ≡ Some ty
  pub truth : (types : List EbType) (t : Term) → HasSort types t predicate → type_of t ≡ None
  pub typed : (types : List EbType) (t : Term) (ty : EbType) (refs : List Slot) (bound : List Value) → HasSort types t (expression ty) → fits scope refs t ≡ true → AreOfTypes scope bound types
      → slot_has_type scope (value_of scope (env_of refs bound) t) ty ≡ true
  pub alike : (t : Term) (refs others : List Slot) (bound : List Value) → ((number : ℕ) → Contains (references t) number → slot_at refs number ≡ slot_at others number)
      → value_of scope (env_of refs bound) t ≡ value_of scope (env_of others bound) t

-- of the nodes of a problem
pub record NodeLaws (p : Problem) : Type 0 where
  pub definitions : (number k : ℕ) (t : Term) → slice_get p.definitions number ≡ Some t → slice_get (definition_roots p) number ≡ Some k → slice_get (nodes_of p) k ≡ Some t
  pub facts : (number k : ℕ) (t : Term) → slice_get p.facts number ≡ Some t → slice_get (fact_roots p) number ≡ Some k → slice_get (nodes_of p) k ≡ Some t
  pub parts : (number n k : ℕ) (t u : Term) → slice_get (nodes_of p) number ≡ Some t → slice_get (parts t) n ≡ Some u → slice_get (part_numbers number t) n ≡ Some k → slice_get (nodes_of p) k ≡ Some u
  pub once : (k : ℕ) (a b : Above) → StandsBelow p k a → StandsBelow p k b → a ≡ b
  pub below : (k : ℕ) (a : Above) → above_of p k ≡ Some a → StandsBelow p k a

-- of domains, and of the rules at nodes
pub record RuleLaws (scope : Scope) : Type 0 where
  pub meet : (a b : Domain) (o : Outcome) → has (meet a b) o ≡ (has a o && has b o)
  pub whole : (ty : EbType) (v : Value) → has_type scope v ty ≡ true → bodies.has (whole scope ty) v ≡ true
  pub first : (ty : EbType) (v : Value) → Contains (vals scope ty) v → bodies.has (first scope ty) v ≡ true
  pub up : (choices : ℕ) (at : Domains) (refs : List Slot) (bound : List Value) (types : List EbType) (k : ℕ) (t : Term) (s : Sort) → HasSort types t s → fits scope refs t ≡ true
      → AreOfTypes scope bound types → PartsHave scope at refs bound k t → ReferenceHas choices at refs t → has (up_layer scope choices at k bound t (layer t)) (outcome_of scope (env_of refs bound) t) ≡ true
  pub down : (at : Domains) (refs : List Slot) (bound : List Value) (types : List EbType) (k : ℕ) (t : Term) (s : Sort) → HasSort types t s → fits scope refs t ≡ true
      → AreOfTypes scope bound types → PartsHave scope at refs bound k t → (n : ℕ) (u : Term) (d : Domain) → slice_get (parts t) n ≡ Some u
      → has d (outcome_of scope (env_of refs bound) u) ≡ true → has (at (place.Node k) bound) (outcome_of scope (env_of refs bound) t) ≡ true
      → has (down_layer at k bound n (layer t) d) (outcome_of scope (env_of refs bound) u) ≡ true
