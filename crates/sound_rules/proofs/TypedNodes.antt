-- Nodes of a typed problem: where each stands, and that it is typed inside the binders around it.
use Rattle.std.proofs.Common.{◌≡◌, ◌∙◌, refl, sym, ap, subst, ℕ, zero, suc, ◌+◌, ◌<◌, true, List, [], ◌∷◌, length, slice_get, Option, Some, None, MatchOption, Contains, arith}
use Rattle.std.proofs.lemmas.Option.{MatchOption-at_some, same_Some, slice_get_within, get_or_from_slice_get}
use Rattle.eb_value.specs.declared.scope.Scope.{Scope}
use Rattle.eb_value.specs.declared.types.EbType.{EbType}
use Rattle.eb_value.specs.declared.value.Value.{Value}
use Rattle.type_table.specs.Rows.{Sort, predicate, expression}
use Rattle.eb_term.specs.declared.problem.Problem.{Problem}
use Rattle.eb_term.specs.declared.term.Term.{Term}
use Rattle.eb_term.specs.Leaves.{references}
use Rattle.eb_term.specs.Nodes.{nodes_of}
use Rattle.eb_term.specs.Typed.{HasSort}
use Rattle.eb_meaning.specs.Meaning.{Slot}
use Rattle.eb_meaning.specs.Fitting.{fits, AreOfTypes}
use Rattle.term_types.specs.Types.{type_of}
use Rattle.problem_nodes.specs.declared.nodes.Above.TheVariants as above
use Rattle.problem_nodes.specs.Places.{parts, size, starts, part_numbers, StandsBelow}
use Rattle.occurrences.specs.Binding.{binds}
use Rattle.occurrences.specs.Occurrences as occurrences
use Rattle.occurrences.specs.Occurrences.{StandsInside}
use Rattle.occurrences.specs.Typed.{IsTyped, AreOfNamedTypes}
use Rattle.sound_rules.proofs.Hypotheses.{TermLaws, NodeLaws}
use Rattle.sound_rules.proofs.Parts.{part_fits, part_refers}
use Rattle.sound_rules.proofs.TypedParts.{inside, part_typed}

-- ---- lists

pub same_there : {A : Type 0} (xs : List A) (k : ℕ) (x y : A) → slice_get xs k ≡ Some x → slice_get xs k ≡ Some y → x ≡ y
same_there xs k x y e f = same_Some x y (sym e ∙ f)

pub contained : {A : Type 0} (xs : List A) (k : ℕ) (x : A) → slice_get xs k ≡ Some x → Contains xs x
contained xs k x e = (k, slice_get_within xs k x e, get_or_from_slice_get xs k x x e)

-- a number of terms that follow each other is that of a term
pub started : (b : ℕ) (ts : List Term) (n k : ℕ) → slice_get (starts b ts) n ≡ Some k → (t : Term) × (slice_get ts n ≡ Some t)
started b [] n k e = absurd (cc)
started b (t ∷ ts) zero k e = (t, refl)
started b (t ∷ ts) (suc n) k e = started (b + size t) ts n k e

-- no types, no values
pub no_values : (scope : Scope) (vs : List Value) (types : List EbType) → AreOfTypes scope vs types → types ≡ [] → vs ≡ []
no_values scope [] types a e = refl
no_values scope (v ∷ vs) [] a e = absurd a
no_values scope (v ∷ vs) (t ∷ ts) a e = absurd (cc)

-- ---- what nodes stand below

module _ (p : Problem) (nodes : NodeLaws p) where
  -- a node that stands below a node is the part at its place
  pub part_there : (k number n : ℕ) (u t : Term) → StandsBelow p k (above.Part number n) → slice_get (nodes_of p) number ≡ Some u → slice_get (nodes_of p) k ≡ Some t
      → slice_get (parts u) n ≡ Some t
  part_there k number n u t s e f =
      let g : slice_get (part_numbers number u) n ≡ Some k = MatchOption-at_some ⊥ (λ w. slice_get (part_numbers number w) n ≡ Some k) u e s in
      let r = started (suc number) (parts u) n k g in
      subst (λ w. slice_get (parts u) n ≡ Some w) (same_there (nodes_of p) k r.0 t (nodes.parts number n k u r.0 e r.1 g) f) r.1

  -- a part of a node stands below it
  pub part_below : (k number n : ℕ) (u : Term) → slice_get (nodes_of p) number ≡ Some u → slice_get (part_numbers number u) n ≡ Some k → StandsBelow p k (above.Part number n)
  part_below k number n u e g = subst (λ o. MatchOption o ⊥ (λ w. slice_get (part_numbers number w) n ≡ Some k)) (sym e) g

  -- a definition stands inside no binder
  pub definition_outside : (k number : ℕ) (types : List EbType) → StandsBelow p k (above.Definition number) → StandsInside p k types → types ≡ []
  definition_outside k number _ s (occurrences.definition n b) = refl
  definition_outside k number _ s (occurrences.fact n b) = refl
  definition_outside k number _ s (occurrences.beside m n t b e f i) = absurd (let g = nodes.once k (above.Part m n) (above.Definition number) b s in cc)
  definition_outside k number _ s (occurrences.within m n t ty b e f i) = absurd (let g = nodes.once k (above.Part m n) (above.Definition number) b s in cc)

  -- nor does a fact
  pub fact_outside : (k number : ℕ) (types : List EbType) → StandsBelow p k (above.Fact number) → StandsInside p k types → types ≡ []
  fact_outside k number _ s (occurrences.definition n b) = refl
  fact_outside k number _ s (occurrences.fact n b) = refl
  fact_outside k number _ s (occurrences.beside m n t b e f i) = absurd (let g = nodes.once k (above.Part m n) (above.Fact number) b s in cc)
  fact_outside k number _ s (occurrences.within m n t ty b e f i) = absurd (let g = nodes.once k (above.Part m n) (above.Fact number) b s in cc)

  part_is : (k m n number j : ℕ) → StandsBelow p k (above.Part m n) → StandsBelow p k (above.Part number j) → (m ≡ number) × (n ≡ j)
  part_is k m n number j b s = let g = nodes.once k (above.Part m n) (above.Part number j) b s in (cc, cc)

  -- the node of a part beside it stands inside the same binders
  pub whole_inside : (k number n : ℕ) (u : Term) (types : List EbType) → StandsBelow p k (above.Part number n) → slice_get (nodes_of p) number ≡ Some u → binds u n ≡ None → StandsInside p k types
      → StandsInside p number types
  whole_inside k number n u _ s g h (occurrences.definition m b) = absurd (let e = nodes.once k (above.Definition m) (above.Part number n) b s in cc)
  whole_inside k number n u _ s g h (occurrences.fact m b) = absurd (let e = nodes.once k (above.Fact m) (above.Part number n) b s in cc)
  whole_inside k number n u types s g h (occurrences.beside m j t b e f i) = subst (λ x. StandsInside p x types) (part_is k m j number n b s).0 i
  whole_inside k number n u _ s g h (occurrences.within m j t ty b e f i) =
      let same = part_is k m j number n b s in
      let term : t ≡ u = same_there (nodes_of p) number t u (ap (slice_get (nodes_of p)) (sym same.0) ∙ e) g in
      absurd (differ ty (sym h ∙ ap (binds u) (sym same.1) ∙ ap (λ w. binds w j) (sym term) ∙ f))
    where
      differ : (ty : EbType) → None ≡ Some ty → ⊥
      differ ty e = cc

-- ---- typed nodes

-- The term is typed inside binders of these types, it fits, and it refers to choices and definitions.
pub record IsNode (scope : Scope) (p : Problem) (slots : List Slot) (types : List EbType) (t : Term) : Type 0 where
  pub sort : Sort
  pub typed : HasSort types t sort
  pub fit : fits scope slots t ≡ true
  pub refers : (number : ℕ) → Contains (references t) number → number < length p.choices + length p.definitions

module _ (scope : Scope) (laws : TermLaws scope) (p : Problem) (nodes : NodeLaws p) (typed : IsTyped scope p) (slots : List Slot) (are : AreOfNamedTypes scope p slots) where
  pub definition_node : (number : ℕ) (d : Term) → slice_get p.definitions number ≡ Some d → IsNode scope p slots [] d
  definition_node number d e = at (type_of d) (typed.definitions number d e) where
    at : (o : Option EbType) → MatchOption o ⊥ (λ ty. HasSort [] d (expression ty)) → IsNode scope p slots [] d
    at None h = absurd h
    at (Some ty) h = record {
      sort = expression ty;
      typed = h;
      fit = typed.definitions_fit number d e slots are;
      refers = λ m c. let l : m < length p.choices + number = typed.earlier number m d e c in omega (arith, l, slice_get_within p.definitions number d e);
    }

  fact_node : (f : Term) → Contains p.facts f → IsNode scope p slots [] f
  fact_node f c = record { sort = predicate; typed = typed.facts f c; fit = typed.facts_fit f c slots are; refers = λ m r. typed.within f m c r }

  part_node : (types : List EbType) (u t : Term) (n : ℕ) → slice_get (parts u) n ≡ Some t → IsNode scope p slots types u → IsNode scope p slots (inside types (binds u n)) t
  part_node types u t n e node =
      let h = part_typed laws.value types u node.sort node.typed n t e in
      record { sort = h.0; typed = h.1; fit = part_fits scope slots u t n e node.fit; refers = λ m c. node.refers m (part_refers u t n m e c) }

  -- a node is typed inside the binders around it
  pub typed_node : (k : ℕ) (types : List EbType) → StandsInside p k types → (t : Term) → slice_get (nodes_of p) k ≡ Some t → IsNode scope p slots types t
  typed_node k _ (occurrences.definition number b) t e =
      let r = started 0 p.definitions number k b in
      subst (IsNode scope p slots []) (same_there (nodes_of p) k r.0 t (nodes.definitions number k r.0 r.1 b) e) (definition_node number r.0 r.1)
  typed_node k _ (occurrences.fact number b) t e =
      let r = started _ p.facts number k b in
      subst (IsNode scope p slots []) (same_there (nodes_of p) k r.0 t (nodes.facts number k r.0 r.1 b) e) (fact_node r.0 (contained p.facts number r.0 r.1))
  typed_node k types (occurrences.beside number n u b f g i) t e =
      subst (λ o. IsNode scope p slots (inside types o) t) g (part_node types u t n (part_there p nodes k number n u t b f e) (typed_node number types i u f))
  typed_node k _ (occurrences.within {types = types} number n u ty b f g i) t e =
      subst (λ o. IsNode scope p slots (inside types o) t) g (part_node types u t n (part_there p nodes k number n u t b f e) (typed_node number types i u f))
