-- What references stand for: each choice's value, and what each definition is over all of them; each is of its type.
use Rattle.std.proofs.Common.{◌≡◌, ◌∙◌, refl, sym, ap, subst, ℕ, zero, suc, ◌+◌, ◌-◌, ◌<◌, inl, inr, ⊎_elim, Bool, true, false, cond, List, [], ◌∷◌, ◌++◌, map, length, slice_get, Option, Some, None, option_map, arith}
use Rattle.std.specs.Prelude.{nat_lt, unwrap_or, option_and_then}
use Rattle.std.proofs.lemmas.List.{length-append, length-map}
use Rattle.std.proofs.lemmas.Option.{MatchOption-at_some, slice_get-map, slice_get_past, slice_get_within}
use Rattle.std.proofs.lemmas.Bool.{cases_lt, cases_order}
use Rattle.std.proofs.lemmas.Bool.Decides.{nat_tests}
use Rattle.eb_value.specs.declared.scope.Scope.{Scope}
use Rattle.eb_value.specs.declared.types.EbType.{EbType}
use Rattle.eb_value.specs.declared.value.Value.{Value}
use Rattle.type_table.specs.Rows.{expression}
use Rattle.eb_term.specs.declared.problem.Choice.{Choice}
use Rattle.eb_term.specs.declared.problem.Problem.{Problem}
use Rattle.eb_term.specs.declared.term.Term.{Term}
use Rattle.eb_term.specs.Typed.{HasSort}
use Rattle.eb_meaning.specs.Meaning.{Slot, slot_at, value_of}
use Rattle.eb_meaning.specs.Fitting.{slot_has_type}
use Rattle.eb_meaning.specs.Problems.{IsValuation, outermost, with_definitions, slots_of}
use Rattle.term_types.specs.Types.{type_of}
use Rattle.occurrences.specs.declared.place.Place.TheVariants as place
use Rattle.occurrences.specs.Targets.{referred}
use Rattle.occurrences.specs.Typed.{IsTyped, type_there, named_type, AreOfNamedTypes}
use Rattle.sound_rules.proofs.Hypotheses.{TermLaws}

-- ---- lists

get_front : {A : Type 0} (xs ys : List A) (k : ℕ) → k < length xs → slice_get (xs ++ ys) k ≡ slice_get xs k
get_front [] ys k l = absurd (omega arith)
get_front (x ∷ xs) ys zero l = refl
get_front (x ∷ xs) ys (suc k) l = get_front xs ys k (omega arith)

get_last : {A : Type 0} (xs : List A) (x : A) (k : ℕ) → k ≡ length xs → slice_get (xs ++ x ∷ []) k ≡ Some x
get_last [] x zero e = refl
get_last [] x (suc k) e = absurd (omega arith)
get_last (y ∷ xs) x zero e = absurd (omega arith)
get_last (y ∷ xs) x (suc k) e = get_last xs x k (omega arith)

-- ---- what a number refers to

pub referred-choice : (choices number : ℕ) → number < choices → referred choices number ≡ place.Choice number
referred-choice choices number l = at (nat_lt number choices) refl where
  at : (b : Bool) → nat_lt number choices ≡ b → cond b (place.Choice number) (place.Definition (number - choices)) ≡ place.Choice number
  at true e = refl
  at false e = absurd (grind (arith, nat_tests))

pub referred-definition : (choices number n : ℕ) → number ≡ choices + n → referred choices number ≡ place.Definition n
referred-definition choices number n q = at (nat_lt number choices) refl where
  at : (b : Bool) → nat_lt number choices ≡ b → cond b (place.Choice number) (place.Definition (number - choices)) ≡ place.Definition n
  at true e = absurd (grind (arith, nat_tests))
  at false e = ap place.Definition (omega arith)

-- ---- the slots by their places

front_stays : (scope : Scope) (ds : List Term) (slots : List Slot) (k : ℕ) → k < length slots → slice_get (with_definitions scope slots ds) k ≡ slice_get slots k
front_stays scope [] slots k l = refl
front_stays scope (d ∷ ds) slots k l =
    let one = length-append slots (value_of scope (outermost slots) d ∷ []) in
    front_stays scope ds (slots ++ value_of scope (outermost slots) d ∷ []) k (omega (arith, l, one))
    ∙ get_front slots (value_of scope (outermost slots) d ∷ []) k l

pub valuation-length : (scope : Scope) (cs : List Choice) (vs : List Value) → IsValuation scope cs vs → length vs ≡ length cs
valuation-length scope [] [] h = refl
valuation-length scope [] (v ∷ vs) h = absurd h
valuation-length scope (c ∷ cs) [] h = absurd h
valuation-length scope (c ∷ cs) (v ∷ vs) h = ap suc (valuation-length scope cs vs h.1)

module _ (scope : Scope) (laws : TermLaws scope) where
  choice_typed : (cs : List Choice) (vs : List Value) → IsValuation scope cs vs → (k : ℕ) (ty : EbType) → option_map (λ c. c.ty) (slice_get cs k) ≡ Some ty
      → slot_has_type scope (slot_at (map (λ v. Some v) vs) k) ty ≡ true
  choice_typed [] vs h k ty e = absurd (cc)
  choice_typed (c ∷ cs) [] h k ty e = absurd h
  choice_typed (c ∷ cs) (v ∷ vs) h zero ty e = let same : c.ty ≡ ty = cc in subst (λ t. slot_has_type scope (Some v) t ≡ true) same (laws.complete c.ty v h.0)
  choice_typed (c ∷ cs) (v ∷ vs) h (suc k) ty e = choice_typed cs vs h.1 k ty e

  module _ (p : Problem) (typed : IsTyped scope p) where
    -- the definitions from a place on
    abbrev From : ℕ → List Term → Type 0
    From n ds = (k : ℕ) (d : Term) → slice_get ds k ≡ Some d → slice_get p.definitions (n + k) ≡ Some d

    from_next : (n : ℕ) (d : Term) (ds : List Term) → From n (d ∷ ds) → From (suc n) ds
    from_next n d ds f k e g = ap (slice_get p.definitions) (let q : suc n + k ≡ n + suc k = omega arith in q) ∙ f (suc k) e g

    from_here : (n : ℕ) (d : Term) (ds : List Term) → From n (d ∷ ds) → slice_get p.definitions n ≡ Some d
    from_here n d ds f = ap (slice_get p.definitions) (let q : n ≡ n + 0 = omega arith in q) ∙ f 0 d refl

    definition_sort : (n : ℕ) (d : Term) (ty : EbType) → slice_get p.definitions n ≡ Some d → type_of d ≡ Some ty → HasSort [] d (expression ty)
    definition_sort n d ty e t = MatchOption-at_some ⊥ (λ u. HasSort [] d (expression u)) ty t (typed.definitions n d e)

    -- a definition has a value of its type over slots of their types, or is Undefined
    definition_typed : (n : ℕ) (d : Term) (ty : EbType) (slots : List Slot) → slice_get p.definitions n ≡ Some d → type_of d ≡ Some ty → AreOfNamedTypes scope p slots
        → slot_has_type scope (value_of scope (outermost slots) d) ty ≡ true
    definition_typed n d ty slots e t h = laws.typed [] d ty slots [] (definition_sort n d ty e t) (typed.definitions_fit n d e slots h) tt

    named-definition : (n number : ℕ) (d : Term) → number ≡ length p.choices + n → slice_get p.definitions n ≡ Some d → named_type p number ≡ type_of d
    named-definition n number d q e = ap (type_there p) (referred-definition (length p.choices) number n q) ∙ ap (option_and_then type_of) e

    one_more : (n : ℕ) (d : Term) (slots : List Slot) → slice_get p.definitions n ≡ Some d → length slots ≡ length p.choices + n → AreOfNamedTypes scope p slots
        → AreOfNamedTypes scope p (slots ++ value_of scope (outermost slots) d ∷ [])
    one_more n d slots e q h number ty t =
        let s : Slot = value_of scope (outermost slots) d in
        let at = λ (o : Option Slot) (g : slice_get (slots ++ s ∷ []) number ≡ o) (r : slot_has_type scope (unwrap_or o None) ty ≡ true). subst (λ x. slot_has_type scope (unwrap_or x None) ty ≡ true) (sym g) r in
        elim (cases_order number (length slots)) [
          | inl same ↦ at (Some s) (get_last slots s number same) (definition_typed n d ty slots e (sym (named-definition n number d (same ∙ q) e) ∙ t) h)
          | inr m ↦ elim m [
            | inl l ↦ at (slice_get slots number) (get_front slots (s ∷ []) number l) (h number ty t)
            | inr past ↦ at None (slice_get_past (slots ++ s ∷ []) number (let one = length-append slots (s ∷ []) in omega (arith, one))) refl
          ]
        ]

    slots_typed : (n : ℕ) (ds : List Term) (slots : List Slot) → From n ds → length slots ≡ length p.choices + n → AreOfNamedTypes scope p slots
        → AreOfNamedTypes scope p (with_definitions scope slots ds)
    slots_typed n [] slots f q h = h
    slots_typed n (d ∷ ds) slots f q h =
        let more : List Slot = slots ++ value_of scope (outermost slots) d ∷ [] in
        let one : length more ≡ length slots + 1 = length-append slots (value_of scope (outermost slots) d ∷ []) in
        slots_typed (suc n) ds more (from_next n d ds f) (omega (arith, one)) (one_more n d slots (from_here n d ds f) q h)

    -- over the slots before it, a definition is what it is over all
    definition_alike : (n : ℕ) (d : Term) (ds : List Term) (slots : List Slot) → slice_get p.definitions n ≡ Some d → length slots ≡ length p.choices + n
        → value_of scope (outermost slots) d ≡ value_of scope (outermost (with_definitions scope slots ds)) d
    definition_alike n d ds slots e q = laws.alike d slots (with_definitions scope slots ds) []
        (λ number c. let l : number < length p.choices + n = typed.earlier n number d e c in sym (ap (λ o. unwrap_or o None) (front_stays scope ds slots number (omega (arith, l)))))

    definition_stands : (n : ℕ) (ds : List Term) (slots : List Slot) → From n ds → length slots ≡ length p.choices + n → (k : ℕ) (d : Term) → slice_get ds k ≡ Some d
        → slice_get (with_definitions scope slots ds) (length slots + k) ≡ Some (value_of scope (outermost (with_definitions scope slots ds)) d)
    definition_stands n [] slots f q k d e = absurd (cc)
    definition_stands n (u ∷ ds) slots f q zero d e =
        let same : u ≡ d = cc in
        let more : List Slot = slots ++ value_of scope (outermost slots) u ∷ [] in
        let one : length more ≡ length slots + 1 = length-append slots (value_of scope (outermost slots) u ∷ []) in
        let here : length slots + 0 ≡ length slots = omega arith in
        let all : List Slot = with_definitions scope slots (u ∷ ds) in
        subst (λ t. slice_get all (length slots + 0) ≡ Some (value_of scope (outermost all) t)) same
        (front_stays scope ds more (length slots + 0) (omega (arith, one))
        ∙ get_last slots (value_of scope (outermost slots) u) (length slots + 0) here
        ∙ ap Some (definition_alike n u (u ∷ ds) slots (from_here n u ds f) q))
    definition_stands n (u ∷ ds) slots f q (suc k) d e =
        let more : List Slot = slots ++ value_of scope (outermost slots) u ∷ [] in
        let one : length more ≡ length slots + 1 = length-append slots (value_of scope (outermost slots) u ∷ []) in
        ap (slice_get (with_definitions scope more ds)) (let g : length slots + suc k ≡ length more + k = omega (arith, one) in g)
        ∙ definition_stands (suc n) ds more (from_next n u ds f) (omega (arith, one)) k d e

    -- ---- of the whole problem

    module _ (values : List Value) (valuation : IsValuation scope p.choices values) where
      abbrev pub slots : List Slot
      slots = slots_of scope p.definitions values

      given : List Slot
      given = map (λ v. Some v) values

      given-length : length given ≡ length p.choices
      unfolding given
      given-length = length-map values (λ v. Some v) ∙ valuation-length scope p.choices values valuation

      first_length : length given ≡ length p.choices + 0
      first_length = omega (arith, given-length)

      whole : From 0 p.definitions
      whole k d e = ap (slice_get p.definitions) (let q : 0 + k ≡ k = omega arith in q) ∙ e

      given_typed : AreOfNamedTypes scope p given
      unfolding given
      given_typed number ty t = ⊎_elim
          (λ l. choice_typed p.choices values valuation number ty (sym (ap (type_there p) (referred-choice (length p.choices) number l)) ∙ t))
          (λ l. subst (λ s. slot_has_type scope s ty ≡ true) (sym (ap (λ o. unwrap_or o None) (slice_get_past given number (omega (arith, l, given-length))))) refl)
          (cases_lt number (length p.choices))

      -- each slot has the type of what it stands for
      pub are_of_types : AreOfNamedTypes scope p slots
      unfolding given
      are_of_types = slots_typed 0 p.definitions given whole first_length given_typed

      -- a choice's slot is its value
      pub choice_slot : (k : ℕ) (v : Value) → slice_get values k ≡ Some v → slice_get slots k ≡ Some (Some v)
      unfolding given
      choice_slot k v e =
          let l : k < length values = slice_get_within values k v e in
          front_stays scope p.definitions given k (omega (arith, l, length-map {B = Slot} values (λ v. Some v)))
          ∙ slice_get-map (λ v. Some v) values k ∙ ap (option_map (λ v. Some v)) e

      -- a definition's slot is what it is over all slots
      pub definition_slot : (k : ℕ) (d : Term) → slice_get p.definitions k ≡ Some d → slice_get slots (length p.choices + k) ≡ Some (value_of scope (outermost slots) d)
      unfolding given
      definition_slot k d e = ap (λ n. slice_get slots (n + k)) (sym given-length) ∙ definition_stands 0 p.definitions given whole first_length k d e
