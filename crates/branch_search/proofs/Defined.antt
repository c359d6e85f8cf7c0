-- Where each fact is True, and each definition is named by one, each definition has a value.
use Rattle.std.proofs.Common.{◌≡◌, ◌∙◌, ap, refl, sym, subst, ℕ, zero, suc, ◌+◌, ◌<◌, ◌⊎◌, inl, inr, ⊎_elim, Bool, true, false, not, ◌&&◌, ◌||◌, cond, Some, None, List, [], ◌∷◌, ◌++◌, map, length, slice_get, Contains, arith}
use Rattle.std.specs.Prelude.{unwrap_or}
use Rattle.std.specs.List.{All, list_all, list_any, flat_map}
use Rattle.std.proofs.lemmas.List.{length-append, length-map}
use Rattle.std.proofs.lemmas.List.Elements.{Contains-append_cases}
use Rattle.eb_value.specs.declared.scope.Scope.{Scope}
use Rattle.eb_value.specs.declared.value.Value.{Value}
use Rattle.eb_term.specs.declared.term.Term.{Term}
use Rattle.eb_term.specs.declared.problem.Problem.{Problem}
use Rattle.eb_term.specs.Leaves.{references}
use Rattle.eb_operations.specs.declared.truth3.Truth3.{Truth3}
use Rattle.eb_operations.specs.declared.truth3.Truth3.TheVariants.{True, Undefined}
use Rattle.eb_meaning.specs.Meaning.{Slot, is_value, slot_at, value_of, truth_in}
use Rattle.eb_meaning.specs.Problems.{outermost, with_definitions, slots_of, is_undefined_at, names_undefined, fact_at, IsTrueOf, AreDefinitionsNamed}

-- ---- lists

both : (a b : Bool) → a ≡ true → b ≡ true → (a && b) ≡ true
both true b e f = f
both false b e f = absurd (cc)

neither : (a b : Bool) → (a || b) ≡ false → (a ≡ false) × (b ≡ false)
neither false b e = (refl, e)
neither true b e = absurd (cc)

is_true_of_not : (b : Bool) → not b ≡ false → b ≡ true
is_true_of_not true e = refl
is_true_of_not false e = absurd (cc)

fails_at : {A : Type 0} (test : A → Bool) (xs : List A) (x : A) → list_any test xs ≡ false → Contains xs x → test x ≡ false
fails_at test [] x e (k, l, same) = absurd (omega (arith, l))
fails_at test (y ∷ xs) x e (zero, l, same) = subst (λ z. test z ≡ false) same (neither (test y) (list_any test xs) e).0
fails_at test (y ∷ xs) x e (suc k, l, same) = fails_at test xs x (neither (test y) (list_any test xs) e).1 (k, omega (arith, l), same)

get_front : (slots more : List Slot) (k : ℕ) → k < length slots → slice_get (slots ++ more) k ≡ slice_get slots k
get_front [] more k l = absurd (omega arith)
get_front (s ∷ slots) more zero l = refl
get_front (s ∷ slots) more (suc k) l = get_front slots more k (omega arith)

split_place : (n k : ℕ) → (k < n) ⊎ ((j : ℕ) × (k ≡ n + j))
split_place zero k = inr (k, omega arith)
split_place (suc n) zero = inl (omega arith)
split_place (suc n) (suc k) = ⊎_elim (λ l. inl (omega (arith, l))) (λ m. inr (m.0, omega (arith, m.1))) (split_place n k)

-- ---- slots

each_slot : (slots : List Slot) → ((k : ℕ) → k < length slots → is_value (slot_at slots k) ≡ true) → list_all is_value slots ≡ true
each_slot [] h = refl
each_slot (s ∷ slots) h = both (is_value s) (list_all is_value slots) (h 0 (omega arith)) (each_slot slots (λ k l. h (suc k) (omega (arith, l))))

length-definitions : (scope : Scope) (ds : List Term) (slots : List Slot) → length (with_definitions scope slots ds) ≡ length slots + length ds
length-definitions scope [] slots = omega arith
length-definitions scope (d ∷ ds) slots =
    let more = length-definitions scope ds (slots ++ value_of scope (outermost slots) d ∷ []) in
    let one = length-append slots (value_of scope (outermost slots) d ∷ []) in
    omega (arith, more, one)

front_stays : (scope : Scope) (ds : List Term) (slots : List Slot) (k : ℕ) → k < length slots → slot_at (with_definitions scope slots ds) k ≡ slot_at slots k
front_stays scope [] slots k l = refl
front_stays scope (d ∷ ds) slots k l =
    let one = length-append slots (value_of scope (outermost slots) d ∷ []) in
    front_stays scope ds (slots ++ value_of scope (outermost slots) d ∷ []) k (omega (arith, l, one))
    ∙ ap (λ o. unwrap_or o None) (get_front slots (value_of scope (outermost slots) d ∷ []) k l)

given_value : (values : List Value) (k : ℕ) → k < length values → is_value (slot_at (map (λ v. Some v) values) k) ≡ true
given_value [] k l = absurd (omega arith)
given_value (v ∷ values) zero l = refl
given_value (v ∷ values) (suc k) l = given_value values k (omega arith)

-- ---- facts

names_none : (undefined : Bool) (t : Truth3) → cond undefined Undefined t ≡ True → undefined ≡ false
names_none true t e = absurd (cc)
names_none false t e = refl

-- what stands at a place that there is, has a value or is Undefined
value_there : (slots : List Slot) (place : ℕ) → place < length slots → is_undefined_at slots place ≡ false → is_value (slot_at slots place) ≡ true
value_there [] place l e = absurd (omega arith)
value_there (s ∷ slots) zero l e = is_true_of_not (is_value s) e
value_there (s ∷ slots) (suc place) l e = value_there slots place (omega arith) e

named_value : (scope : Scope) (slots : List Slot) (facts : List Term) (place : ℕ) → place < length slots → All (λ fact. fact_at scope slots fact ≡ True) facts
    → Contains (flat_map references facts) place → is_value (slot_at slots place) ≡ true
named_value scope slots [] place within all (k, l, same) = absurd (omega (arith, l))
named_value scope slots (fact ∷ facts) place within all named = ⊎_elim
    (λ here. value_there slots place within
    (fails_at (is_undefined_at slots) (references fact) place (names_none (names_undefined slots fact) (truth_in scope (outermost slots) fact) (all 0 fact (omega arith))) here))
    (λ later. named_value scope slots facts place within (λ i d l. all (suc i) d (omega (arith, l))) later)
    (Contains-append_cases (references fact) (flat_map references facts) place named)

pub all_defined : (scope : Scope) (problem : Problem) (values : List Value) → length values ≡ length problem.choices → AreDefinitionsNamed problem
    → All (IsTrueOf scope problem.definitions values) problem.facts → list_all is_value (slots_of scope problem.definitions values) ≡ true
all_defined scope problem values same named all = each_slot (slots_of scope problem.definitions values) there where
  there : (k : ℕ) → k < length (slots_of scope problem.definitions values) → is_value (slot_at (slots_of scope problem.definitions values) k) ≡ true
  there k l =
      let given : length (map (λ v. Some v) values) ≡ length values = length-map values (λ v. Some v) in
      let count = length-definitions scope problem.definitions (map (λ v. Some v) values) in
      ⊎_elim
      (λ front. ap is_value (front_stays scope problem.definitions (map (λ v. Some v) values) k (omega (arith, front, given))) ∙ given_value values k front)
      (λ back. subst (λ place. is_value (slot_at (slots_of scope problem.definitions values) place) ≡ true) (sym back.1)
      (subst (λ n. is_value (slot_at (slots_of scope problem.definitions values) (n + back.0)) ≡ true) (sym same)
      (named_value scope (slots_of scope problem.definitions values) problem.facts (length problem.choices + back.0) (omega (arith, l, same, back.1)) all (named back.0 (omega (arith, l, count, given, back.1))))))
      (split_place (length values) k)
