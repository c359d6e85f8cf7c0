-- Membership in lists of values, by test and by place.
use Rattle.std.proofs.Common.{◌≡◌, ◌∙◌, ℕ, zero, suc, ◌<◌, ◌⊎◌, inl, inr, ⊎_elim, Bool, true, false, ◌&&◌, ◌||◌, List, [], ◌∷◌, length, get_or, Some, ℤ, int_le, ◌≤ℤ◌, refl, sym, ap, subst, arith, rules}
use Rattle.std.specs.List.{Contains}
use Rattle.std.specs.Cmp.{first_so, second_so}
use Rattle.std.proofs.lemmas.Bool.{false≢true}
use Rattle.std.proofs.lemmas.Int.{ints}
use Rattle.eb_value.specs.declared.scope.Scope.{Scope}
use Rattle.eb_value.specs.declared.types.EbType as type_module
use Rattle.eb_value.specs.declared.value.Value.{Value}
use Rattle.eb_value.specs.Types.{integer}
use Rattle.eb_value.specs.Values.{int}
use Rattle.eb_value.specs.Scopes.{vals}
use Rattle.eb_value.specs.Comprehensions.{same, has}
use Rattle.eb_meaning.specs.Arithmetic.{interval, int_of}
use Rattle.eb_narrow.proofs.Hypotheses.{Laws}
use Rattle.eb_narrow.proofs.Views.{both_so, bool_alike, same_so, so_same, int_of-int}

pub contains_none : {A : Type 0} (v : A) → Contains [] v → ⊥
contains_none v h = let l : h.0 < 0 = h.1 in omega arith

cases_at : {A : Type 0} (x : A) (xs : List A) (v : A) (k : ℕ) → k < length (x ∷ xs) → get_or (x ∷ xs) k v ≡ v → (x ≡ v) ⊎ Contains xs v
cases_at x xs v zero l e = inl e
cases_at x xs v (suc k) l e = inr (k, omega arith, e)

pub contains_cases : {A : Type 0} (x : A) (xs : List A) (v : A) → Contains (x ∷ xs) v → (x ≡ v) ⊎ Contains xs v
contains_cases x xs v h = cases_at x xs v h.0 h.1 h.2

pub contains_here : {A : Type 0} (x : A) (xs : List A) (v : A) → x ≡ v → Contains (x ∷ xs) v
contains_here x xs v e = (0, omega arith, e)

pub contains_there : {A : Type 0} (x : A) (xs : List A) (v : A) → Contains xs v → Contains (x ∷ xs) v
contains_there x xs v h = let l : h.0 < length xs = h.1 in (suc h.0, omega arith, h.2)

pub or_cases : (a b : Bool) → (a || b) ≡ true → (a ≡ true) ⊎ (b ≡ true)
or_cases true b h = inl refl
or_cases false b h = inr h

pub or_left : (a b : Bool) → a ≡ true → (a || b) ≡ true
or_left a b h = rw h refl

pub or_right : (a b : Bool) → b ≡ true → (a || b) ≡ true
or_right true b h = refl
or_right false b h = h

pub has_contains : Laws → (xs : List Value) (v : Value) → has xs v ≡ true → Contains xs v
has_contains laws [] v h = absurd (false≢true h)
has_contains laws (x ∷ xs) v h = ⊎_elim (λ e. contains_here x xs v (sym (same_so laws v x e))) (λ k. contains_there x xs v (has_contains laws xs v k)) (or_cases (same v x) (has xs v) h)

pub contains_has : Laws → (xs : List Value) (v : Value) → Contains xs v → has xs v ≡ true
contains_has laws [] v h = absurd (contains_none v h)
contains_has laws (x ∷ xs) v h = ⊎_elim (λ e. or_left (same v x) (has xs v) (so_same laws v x (sym e))) (λ k. or_right (same v x) (has xs v) (contains_has laws xs v k)) (contains_cases x xs v h)

-- ---- intervals

le_so : (m n : ℤ) → int_le m n ≡ true → m ≤ℤ n
le_so m n h = grind (arith, ints)

so_le : (m n : ℤ) → m ≤ℤ n → int_le m n ≡ true
so_le m n h = grind (arith, ints)

abbrev between : ℤ → ℤ → Scope
between m n = record { lo = m; hi = n; sizes = []; depth = 0 }

vals_between : (m n : ℤ) → vals (between m n) integer ≡ interval m n
vals_between m n = search (rules, type_module.the_lemmas)

same_int : (m n : ℤ) → int m ≡ int n → m ≡ n
same_int m n e = let h : Some m ≡ Some n = sym (int_of-int m) ∙ (ap int_of e ∙ int_of-int n) in cc

pub in_interval : Laws → (m n k : ℤ) → has (interval m n) (int k) ≡ (int_le m k && int_le k n)
in_interval laws m n k = bool_alike (has (interval m n) (int k)) (int_le m k && int_le k n)
    (λ h. let b = (laws.bounds (between m n) (int k)).0 (subst (λ xs. Contains xs (int k)) (sym (vals_between m n)) (has_contains laws (interval m n) (int k) h)) in
    let e : k ≡ b.0 = same_int k b.0 b.1 in
    both_so (int_le m k) (int_le k n) (so_le m k (subst (λ j. m ≤ℤ j) (sym e) b.2)) (so_le k n (subst (λ j. j ≤ℤ n) (sym e) b.3)))
    (λ h. contains_has laws (interval m n) (int k) (subst (λ xs. Contains xs (int k)) (vals_between m n)
    ((laws.bounds (between m n) (int k)).1 (k, refl, le_so m k (first_so (int_le m k) (int_le k n) h), le_so k n (second_so (int_le m k) (int_le k n) h)))))
