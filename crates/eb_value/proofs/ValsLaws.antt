-- The list of all values of a type: ascending, and complete.
use Rattle.std.proofs.Common.{◌≡◌, ◌∙◌, ℕ, zero, suc, ◌+◌, ◌<◌, ◌≤◌, ⊎_elim, true, false, ℤ, pos, ◌+ℤ◌, ◌<ℤ◌, List, [], ◌∷◌, map, refl, sym, subst, arith}
use Rattle.std.specs.List.{Contains}
use Rattle.std.specs.declared.cmp.Ordering.TheVariants.{Less}
use Rattle.std.proofs.lemmas.List.Elements.{Contains-append_cases, Contains-append_left, Contains-append_right}
use Rattle.std.proofs.lemmas.Int.{ints}
use Rattle.eb_value.specs.declared.scope.Scope.{Scope}
use Rattle.eb_value.specs.declared.types.EbType.{EbType}
use Rattle.eb_value.specs.declared.value.Value.{Value}
use Rattle.eb_value.specs.Values.{int, truth, atom, pair, set, compare_all, is_ascending}
use Rattle.eb_value.specs.Typing.{size_of}
use Rattle.eb_value.specs.Scopes.{vals, ints_from, atoms_from, pairs, sets, some_of}
use Rattle.eb_value.specs.Counts.{integers_within}
use Rattle.eb_value.proofs.TypeInduction.{ind_type}
use Rattle.eb_value.proofs.CountLaws.{vals-integer, vals-boolean, vals-carrier, vals-product, vals-power}
use Rattle.eb_value.proofs.IntegerLaws.{from_up}
use Rattle.eb_value.proofs.OrderLaws.{compare-int, compare-truth, compare-atom, compare-pair, compare-set, reflexive}
use Rattle.eb_value.proofs.Members.{contains_none, contains_cases, contains_here, contains_there}
use Rattle.eb_value.proofs.Ascending.{Rises, Below, rises_append, rises_map, contains_map, map_contains, ascending}

-- ---- ascending

int_below : (m n : ℤ) → m <ℤ n → Below (int m) (int n)
int_below m n h = compare-int m n ∙ grind (arith, ints)

pub rises-ints_from : (lo : ℤ) (n : ℕ) → Rises Below (ints_from lo n)
rises-ints_from lo zero = tt
rises-ints_from lo (suc n) = (
  λ v m. let r = from_up (lo +ℤ pos 1) n v m in subst (Below (int lo)) (sym r.1) (int_below lo r.0 (omega (arith, ints, r.2))),
  rises-ints_from (lo +ℤ pos 1) n,
)

pub atoms_up : (place k n : ℕ) (v : Value) → Contains (atoms_from place k n) v → (j : ℕ) × (v ≡ atom place j) × (k ≤ j) × (j < k + n)
atoms_up place k zero v m = absurd (contains_none v m)
atoms_up place k (suc n) v m = ⊎_elim
    (λ e. (k, sym e, omega arith, omega arith))
    (λ o. let r = atoms_up place (k + 1) n v o in (r.0, r.1, omega (arith, r.2), omega (arith, r.3)))
    (contains_cases (atom place k) (atoms_from place (k + 1) n) v m)

atom_below : (place j k : ℕ) → j < k → Below (atom place j) (atom place k)
atom_below place j k h = compare-atom place j place k ∙ grind arith

rises-atoms_from : (place k n : ℕ) → Rises Below (atoms_from place k n)
rises-atoms_from place k zero = tt
rises-atoms_from place k (suc n) = (
  λ v m. let r = atoms_up place (k + 1) n v m in subst (Below (atom place k)) (sym r.1) (atom_below place k r.0 (omega (arith, r.2))),
  rises-atoms_from place (k + 1) n,
)

pub pair_below_first : (a b c d : Value) → Below a c → Below (pair a b) (pair c d)
pair_below_first a b c d h = rw (compare-pair a b c d, h) refl

pub pair_below_second : (a b d : Value) → Below b d → Below (pair a b) (pair a d)
pair_below_second a b d h = rw (compare-pair a b a d, reflexive a) h

-- what a list of pairs has
pub contains_pairs : (xs ys : List Value) (v : Value) → Contains (pairs xs ys) v → (x : Value) × (y : Value) × (v ≡ pair x y) × Contains xs x × Contains ys y
contains_pairs [] ys v m = absurd (contains_none v m)
contains_pairs (x ∷ xs) ys v m = ⊎_elim
    (λ n. let r = contains_map (pair x) ys v n in (x, r.0, sym r.2, contains_here x xs x refl, r.1))
    (λ n. let r = contains_pairs xs ys v n in (r.0, r.1, r.2, contains_there x xs r.0 r.3, r.4))
    (Contains-append_cases (map (pair x) ys) (pairs xs ys) v m)

pub pairs_contain : (xs ys : List Value) (x y : Value) → Contains xs x → Contains ys y → Contains (pairs xs ys) (pair x y)
pairs_contain [] ys x y m n = absurd (contains_none x m)
pairs_contain (z ∷ xs) ys x y m n = ⊎_elim
    (λ e. Contains-append_left (map (pair z) ys) (pairs xs ys) (pair x y) (subst (λ w. Contains (map (pair z) ys) (pair w y)) e (map_contains (pair z) ys y n)))
    (λ o. Contains-append_right (map (pair z) ys) (pairs xs ys) (pair x y) (pairs_contain xs ys x y o n))
    (contains_cases z xs x m)

pub rises-pairs : (xs ys : List Value) → Rises Below xs → Rises Below ys → Rises Below (pairs xs ys)
rises-pairs [] ys h k = tt
rises-pairs (x ∷ xs) ys h k =
    rises_append Below (map (pair x) ys) (pairs xs ys)
    (rises_map Below Below (pair x) (λ b d l. pair_below_second x b d l) ys k)
    (rises-pairs xs ys h.1 k)
    (λ v w m n.
    let r = contains_map (pair x) ys v m in
    let s = contains_pairs xs ys w n in
    subst (λ u. Below u w) r.2 (subst (Below (pair x r.0)) (sym s.2) (pair_below_first x r.0 s.0 s.1 (h.0 s.0 s.3))))

-- ---- lists of members

abbrev ListBelow : List Value → List Value → Type 0
ListBelow s t = compare_all s t ≡ Less

-- a listed list begins with a member
pub begins : (xs : List Value) (s : List Value) → Contains (some_of xs) s → (y : Value) × (t : List Value) × (s ≡ y ∷ t) × Contains xs y
begins [] s m = absurd (contains_none s m)
begins (x ∷ xs) s m = ⊎_elim
    (λ n. let r = contains_map (λ t. x ∷ t) ([] ∷ some_of xs) s n in (x, r.0, sym r.2, contains_here x xs x refl))
    (λ n. let r = begins xs s n in (r.0, r.1, r.2, contains_there x xs r.0 r.3))
    (Contains-append_cases (map (λ t. x ∷ t) ([] ∷ some_of xs)) (some_of xs) s m)

cons_below : (x : Value) (s t : List Value) → ListBelow s t → ListBelow (x ∷ s) (x ∷ t)
cons_below x s t h = rw (reflexive x) h

head_below : (x y : Value) (s t : List Value) → Below x y → ListBelow (x ∷ s) (y ∷ t)
head_below x y s t h = rw h refl

rises_none : (xs : List Value) → Rises ListBelow (some_of xs) → Rises ListBelow ([] ∷ some_of xs)
rises_none xs h = (λ s m. let r = begins xs s m in subst (ListBelow []) (sym r.2) refl, h)

rises-some_of : (xs : List Value) → Rises Below xs → Rises ListBelow (some_of xs)
rises-some_of [] h = tt
rises-some_of (x ∷ xs) h =
    let later : Rises ListBelow (some_of xs) = rises-some_of xs h.1 in
    rises_append ListBelow (map (λ t. x ∷ t) ([] ∷ some_of xs)) (some_of xs)
    (rises_map ListBelow ListBelow (λ t. x ∷ t) (cons_below x) ([] ∷ some_of xs) (rises_none xs later))
    later
    (λ s t m n.
    let r = contains_map (λ t. x ∷ t) ([] ∷ some_of xs) s m in
    let k = begins xs t n in
    subst (λ u. ListBelow u t) r.2 (subst (ListBelow (x ∷ r.0)) (sym k.2) (head_below x k.0 r.0 k.1 (h.0 k.0 k.3))))

rises-sets : (xs : List Value) → Rises Below xs → Rises Below (sets xs)
rises-sets xs h = rises_map ListBelow Below set (λ s t l. compare-set s t ∙ l) ([] ∷ some_of xs) (rises_none xs (rises-some_of xs h))

pub rises-vals : (scope : Scope) (t : EbType) → Rises Below (vals scope t)
rises-vals scope = ind_type (λ t. Rises Below (vals scope t)) (record {
  integer = subst (Rises Below) (sym (vals-integer scope)) (rises-ints_from scope.lo (integers_within scope.lo scope.hi));
  boolean = subst (Rises Below) (sym (vals-boolean scope)) (λ v m. ⊎_elim (λ e. subst (Below (truth false)) e (compare-truth false true)) (λ n. absurd (contains_none v n)) (contains_cases (truth true) [] v m), (λ v m. absurd (contains_none v m), tt));
  carrier = λ place. subst (Rises Below) (sym (vals-carrier scope place)) (rises-atoms_from place 1 (size_of scope.sizes place));
  product = λ s t p q. subst (Rises Below) (sym (vals-product scope s t)) (rises-pairs (vals scope s) (vals scope t) p q);
  power = λ t p. subst (Rises Below) (sym (vals-power scope t)) (rises-sets (vals scope t) p);
})

pub ascending-vals : (scope : Scope) (t : EbType) → is_ascending (vals scope t) ≡ true
ascending-vals scope t = ascending (vals scope t) (rises-vals scope t)
