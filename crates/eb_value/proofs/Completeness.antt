-- The list of all values of a type has exactly the bounded values of the type.
use Rattle.std.proofs.Common.{◌≡◌, ◌∙◌, ℕ, zero, suc, ◌+◌, ◌<◌, ◌≤◌, ◌↔◌, ⊎_elim, Bool, true, false, ◌&&◌, ◌==◌, nat_le, ℤ, pos, negsuc, int_le, ◌≤ℤ◌, List, [], ◌∷◌, map, refl, sym, ap, subst, arith}
use Rattle.std.specs.List.{Contains, list_all}
use Rattle.std.specs.Cmp.{first_so, second_so}
use Rattle.std.proofs.lemmas.List.Elements.{Contains-append_cases, Contains-append_left, Contains-append_right}
use Rattle.std.proofs.lemmas.Int.{ints}
use Rattle.std.proofs.lemmas.Bool.{cases_lt}
use Rattle.std.proofs.lemmas.Bool.Decides.{nat_tests}
use Rattle.eb_value.specs.declared.scope.Scope.{Scope}
use Rattle.eb_value.specs.declared.types.EbType.{EbType}
use Rattle.eb_value.specs.declared.value.Value.{Value}
use Rattle.eb_value.specs.Types.{integer, boolean, carrier, product, power}
use Rattle.eb_value.specs.Values.{truth, atom, pair, set, is_ascending}
use Rattle.eb_value.specs.Typing.{size_of, has_type, is_bounded}
use Rattle.eb_value.specs.Scopes.{vals, atoms_from, some_of}
use Rattle.eb_value.proofs.Induction.{as_int, as_truth, as_atom, as_pair, as_set}
use Rattle.eb_value.proofs.TypeInduction.{ind_type}
use Rattle.eb_value.proofs.OrderLaws.{transitive}
use Rattle.eb_value.proofs.CountLaws.{vals-boolean, vals-carrier, vals-product, vals-power}
use Rattle.eb_value.proofs.IntegerLaws.{integers_within_bounds, within_bounds_integers}
use Rattle.eb_value.proofs.Members.{contains_none, contains_cases, contains_here, contains_there}
use Rattle.eb_value.proofs.Ascending.{Rises, Below, not_below, contains_map, map_contains, rises, ascending}
use Rattle.eb_value.proofs.ValsLaws.{rises-vals, contains_pairs, pairs_contain, atoms_up}
use Rattle.eb_value.proofs.TypingLaws

-- The value is one of the type, and its integers lie within the bounds.
abbrev pub IsOne : Scope → EbType → Value → Type 0
IsOne scope t v = (has_type scope v t ≡ true) × (is_bounded scope v ≡ true)

pub record IsNarrow (scope : Scope) : Type 0 where
  pub low : negsuc 4611686018427387903 ≤ℤ scope.lo
  pub high : scope.hi ≤ℤ pos 4611686018427387904

-- ---- integers

le_so : (m n : ℤ) → int_le m n ≡ true → m ≤ℤ n
le_so m n h = grind (arith, ints)

pub so_le : (m n : ℤ) → m ≤ℤ n → int_le m n ≡ true
so_le m n h = grind (arith, ints)

listed_integer : (scope : Scope) → IsNarrow scope → (v : Value) → Contains (vals scope integer) v → IsOne scope integer v
listed_integer scope narrow v m =
    let r = integers_within_bounds scope v m in
    subst (IsOne scope integer) (sym r.1) (
      TypingLaws.has_type-int scope r.0 ∙ TypingLaws.both_so (int_le (negsuc 4611686018427387903) r.0) (int_le r.0 (pos 4611686018427387904)) (so_le (negsuc 4611686018427387903) r.0 (omega (arith, ints, r.2, narrow.low))) (so_le r.0 (pos 4611686018427387904) (omega (arith, ints, r.3, narrow.high))),
      TypingLaws.is_bounded-int scope r.0 ∙ TypingLaws.both_so (int_le scope.lo r.0) (int_le r.0 scope.hi) (so_le scope.lo r.0 r.2) (so_le r.0 scope.hi r.3),
    )

listed-integer : (scope : Scope) (v : Value) → IsOne scope integer v → Contains (vals scope integer) v
listed-integer scope = as_int (λ v. IsOne scope integer v → Contains (vals scope integer) v)
    (λ n h.
    let b : (int_le scope.lo n && int_le n scope.hi) ≡ true = sym (TypingLaws.is_bounded-int scope n) ∙ h.1 in
    within_bounds_integers scope n (le_so scope.lo n (first_so (int_le scope.lo n) (int_le n scope.hi) b)) (le_so n scope.hi (second_so (int_le scope.lo n) (int_le n scope.hi) b)))
    (λ v k h. let e : false ≡ true = sym (TypingLaws.integer_other scope v k) ∙ h.0 in cc)

abbrev Complete : Scope → EbType → Type 0
Complete scope t = (v : Value) → Contains (vals scope t) v ↔ IsOne scope t v

-- ---- truths and atoms

truth_listed : (b : Bool) → Contains (truth false ∷ truth true ∷ []) (truth b)
truth_listed false = contains_here (truth false) (truth true ∷ []) (truth false) refl
truth_listed true = contains_there (truth false) (truth true ∷ []) (truth true) (contains_here (truth true) [] (truth true) refl)

one_truth : (scope : Scope) (b : Bool) → IsOne scope boolean (truth b)
one_truth scope b = (TypingLaws.has_type-truth scope b, TypingLaws.is_bounded-truth scope b)

complete-boolean : (scope : Scope) → Complete scope boolean
complete-boolean scope v = (
  λ m. ⊎_elim
      (λ e. subst (IsOne scope boolean) e (one_truth scope false))
      (λ n. ⊎_elim (λ e. subst (IsOne scope boolean) e (one_truth scope true)) (λ o. absurd (contains_none v o)) (contains_cases (truth true) [] v n))
      (contains_cases (truth false) (truth true ∷ []) v (subst (λ xs. Contains xs v) (vals-boolean scope) m)),
  as_truth (λ v. IsOne scope boolean v → Contains (vals scope boolean) v)
      (λ b h. subst (λ xs. Contains xs (truth b)) (sym (vals-boolean scope)) (truth_listed b))
      (λ v k h. let e : false ≡ true = sym (TypingLaws.boolean_other scope v k) ∙ h.0 in cc) v,
)

up_atoms : (place k n j : ℕ) → k ≤ j → j < k + n → Contains (atoms_from place k n) (atom place j)
up_atoms place k zero j h l = absurd (omega arith)
up_atoms place k (suc n) j h l = ⊎_elim
    (λ b. contains_there (atom place k) (atoms_from place (k + 1) n) (atom place j) (up_atoms place (k + 1) n j (omega arith) (omega arith)))
    (λ b. contains_here (atom place k) (atoms_from place (k + 1) n) (atom place j) (ap (atom place) (omega arith)))
    (cases_lt k j)

atom_passes : (place j n : ℕ) → 1 ≤ j → j < 1 + n → ((place == place) && nat_le 1 j && nat_le j n) ≡ true
atom_passes place j n h l = grind (arith, nat_tests)

pub passed_atom : (s place k n : ℕ) → ((s == place) && nat_le 1 k && nat_le k n) ≡ true → (s ≡ place) × (1 ≤ k) × (k < 1 + n)
passed_atom s place k n h =
    let first : ((s == place) && nat_le 1 k) ≡ true = first_so ((s == place) && nat_le 1 k) (nat_le k n) h in
    let same : (s == place) ≡ true = first_so (s == place) (nat_le 1 k) first in
    let one : nat_le 1 k ≡ true = second_so (s == place) (nat_le 1 k) first in
    let last : nat_le k n ≡ true = second_so ((s == place) && nat_le 1 k) (nat_le k n) h in
    (grind (arith, nat_tests), grind (arith, nat_tests), grind (arith, nat_tests))

complete-carrier : (scope : Scope) (place : ℕ) → Complete scope (carrier place)
complete-carrier scope place v = (
  λ m. let r = atoms_up place 1 (size_of scope.sizes place) v (subst (λ xs. Contains xs v) (vals-carrier scope place) m) in
      subst (IsOne scope (carrier place)) (sym r.1)
      (TypingLaws.has_type-atom scope place place r.0 ∙ atom_passes place r.0 (size_of scope.sizes place) r.2 r.3, TypingLaws.is_bounded-atom scope place r.0),
  as_atom (λ v. IsOne scope (carrier place) v → Contains (vals scope (carrier place)) v)
      (λ s k h.
      let p = passed_atom s place k (size_of scope.sizes s) (sym (TypingLaws.has_type-atom scope place s k) ∙ h.0) in
      let below : k < 1 + size_of scope.sizes place = subst (λ q. k < 1 + size_of scope.sizes q) p.0 p.2 in
      subst (λ xs. Contains xs (atom s k)) (sym (vals-carrier scope place))
      (subst (λ q. Contains (atoms_from place 1 (size_of scope.sizes place)) (atom q k)) (sym p.0) (up_atoms place 1 (size_of scope.sizes place) k p.1 below)))
      (λ v k h. let e : false ≡ true = sym (TypingLaws.carrier_other scope place v k) ∙ h.0 in cc) v,
)

-- ---- pairs

complete-product : (scope : Scope) (s t : EbType) → Complete scope s → Complete scope t → Complete scope (product s t)
complete-product scope s t p q v = (
  λ m. let r = contains_pairs (vals scope s) (vals scope t) v (subst (λ xs. Contains xs v) (vals-product scope s t) m) in
      let a = (p r.0).0 r.3 in
      let b = (q r.1).0 r.4 in
      subst (IsOne scope (product s t)) (sym r.2) (
        TypingLaws.has_type-pair scope r.0 r.1 s t ∙ TypingLaws.both_so (has_type scope r.0 s) (has_type scope r.1 t) a.0 b.0,
        TypingLaws.is_bounded-pair scope r.0 r.1 ∙ TypingLaws.both_so (is_bounded scope r.0) (is_bounded scope r.1) a.1 b.1,
      ),
  as_pair (λ v. IsOne scope (product s t) v → Contains (vals scope (product s t)) v)
      (λ a b h.
      let typed : (has_type scope a s && has_type scope b t) ≡ true = sym (TypingLaws.has_type-pair scope a b s t) ∙ h.0 in
      let within : (is_bounded scope a && is_bounded scope b) ≡ true = sym (TypingLaws.is_bounded-pair scope a b) ∙ h.1 in
      subst (λ xs. Contains xs (pair a b)) (sym (vals-product scope s t)) (pairs_contain (vals scope s) (vals scope t) a b
      ((p a).1 (first_so (has_type scope a s) (has_type scope b t) typed, first_so (is_bounded scope a) (is_bounded scope b) within))
      ((q b).1 (second_so (has_type scope a s) (has_type scope b t) typed, second_so (is_bounded scope a) (is_bounded scope b) within))))
      (λ v k h. let e : false ≡ true = sym (TypingLaws.product_other scope s t v k) ∙ h.0 in cc) v,
)

-- ---- sets

abbrev Part : List Value → List Value → Type 0
Part s xs = (v : Value) → Contains s v → Contains xs v

some_rise : (xs : List Value) → Rises Below xs → (s : List Value) → Contains (some_of xs) s → Rises Below s × Part s xs
some_rise [] h s m = absurd (contains_none s m)
some_rise (x ∷ xs) h s m = ⊎_elim
    (λ n. let r = contains_map (λ t. x ∷ t) ([] ∷ some_of xs) s n in
    ⊎_elim
    (λ e. subst (λ u. Rises Below u × Part u (x ∷ xs)) (ap (λ t. x ∷ t) e ∙ r.2)
    ((λ v k. absurd (contains_none v k), tt), λ v k. ⊎_elim (λ i. contains_here x xs v i) (λ o. absurd (contains_none v o)) (contains_cases x [] v k)))
    (λ o. let later = some_rise xs h.1 r.0 o in
    subst (λ u. Rises Below u × Part u (x ∷ xs)) r.2
    ((λ v k. h.0 v (later.1 v k), later.0), λ v k. ⊎_elim (λ i. contains_here x xs v i) (λ o. contains_there x xs v (later.1 v o)) (contains_cases x r.0 v k)))
    (contains_cases [] (some_of xs) r.0 r.1))
    (λ n. let later = some_rise xs h.1 s n in (later.0, λ v k. contains_there x xs v (later.1 v k)))
    (Contains-append_cases (map (λ t. x ∷ t) ([] ∷ some_of xs)) (some_of xs) s m)

part_tail : (x : Value) (xs s : List Value) → Part s (x ∷ xs) → ((v : Value) → Contains s v → Below x v) → Part s xs
part_tail x xs s p above v m = ⊎_elim (λ e. absurd (not_below x (subst (Below x) (sym e) (above v m)))) (λ n. n) (contains_cases x xs v (p v m))

rise_some : (xs : List Value) → Rises Below xs → (s : List Value) → Rises Below s → Part s xs → Contains ([] ∷ some_of xs) s
rise_some xs h [] k p = contains_here [] (some_of xs) [] refl
rise_some [] h (y ∷ s) k p = absurd (contains_none y (p y (contains_here y s y refl)))
rise_some (x ∷ xs) h (y ∷ s) k p = ⊎_elim
    (λ e.
    let tail : Part s xs = part_tail x xs s (λ v m. p v (contains_there y s v m)) (λ v m. subst (λ z. Below z v) (sym e) (k.0 v m)) in
    contains_there [] (some_of (x ∷ xs)) (y ∷ s) (Contains-append_left (map (λ t. x ∷ t) ([] ∷ some_of xs)) (some_of xs) (y ∷ s)
    (subst (λ z. Contains (map (λ t. x ∷ t) ([] ∷ some_of xs)) (z ∷ s)) e (map_contains (λ t. x ∷ t) ([] ∷ some_of xs) s (rise_some xs h.1 s k.1 tail)))))
    (λ m.
    let above : (v : Value) → Contains (y ∷ s) v → Below x v = λ v n. ⊎_elim (λ e. subst (Below x) e (h.0 y m)) (λ o. transitive x y v (h.0 y m) (k.0 v o)) (contains_cases y s v n) in
    ⊎_elim
    (λ e. let none : [] ≡ y ∷ s = e in cc)
    (λ o. contains_there [] (some_of (x ∷ xs)) (y ∷ s) (Contains-append_right (map (λ t. x ∷ t) ([] ∷ some_of xs)) (some_of xs) (y ∷ s) o))
    (contains_cases [] (some_of xs) (y ∷ s) (rise_some xs h.1 (y ∷ s) k (part_tail x xs (y ∷ s) p above))))
    (contains_cases x xs y (p y (contains_here y s y refl)))

pub set_lists : (xs : List Value) → Rises Below xs → (s : List Value) → Contains ([] ∷ some_of xs) s → Rises Below s × Part s xs
set_lists xs h s m = ⊎_elim
    (λ e. subst (λ u. Rises Below u × Part u xs) e (tt, λ v n. absurd (contains_none v n)))
    (some_rise xs h s)
    (contains_cases [] (some_of xs) s m)

complete-power : (scope : Scope) (t : EbType) → Complete scope t → Complete scope (power t)
complete-power scope t p v = (
  λ m. let r = contains_map set ([] ∷ some_of (vals scope t)) v (subst (λ xs. Contains xs v) (vals-power scope t) m) in
      let s = set_lists (vals scope t) (rises-vals scope t) r.0 r.1 in
      subst (IsOne scope (power t)) r.2 (
        TypingLaws.has_type-set scope r.0 t ∙ TypingLaws.both_so (is_ascending r.0) (list_all (λ w. has_type scope w t) r.0) (ascending r.0 s.0) (TypingLaws.so_all (λ w. has_type scope w t) r.0 (λ w n. ((p w).0 (s.1 w n)).0)),
        TypingLaws.is_bounded-set scope r.0 ∙ TypingLaws.so_all (is_bounded scope) r.0 (λ w n. ((p w).0 (s.1 w n)).1),
      ),
  as_set (λ v. IsOne scope (power t) v → Contains (vals scope (power t)) v)
      (λ s h.
      let typed : (is_ascending s && list_all (λ w. has_type scope w t) s) ≡ true = sym (TypingLaws.has_type-set scope s t) ∙ h.0 in
      let within : list_all (is_bounded scope) s ≡ true = sym (TypingLaws.is_bounded-set scope s) ∙ h.1 in
      let part : Part s (vals scope t) = λ w n. (p w).1 (TypingLaws.all_so (λ w. has_type scope w t) s (second_so (is_ascending s) (list_all (λ w. has_type scope w t) s) typed) w n, TypingLaws.all_so (is_bounded scope) s within w n) in
      subst (λ xs. Contains xs (set s)) (sym (vals-power scope t)) (map_contains set ([] ∷ some_of (vals scope t)) s
      (rise_some (vals scope t) (rises-vals scope t) s (rises s (first_so (is_ascending s) (list_all (λ w. has_type scope w t) s) typed)) part)))
      (λ v k h. let e : false ≡ true = sym (TypingLaws.power_other scope t v k) ∙ h.0 in cc) v,
)

pub complete : (scope : Scope) → negsuc 4611686018427387903 ≤ℤ scope.lo → scope.hi ≤ℤ pos 4611686018427387904 → (t : EbType) (v : Value) → Contains (vals scope t) v ↔ IsOne scope t v
complete scope low high = ind_type (Complete scope) (record {
  integer = λ v. (listed_integer scope (record { low = low; high = high }) v, listed-integer scope v);
  boolean = complete-boolean scope;
  carrier = complete-carrier scope;
  product = complete-product scope;
  power = complete-power scope;
})
