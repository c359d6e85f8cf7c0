-- The operations on values of the types that the table asks give values of the types that it says.
use Rattle.std.proofs.Common.{◌≡◌, ◌∙◌, ℕ, zero, suc, ◌≤◌, ◌%◌, Bool, true, false, ◌&&◌, if◌then◌else◌, List, [], ◌∷◌, map, Option, Some, None, option_map, option_and_then, ℤ, pos, negsuc, int_le, int_lt, int_div, int_rem, unsigned_abs, ◌≤ℤ◌, ◌+ℤ◌, refl, sym, subst, arith, rules}
use Rattle.std.specs.List.{Contains, slice_get}
use Rattle.std.specs.Int.{int_gap, int_pow}
use Rattle.std.specs.Ordering.{int_eq}
use Rattle.std.specs.Cmp.{first_so, second_so}
use Rattle.std.proofs.lemmas.Bool.{false≢true}
use Rattle.std.proofs.Math.Nat.{mod-le}
use Rattle.std.proofs.lemmas.Int.{ints}
use Rattle.eb_value.specs.declared.scope.Scope.{Scope}
use Rattle.eb_value.specs.declared.types.EbType.{EbType}
use Rattle.eb_value.specs.declared.types.EbType as type_module
use Rattle.eb_value.specs.declared.types.Shape.TheOpen as ty
use Rattle.eb_value.specs.declared.value.Value.{Value}
use Rattle.eb_value.specs.declared.value.Value as value_module
use Rattle.eb_value.specs.declared.value.Form.TheOpen as val
use Rattle.eb_value.specs.Canonical.{IsCanonical, AreCanonical}
use Rattle.eb_value.specs.Types.{integer, boolean, product, power}
use Rattle.eb_value.specs.Values.{Layer, layer, int, truth, pair, set, is_ascending}
use Rattle.eb_value.specs.Typing.{in_range, has_type, have_type, typed_step}
use Rattle.eb_value.specs.Comprehensions as sets
use Rattle.eb_value.specs.Comprehensions.{Maplet, members, members_in, maplet_in}
use Rattle.eb_meaning.specs.Arithmetic.{int_of, int_of_layer, defined_int, interval, remainder, quotient, power as power_of}
use Rattle.eb_meaning.specs.Meaning.{Slot, with_two, with_ints, with_set, with_sets, set_in}
use Rattle.eb_meaning.specs.Fitting.{slot_has_type}
use Rattle.eb_meaning.proofs.Hypotheses.{Laws}
use Rattle.eb_meaning.proofs.Lists.{both_so, all_so, all_map}

-- ---- types at the constructors and at the layers

pub has_type-int : (scope : Scope) (n : ℤ) → has_type scope (int n) integer ≡ in_range n
has_type-int scope n = search (rules, value_module.the_lemmas, type_module.the_lemmas)

pub has_type-truth : (scope : Scope) (b : Bool) → has_type scope (truth b) boolean ≡ true
has_type-truth scope b = search (rules, value_module.the_lemmas, type_module.the_lemmas)

pub has_type-pair : (scope : Scope) (a b : Value) (s t : EbType) → has_type scope (pair a b) (product s t) ≡ (has_type scope a s && has_type scope b t)
has_type-pair scope a b s t = search (rules, value_module.the_lemmas, type_module.the_lemmas)

pub has_type-set : (scope : Scope) (xs : List Value) (t : EbType) → has_type scope (set xs) (power t) ≡ (is_ascending xs && have_type scope xs t)
has_type-set scope xs t = search (rules, value_module.the_lemmas, type_module.the_lemmas)

at_integer : (scope : Scope) (v : Value) → has_type scope v integer ≡ typed_step scope.sizes ty.Integer (layer v)
at_integer scope v = search (rules, type_module.the_lemmas)

pub at_product : (scope : Scope) (s t : EbType) (v : Value) → has_type scope v (product s t) ≡ typed_step scope.sizes (ty.Product (λ w. has_type scope w s) (λ w. has_type scope w t)) (layer v)
at_product scope s t v = search (rules, type_module.the_lemmas)

at_power : (scope : Scope) (t : EbType) (v : Value) → has_type scope v (power t) ≡ typed_step scope.sizes (ty.Power (λ w. has_type scope w t)) (layer v)
at_power scope t v = search (rules, type_module.the_lemmas)

-- ---- integers

le_so : (m n : ℤ) → int_le m n ≡ true → m ≤ℤ n
le_so m n h = grind (arith, ints)

so_le : (m n : ℤ) → m ≤ℤ n → int_le m n ≡ true
so_le m n h = grind (arith, ints)

-- Undefined, or a value of the type
abbrev pub Fits : Scope → EbType → Slot → Type 0
Fits scope t o = slot_has_type scope o t ≡ true

pub integer_fits : (scope : Scope) (n : ℤ) → in_range n ≡ true → Fits scope integer (Some (int n))
integer_fits scope n h = has_type-int scope n ∙ h

defined_fits_if : (scope : Scope) (n : ℤ) (b : Bool) → in_range n ≡ b → Fits scope integer (if b then Some (int n) else None)
defined_fits_if scope n true h = integer_fits scope n h
defined_fits_if scope n false h = refl

pub defined_fits : (scope : Scope) (n : ℤ) → Fits scope integer (defined_int n)
defined_fits scope n = defined_fits_if scope n (in_range n) refl

fits_if : (scope : Scope) (t : EbType) (b : Bool) (o : Slot) → (b ≡ true → Fits scope t o) → Fits scope t (if b then o else None)
fits_if scope t true o h = h refl
fits_if scope t false o h = refl

fits_unless : (scope : Scope) (t : EbType) (b : Bool) (o : Slot) → Fits scope t o → Fits scope t (if b then None else o)
fits_unless scope t true o h = refl
fits_unless scope t false o h = h

pub quotient_fits : (scope : Scope) (m n : ℤ) → Fits scope integer (quotient m n)
quotient_fits scope m n = fits_unless scope integer (int_eq n (pos 0)) (defined_int (int_div m n)) (defined_fits scope (int_div m n))

pub power_fits : (scope : Scope) (m n : ℤ) → Fits scope integer (power_of m n)
power_fits scope m n = fits_if scope integer (int_le (pos 0) m && int_le (pos 0) n) (defined_int (int_pow m (unsigned_abs n))) (λ h. defined_fits scope (int_pow m (unsigned_abs n)))

-- the remainder of a natural is no greater
rem_in_range : (m n : ℤ) → in_range m ≡ true → int_le (pos 0) m ≡ true → in_range (int_rem m n) ≡ true
rem_in_range (pos a) n h k =
    let u : pos a ≤ℤ pos 4611686018427387904 = le_so (pos a) (pos 4611686018427387904) (second_so (int_le (negsuc 4611686018427387903) (pos a)) (int_le (pos a) (pos 4611686018427387904)) h) in
    let l : a % unsigned_abs n ≤ a = mod-le a (unsigned_abs n) in
    let r : int_rem (pos a) n ≡ pos (a % unsigned_abs n) = refl in
    subst (λ z. in_range z ≡ true) (sym r) (both_so (int_le (negsuc 4611686018427387903) (pos (a % unsigned_abs n))) (int_le (pos (a % unsigned_abs n)) (pos 4611686018427387904)) (so_le (negsuc 4611686018427387903) (pos (a % unsigned_abs n)) (omega (arith, ints))) (so_le (pos (a % unsigned_abs n)) (pos 4611686018427387904) (omega (arith, ints, u, l))))
rem_in_range (negsuc a) n h k = absurd (false≢true k)

pub remainder_fits : (scope : Scope) (m n : ℤ) → in_range m ≡ true → Fits scope integer (remainder m n)
remainder_fits scope m n h = fits_if scope integer (int_le (pos 0) m && int_lt (pos 0) n) (Some (int (int_rem m n))) (λ k. integer_fits scope (int_rem m n) (rem_in_range m n h (first_so (int_le (pos 0) m) (int_lt (pos 0) n) k)))

-- ---- on values of a type

on_int : {A : Type 0} (scope : Scope) (P : Option A → Type 0) (f : ℤ → Option A) (y : Layer) → typed_step scope.sizes ty.Integer y ≡ true → ((n : ℤ) → in_range n ≡ true → P (f n)) → P (option_and_then f (int_of_layer y))
on_int scope P f (val.Int n) h k = k n h
on_int scope P f y h k = absurd (false≢true h)

pub on_integer : (scope : Scope) (t : EbType) (f : ℤ → Slot) (v : Value) → has_type scope v integer ≡ true → ((n : ℤ) → in_range n ≡ true → Fits scope t (f n)) → Fits scope t (option_and_then f (int_of v))
on_integer scope t f v h k = on_int scope (Fits scope t) f (layer v) (sym (at_integer scope v) ∙ h) k

pub on_integers : (scope : Scope) (t : EbType) (f : ℤ → ℤ → Slot) (v w : Value) → has_type scope v integer ≡ true → has_type scope w integer ≡ true → ((m n : ℤ) → in_range m ≡ true → in_range n ≡ true → Fits scope t (f m n)) → Fits scope t (with_ints f v w)
on_integers scope t f v w h k r = on_integer scope t (λ m. option_and_then (λ n. f m n) (int_of w)) v h (λ m p. on_integer scope t (f m) w k (λ n q. r m n p q))

-- the members of a set of the type
pub record IsSetOfType (scope : Scope) (t : EbType) (xs : List Value) : Type 0 where
  pub members : have_type scope xs t ≡ true
  pub canonical : AreCanonical xs

pub on_two_slots : (scope : Scope) (s t u : EbType) (f : Value → Value → Slot) (a b : Slot) → Fits scope s a → Fits scope t b → ((v w : Value) → has_type scope v s ≡ true → has_type scope w t ≡ true → Fits scope u (f v w)) → Fits scope u (with_two f a b)
on_two_slots scope s t u f None b h k r = refl
on_two_slots scope s t u f (Some v) None h k r = refl
on_two_slots scope s t u f (Some v) (Some w) h k r = r v w h k

pub on_slot : (scope : Scope) (t u : EbType) (f : Value → Slot) (a : Slot) → Fits scope t a → ((v : Value) → has_type scope v t ≡ true → Fits scope u (f v)) → Fits scope u (option_and_then f a)
on_slot scope t u f None h k = refl
on_slot scope t u f (Some v) h k = k v h

module _ (laws : Laws) (scope : Scope) where
  family : (t : EbType) (xs : List Value) → is_ascending xs ≡ true → have_type scope xs t ≡ true → IsSetOfType scope t xs
  family t xs h k = record {
    members = k;
    canonical = (laws.parts.sets xs (laws.parts.typed scope (set xs) (power t) (has_type-set scope xs t ∙ both_so (is_ascending xs) (have_type scope xs t) h k))).1;
  }

  on_family : (t : EbType) (P : Slot → Type 0) (f : List Value → Slot) (y : Layer) → typed_step scope.sizes (ty.Power (λ w. has_type scope w t)) y ≡ true → ((xs : List Value) → IsSetOfType scope t xs → P (f xs)) → P (option_and_then f (set_in y))
  on_family t P f (val.Set xs) h k = k xs (family t xs (first_so (is_ascending xs) (have_type scope xs t) h) (second_so (is_ascending xs) (have_type scope xs t) h))
  on_family t P f y h k = absurd (false≢true h)

  pub on_set : (t u : EbType) (f : List Value → Slot) (v : Value) → has_type scope v (power t) ≡ true → ((xs : List Value) → IsSetOfType scope t xs → Fits scope u (f xs)) → Fits scope u (with_set f v)
  on_set t u f v h k = on_family t (Fits scope u) f (layer v) (sym (at_power scope t v) ∙ h) k

  pub on_sets : (s t u : EbType) (f : List Value → List Value → Slot) (v w : Value) → has_type scope v (power s) ≡ true → has_type scope w (power t) ≡ true → ((xs ys : List Value) → IsSetOfType scope s xs → IsSetOfType scope t ys → Fits scope u (f xs ys)) → Fits scope u (with_sets f v w)
  on_sets s t u f v w h k r = on_set s u (λ xs. with_set (λ ys. f xs ys) w) v h (λ xs p. on_set t u (f xs) w k (λ ys q. r xs ys p q))

  -- a set that is made of members of the type
  pub made : (t : EbType) (xs : List Value) → have_type scope xs t ≡ true → IsCanonical (set xs) → Fits scope (power t) (Some (set xs))
  made t xs h k = has_type-set scope xs t ∙ both_so (is_ascending xs) (have_type scope xs t) (laws.parts.sets xs k).0 h

  members_in_fit : (t : EbType) (y : Layer) → typed_step scope.sizes (ty.Power (λ w. has_type scope w t)) y ≡ true → have_type scope (members_in y) t ≡ true
  members_in_fit t (val.Set xs) h = second_so (is_ascending xs) (have_type scope xs t) h
  members_in_fit t y h = absurd (false≢true h)

  pub members_fit : (t : EbType) (v : Value) → has_type scope v (power t) ≡ true → have_type scope (members v) t ≡ true
  members_fit t v h = members_in_fit t (layer v) (sym (at_power scope t v) ∙ h)

  -- each of the sets of a list has members of the type
  families : (t : EbType) (vs : List Value) → have_type scope vs (power t) ≡ true → (s : List Value) → Contains (map members vs) s → have_type scope s t ≡ true
  families t vs h = all_so (λ s. have_type scope s t) (map members vs) (all_map (λ v. has_type scope v (power t)) (λ s. have_type scope s t) members vs (members_fit t) h)

  canonical_values : (t : EbType) (vs : List Value) → have_type scope vs t ≡ true → AreCanonical vs
  canonical_values t vs h = laws.parts.all vs (λ v m. laws.parts.typed scope v t (all_so (λ v. has_type scope v t) vs h v m))

  pub union_fits : (t : EbType) (vs : List Value) → have_type scope vs (power t) ≡ true → Fits scope (power t) (Some (set (sets.union_of (map members vs))))
  union_fits t vs h = made t (sets.union_of (map members vs)) (laws.types.union_of scope t (map members vs) (families t vs h)) (laws.canonical.union_all vs (canonical_values (power t) vs h))

  meet_fits_at : (t : EbType) (vs : List Value) (o : Option (List Value)) → sets.meet_of (map members vs) ≡ o → have_type scope vs (power t) ≡ true → Fits scope (power t) (option_map set o)
  meet_fits_at t vs None e h = refl
  meet_fits_at t vs (Some xs) e h = made t xs (laws.types.meet_of scope t (map members vs) xs (families t vs h) e) (laws.canonical.meet_all vs xs (canonical_values (power t) vs h) e)

  pub meet_fits : (t : EbType) (vs : List Value) → have_type scope vs (power t) ≡ true → Fits scope (power t) (option_map set (sets.meet_of (map members vs)))
  meet_fits t vs h = meet_fits_at t vs (sets.meet_of (map members vs)) refl h

  -- a set that is made of a list of values of the type
  pub set_of_fits : (t : EbType) (xs : List Value) → have_type scope xs t ≡ true → Fits scope (power t) (Some (set (sets.set_of xs)))
  set_of_fits t xs h = made t (sets.set_of xs) (laws.types.set_of scope t xs h) (laws.canonical.set_of xs (canonical_values t xs h))

  pub interval_fits : (m n : ℤ) → in_range m ≡ true → in_range n ≡ true → Fits scope (power integer) (Some (set (interval m n)))
  interval_fits m n h k = made integer (interval m n)
      (laws.types.integers scope m n
      (le_so (negsuc 4611686018427387903) m (first_so (int_le (negsuc 4611686018427387903) m) (int_le m (pos 4611686018427387904)) h))
      (le_so n (pos 4611686018427387904) (second_so (int_le (negsuc 4611686018427387903) n) (int_le n (pos 4611686018427387904)) k)))
      (laws.canonical.integers m (int_gap m (n +ℤ pos 1)))

  pub apply_fits_at : (t u : EbType) (f : List Value) (x : Value) (o : Slot) → sets.apply f x ≡ o → have_type scope f (product t u) ≡ true → has_type scope x t ≡ true → Fits scope u o
  apply_fits_at t u f x None e h k = refl
  apply_fits_at t u f x (Some y) e h k = laws.types.apply scope t u f x y h k e

  -- an element of a list
  pub element_fits : (t : EbType) (vs : List Value) (k : ℕ) → have_type scope vs t ≡ true → Fits scope t (slice_get vs k)
  element_fits t [] k h = refl
  element_fits t (v ∷ vs) zero h = first_so (has_type scope v t) (have_type scope vs t) h
  element_fits t (v ∷ vs) (suc k) h = element_fits t vs k (second_so (has_type scope v t) (have_type scope vs t) h)

  pub first_fits : (t : EbType) (vs : List Value) → have_type scope vs t ≡ true → Fits scope t (sets.first_of vs)
  first_fits t [] h = refl
  first_fits t (v ∷ vs) h = first_so (has_type scope v t) (have_type scope vs t) h
