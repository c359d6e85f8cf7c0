-- What values of a type are, and the tests of them.
use Rattle.std.proofs.Common.{◌≡◌, ◌∙◌, ℕ, Bool, true, false, ◌&&◌, List, [], ◌∷◌, Some, ℤ, refl, sym, ap, subst, rules}
use Rattle.std.specs.Cmp.{first_so, second_so}
use Rattle.std.specs.Ordering.{is_eq}
use Rattle.std.specs.declared.cmp.Ordering.{Ordering}
use Rattle.std.specs.declared.cmp.Ordering.TheVariants.{Less, Equal, Greater}
use Rattle.std.proofs.lemmas.Bool.{false≢true}
use Rattle.eb_value.specs.declared.scope.Scope.{Scope}
use Rattle.eb_value.specs.declared.types.EbType.{EbType}
use Rattle.eb_value.specs.declared.types.EbType as type_module
use Rattle.eb_value.specs.declared.value.Value.{Value}
use Rattle.eb_value.specs.declared.value.Value as value_module
use Rattle.eb_value.specs.declared.value.Form.TheOpen as val
use Rattle.eb_value.specs.Canonical.{IsCanonical, AreCanonical}
use Rattle.eb_value.specs.Canonical as canonical
use Rattle.eb_value.specs.Types.{integer, product, power}
use Rattle.eb_value.specs.Values.{layer, int, truth, atom, pair, set, is_ascending, compare}
use Rattle.eb_value.specs.Typing.{has_type, have_type}
use Rattle.eb_value.specs.Comprehensions.{members, same}
use Rattle.eb_meaning.specs.Arithmetic.{int_of}
use Rattle.eb_meaning.specs.Meaning.{is_empty}
use Rattle.eb_narrow.proofs.Hypotheses.{Laws}

pub both_so : (s t : Bool) → s ≡ true → t ≡ true → (s && t) ≡ true
both_so s t h k = rw (h, k) refl

-- ---- values at their constructors

pub layer-pair : (a b : Value) → layer (pair a b) ≡ val.Pair a b
layer-pair a b = search (rules, value_module.the_lemmas)

pub layer-set : (xs : List Value) → layer (set xs) ≡ val.Set xs
layer-set xs = search (rules, value_module.the_lemmas)

pub int_of-int : (n : ℤ) → int_of (int n) ≡ Some n
int_of-int n = search (rules, value_module.the_lemmas)

pub members-set : (xs : List Value) → members (set xs) ≡ xs
members-set xs = search (rules, value_module.the_lemmas)

pub has_type-pair : (scope : Scope) (a b : Value) (s t : EbType) → has_type scope (pair a b) (product s t) ≡ (has_type scope a s && has_type scope b t)
has_type-pair scope a b s t = search (rules, value_module.the_lemmas, type_module.the_lemmas)

pub has_type-set : (scope : Scope) (xs : List Value) (t : EbType) → has_type scope (set xs) (power t) ≡ (is_ascending xs && have_type scope xs t)
has_type-set scope xs t = search (rules, value_module.the_lemmas, type_module.the_lemmas)

-- ---- values of a type

integer_no_truth : (scope : Scope) (b : Bool) → has_type scope (truth b) integer ≡ false
integer_no_truth scope b = search (rules, value_module.the_lemmas, type_module.the_lemmas)

integer_no_atom : (scope : Scope) (p n : ℕ) → has_type scope (atom p n) integer ≡ false
integer_no_atom scope p n = search (rules, value_module.the_lemmas, type_module.the_lemmas)

integer_no_pair : (scope : Scope) (a b : Value) → has_type scope (pair a b) integer ≡ false
integer_no_pair scope a b = search (rules, value_module.the_lemmas, type_module.the_lemmas)

integer_no_family : (scope : Scope) (xs : List Value) → has_type scope (set xs) integer ≡ false
integer_no_family scope xs = search (rules, value_module.the_lemmas, type_module.the_lemmas)

product_no_integer : (scope : Scope) (s t : EbType) (n : ℤ) → has_type scope (int n) (product s t) ≡ false
product_no_integer scope s t n = search (rules, value_module.the_lemmas, type_module.the_lemmas)

product_no_truth : (scope : Scope) (s t : EbType) (b : Bool) → has_type scope (truth b) (product s t) ≡ false
product_no_truth scope s t b = search (rules, value_module.the_lemmas, type_module.the_lemmas)

product_no_atom : (scope : Scope) (s t : EbType) (p n : ℕ) → has_type scope (atom p n) (product s t) ≡ false
product_no_atom scope s t p n = search (rules, value_module.the_lemmas, type_module.the_lemmas)

product_no_family : (scope : Scope) (s t : EbType) (xs : List Value) → has_type scope (set xs) (product s t) ≡ false
product_no_family scope s t xs = search (rules, value_module.the_lemmas, type_module.the_lemmas)

power_no_integer : (scope : Scope) (t : EbType) (n : ℤ) → has_type scope (int n) (power t) ≡ false
power_no_integer scope t n = search (rules, value_module.the_lemmas, type_module.the_lemmas)

power_no_truth : (scope : Scope) (t : EbType) (b : Bool) → has_type scope (truth b) (power t) ≡ false
power_no_truth scope t b = search (rules, value_module.the_lemmas, type_module.the_lemmas)

power_no_atom : (scope : Scope) (t : EbType) (p n : ℕ) → has_type scope (atom p n) (power t) ≡ false
power_no_atom scope t p n = search (rules, value_module.the_lemmas, type_module.the_lemmas)

power_no_pair : (scope : Scope) (t : EbType) (a b : Value) → has_type scope (pair a b) (power t) ≡ false
power_no_pair scope t a b = search (rules, value_module.the_lemmas, type_module.the_lemmas)

-- an integer
pub record IsInt (v : Value) : Type 0 where
  pub number : ℤ
  pub is : v ≡ int number

int_if : (scope : Scope) (v : Value) → IsCanonical v → has_type scope v integer ≡ true → IsInt v
int_if scope _ (canonical.integer n) h = record { number = n; is = refl }
int_if scope _ (canonical.truth b) h = absurd (false≢true (sym (integer_no_truth scope b) ∙ h))
int_if scope _ (canonical.atom p n) h = absurd (false≢true (sym (integer_no_atom scope p n) ∙ h))
int_if scope _ (canonical.pair {a = a} {b = b} c d) h = absurd (false≢true (sym (integer_no_pair scope a b) ∙ h))
int_if scope _ (canonical.family {xs = xs} up c) h = absurd (false≢true (sym (integer_no_family scope xs) ∙ h))

pub int_view : Laws → (scope : Scope) (v : Value) → has_type scope v integer ≡ true → IsInt v
int_view laws scope v h = int_if scope v (laws.canonical scope v integer h) h

-- a pair of values of these types
pub record IsPair (scope : Scope) (s t : EbType) (v : Value) : Type 0 where
  pub first : Value
  pub second : Value
  pub is : v ≡ pair first second
  pub first_typed : has_type scope first s ≡ true
  pub second_typed : has_type scope second t ≡ true

pair_if : (scope : Scope) (s t : EbType) (v : Value) → IsCanonical v → has_type scope v (product s t) ≡ true → IsPair scope s t v
pair_if scope s t _ (canonical.pair {a = a} {b = b} c d) h =
    let both : (has_type scope a s && has_type scope b t) ≡ true = sym (has_type-pair scope a b s t) ∙ h in
    record { first = a; second = b; is = refl; first_typed = first_so (has_type scope a s) (has_type scope b t) both; second_typed = second_so (has_type scope a s) (has_type scope b t) both }
pair_if scope s t _ (canonical.integer n) h = absurd (false≢true (sym (product_no_integer scope s t n) ∙ h))
pair_if scope s t _ (canonical.truth b) h = absurd (false≢true (sym (product_no_truth scope s t b) ∙ h))
pair_if scope s t _ (canonical.atom p n) h = absurd (false≢true (sym (product_no_atom scope s t p n) ∙ h))
pair_if scope s t _ (canonical.family {xs = xs} up c) h = absurd (false≢true (sym (product_no_family scope s t xs) ∙ h))

pub pair_view : Laws → (scope : Scope) (s t : EbType) (v : Value) → has_type scope v (product s t) ≡ true → IsPair scope s t v
pair_view laws scope s t v h = pair_if scope s t v (laws.canonical scope v (product s t) h) h

-- a set of values of the type
pub record IsSet (scope : Scope) (t : EbType) (v : Value) : Type 0 where
  pub inner : List Value
  pub is : v ≡ set inner
  pub typed : have_type scope inner t ≡ true
  pub ascending : is_ascending inner ≡ true
  pub canonical : AreCanonical inner

set_if : (scope : Scope) (t : EbType) (v : Value) → IsCanonical v → has_type scope v (power t) ≡ true → IsSet scope t v
set_if scope t _ (canonical.family {xs = xs} up c) h =
    let both : (is_ascending xs && have_type scope xs t) ≡ true = sym (has_type-set scope xs t) ∙ h in
    record { inner = xs; is = refl; typed = second_so (is_ascending xs) (have_type scope xs t) both; ascending = up; canonical = c }
set_if scope t _ (canonical.integer n) h = absurd (false≢true (sym (power_no_integer scope t n) ∙ h))
set_if scope t _ (canonical.truth b) h = absurd (false≢true (sym (power_no_truth scope t b) ∙ h))
set_if scope t _ (canonical.atom p n) h = absurd (false≢true (sym (power_no_atom scope t p n) ∙ h))
set_if scope t _ (canonical.pair {a = a} {b = b} c d) h = absurd (false≢true (sym (power_no_pair scope t a b) ∙ h))

pub set_view : Laws → (scope : Scope) (t : EbType) (v : Value) → has_type scope v (power t) ≡ true → IsSet scope t v
set_view laws scope t v h = set_if scope t v (laws.canonical scope v (power t) h) h

-- ---- the same value

pub same_itself : Laws → (v : Value) → same v v ≡ true
same_itself laws v = ap is_eq (laws.reflexive v)

equal_if : (o : Ordering) → is_eq o ≡ true → o ≡ Equal
equal_if Equal h = refl
equal_if Less h = absurd (false≢true h)
equal_if Greater h = absurd (false≢true h)

pub same_so : Laws → (v w : Value) → same v w ≡ true → v ≡ w
same_so laws v w h = laws.exact v w (equal_if (compare v w) h)

pub so_same : Laws → (v w : Value) → v ≡ w → same v w ≡ true
so_same laws v w e = subst (λ x. same v x ≡ true) e (same_itself laws v)

pub same-empty : (xs : List Value) → same (set xs) (set []) ≡ is_empty xs
same-empty [] = search (rules, value_module.the_lemmas)
same-empty (x ∷ xs) = search (rules, value_module.the_lemmas)

-- two tests that pass together are one
pub bool_alike : (a b : Bool) → (a ≡ true → b ≡ true) → (b ≡ true → a ≡ true) → a ≡ b
bool_alike true b h k = sym (h refl)
bool_alike false true h k = k refl
bool_alike false false h k = refl
