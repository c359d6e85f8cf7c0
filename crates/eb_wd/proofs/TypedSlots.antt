-- What the operators that are not defined for all values find where their parts are typed.
use Rattle.std.proofs.Common.{◌≡◌, ◌∙◌, Bool, true, ◌&&◌, List, Option, Some, None, option_and_then, ℤ, refl, sym, ap, rules}
use Rattle.std.specs.Cmp.{second_so}
use Rattle.std.proofs.lemmas.Bool.{false≢true}
use Rattle.type_table.specs.Rows.{Sort, predicate, expression}
use Rattle.eb_value.specs.declared.scope.Scope.{Scope}
use Rattle.eb_value.specs.declared.types.EbType.{EbType}
use Rattle.eb_value.specs.declared.types.EbType as type_module
use Rattle.eb_value.specs.declared.types.Shape.TheOpen as ty
use Rattle.eb_value.specs.declared.value.Value.{Value}
use Rattle.eb_value.specs.declared.value.Form.TheOpen as val
use Rattle.eb_value.specs.Types.{integer, power}
use Rattle.eb_value.specs.Values.{Layer, layer, is_ascending}
use Rattle.eb_value.specs.Typing.{has_type, have_type, typed_step}
use Rattle.eb_value.specs.Comprehensions.{members, members_in}
use Rattle.eb_meaning.specs.Arithmetic.{int_of, int_of_layer}
use Rattle.eb_meaning.specs.Truths.{truth_of, tested}
use Rattle.eb_meaning.specs.Meaning.{Slot, is_value, with_two, with_ints, with_set, with_sets, set_in}
use Rattle.eb_meaning.specs.Fitting.{slot_has_type}
use Rattle.eb_wd.proofs.Truths.{saying, saying-truth_of}

-- Undefined, or a value of the type
abbrev pub Fits : Scope → EbType → Slot → Type 0
Fits scope t o = slot_has_type scope o t ≡ true

-- A predicate may have any value; an expression is Undefined or has one of its type.
abbrev pub IsOf : Scope → Sort → Slot → Type 0
IsOf scope predicate o = Unit {0}
IsOf scope (expression t) o = Fits scope t o

at_integer : (scope : Scope) (v : Value) → has_type scope v integer ≡ typed_step scope.sizes ty.Integer (layer v)
at_integer scope v = search (rules, type_module.the_lemmas)

at_power : (scope : Scope) (t : EbType) (v : Value) → has_type scope v (power t) ≡ typed_step scope.sizes (ty.Power (λ w. has_type scope w t)) (layer v)
at_power scope t v = search (rules, type_module.the_lemmas)

on_int_layer : {A : Type 0} (scope : Scope) (P : Option A → Type 0) (f : ℤ → Option A) (y : Layer) → typed_step scope.sizes ty.Integer y ≡ true → ((n : ℤ) → P (f n)) → P (option_and_then f (int_of_layer y))
on_int_layer scope P f (val.Int n) h k = k n
on_int_layer scope P f y h k = absurd (false≢true h)

on_int : {A : Type 0} (scope : Scope) (P : Option A → Type 0) (f : ℤ → Option A) (v : Value) → has_type scope v integer ≡ true → ((n : ℤ) → P (f n)) → P (option_and_then f (int_of v))
on_int scope P f v h k = on_int_layer scope P f (layer v) (sym (at_integer scope v) ∙ h) k

-- an operation on typed integers
on_ints : {A : Type 0} (scope : Scope) (P : Option A → Type 0) (f : ℤ → ℤ → Option A) (v w : Value) → has_type scope v integer ≡ true → has_type scope w integer ≡ true → ((m n : ℤ) → P (f m n)) → P (with_ints f v w)
on_ints scope P f v w h k r = on_int scope P (λ m. option_and_then (λ n. f m n) (int_of w)) v h (λ m. on_int scope P (f m) w k (λ n. r m n))

on_set_layer : {A : Type 0} (scope : Scope) (t : EbType) (P : Option A → Type 0) (f : List Value → Option A) (y : Layer) → typed_step scope.sizes (ty.Power (λ w. has_type scope w t)) y ≡ true → ((xs : List Value) → P (f xs)) → P (option_and_then f (set_in y))
on_set_layer scope t P f (val.Set xs) h k = k xs
on_set_layer scope t P f y h k = absurd (false≢true h)

-- an operation on a typed set
on_set : {A : Type 0} (scope : Scope) (t : EbType) (P : Option A → Type 0) (f : List Value → Option A) (v : Value) → has_type scope v (power t) ≡ true → ((xs : List Value) → P (f xs)) → P (with_set f v)
on_set scope t P f v h k = on_set_layer scope t P f (layer v) (sym (at_power scope t v) ∙ h) k

on_sets : {A : Type 0} (scope : Scope) (s t : EbType) (P : Option A → Type 0) (f : List Value → List Value → Option A) (v w : Value) → has_type scope v (power s) ≡ true → has_type scope w (power t) ≡ true → ((xs ys : List Value) → P (f xs ys)) → P (with_sets f v w)
on_sets scope s t P f v w h k r = on_set scope s P (λ xs. with_set (λ ys. f xs ys) w) v h (λ xs. on_set scope t P (f xs) w k (λ ys. r xs ys))

-- a test that is made wherever two values are there
pub saying-two : (f : Value → Value → Option Bool) (a b : Slot) → ((v w : Value) → a ≡ Some v → b ≡ Some w → truth_of true ≡ saying (tested (f v w)))
    → truth_of (is_value a && is_value b) ≡ saying (tested (with_two f a b))
saying-two f None b k = refl
saying-two f (Some v) None k = refl
saying-two f (Some v) (Some w) k = k v w refl refl

-- the value of a typed slot
value_typed : (scope : Scope) (t : EbType) (a : Slot) (v : Value) → Fits scope t a → a ≡ Some v → has_type scope v t ≡ true
value_typed scope t a v h e = sym (ap (λ o. slot_has_type scope o t) e) ∙ h

-- a comparison of typed integers
pub saying-ints : (scope : Scope) (f : ℤ → ℤ → Bool) (a b : Slot) → Fits scope integer a → Fits scope integer b → truth_of (is_value a && is_value b) ≡ saying (tested (with_two (with_ints (λ m n. Some (f m n))) a b))
saying-ints scope f a b h k = saying-two (with_ints (λ m n. Some (f m n))) a b
    (λ v w e g. on_ints scope (λ o. truth_of true ≡ saying (tested o)) (λ m n. Some (f m n)) v w (value_typed scope integer a v h e) (value_typed scope integer b w k g) (λ m n. saying-truth_of (f m n)))

-- a test of a typed set
pub saying-set : (scope : Scope) (t : EbType) (f : List Value → Bool) (a : Slot) → Fits scope (power t) a → truth_of (is_value a) ≡ saying (tested (option_and_then (with_set (λ r. Some (f r))) a))
saying-set scope t f None h = refl
saying-set scope t f (Some v) h = on_set scope t (λ o. truth_of true ≡ saying (tested o)) (λ r. Some (f r)) v h (λ xs. saying-truth_of (f xs))

-- an operation on typed sets that has a value for any
pub value-sets : (scope : Scope) (s t : EbType) (f : List Value → List Value → Value) (a b : Slot) → Fits scope (power s) a → Fits scope (power t) b → (is_value a && is_value b) ≡ is_value (with_two (with_sets (λ xs ys. Some (f xs ys))) a b)
value-sets scope s t f None b h k = refl
value-sets scope s t f (Some v) None h k = refl
value-sets scope s t f (Some v) (Some w) h k = on_sets scope s t (λ o. true ≡ is_value o) (λ xs ys. Some (f xs ys)) v w h k (λ xs ys. refl)

members_in_typed : (scope : Scope) (t : EbType) (y : Layer) → typed_step scope.sizes (ty.Power (λ w. has_type scope w t)) y ≡ true → have_type scope (members_in y) t ≡ true
members_in_typed scope t (val.Set xs) h = second_so (is_ascending xs) (have_type scope xs t) h
members_in_typed scope t y h = absurd (false≢true h)

-- the members of a typed set
pub members_typed : (scope : Scope) (t : EbType) (v : Value) → has_type scope v (power t) ≡ true → have_type scope (members v) t ≡ true
members_typed scope t v h = members_in_typed scope t (layer v) (sym (at_power scope t v) ∙ h)
