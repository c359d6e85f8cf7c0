-- Values, by their parts, and their one order.
use Rattle.std.specs.Prelude.{ℕ, Bool, true, false, ◌&&◌, List, [], ◌∷◌, map, ℤ}
use Rattle.std.specs.Ordering.{nat_cmp, int_cmp, bool_cmp, ordering_then}
use Rattle.std.specs.declared.cmp.Ordering.{Ordering}
use Rattle.std.specs.declared.cmp.Ordering.TheVariants.{Less, Equal, Greater}
use Rattle.eb_value.specs.declared.value.Value.{Value, out-Value, roll-Value, fold-Value}
use Rattle.eb_value.specs.declared.value.Form.{Form, Form-F, out-Form}
use Rattle.eb_value.specs.declared.value.Form.TheOpen as val
use Rattle.eb_value.specs.declared.value.Form.TheVariants as form

-- One level of a value.
abbrev pub Layer : Type 0
Layer = Form-F Form Value

abbrev pub layer : Value → Layer
layer v = out-Form (out-Value v).form

abbrev pub int : ℤ → Value
int n = roll-Value (record { form = form.Int n })

abbrev pub truth : Bool → Value
truth b = roll-Value (record { form = form.Bool b })

abbrev pub atom : ℕ → ℕ → Value
atom place number = roll-Value (record { form = form.Atom place number })

abbrev pub pair : Value → Value → Value
pair a b = roll-Value (record { form = form.Pair a b })

abbrev pub set : List Value → Value
set xs = roll-Value (record { form = form.Set xs })

-- A function of a value by one step, which has its results at the parts.
abbrev pub by_parts : (A : Type 0) → (Form-F A A → A) → Value → A
by_parts A step = fold-Value A A step (λ v. v.form)

-- Of two kinds of values, the one with the smaller rank stands first.
abbrev pub rank_of : Layer → ℕ
rank_of (val.Int n) = 0
rank_of (val.Bool b) = 1
rank_of (val.Atom s n) = 2
rank_of (val.Pair a b) = 3
rank_of (val.Set xs) = 4

abbrev pub rank : Value → ℕ
rank v = rank_of (layer v)

-- member by member, a proper prefix first
abbrev pub compare_each : List (Value → Ordering) → List Value → Ordering
compare_each [] [] = Equal
compare_each [] (y ∷ ys) = Less
compare_each (f ∷ fs) [] = Greater
compare_each (f ∷ fs) (y ∷ ys) = ordering_then (f y) (compare_each fs ys)

abbrev pub compare_step : Form-F (Value → Ordering) (Value → Ordering) → Layer → Ordering
compare_step (val.Int m) (val.Int n) = int_cmp m n
compare_step (val.Bool a) (val.Bool b) = bool_cmp a b
compare_step (val.Atom s m) (val.Atom t n) = ordering_then (nat_cmp s t) (nat_cmp m n)
compare_step (val.Pair f g) (val.Pair c d) = ordering_then (f c) (g d)
compare_step (val.Set fs) (val.Set ys) = compare_each fs ys
compare_step (val.Int m) w = nat_cmp 0 (rank_of w)
compare_step (val.Bool b) w = nat_cmp 1 (rank_of w)
compare_step (val.Atom s m) w = nat_cmp 2 (rank_of w)
compare_step (val.Pair f g) w = nat_cmp 3 (rank_of w)
compare_step (val.Set fs) w = nat_cmp 4 (rank_of w)

-- integers by number, FALSE before TRUE, atoms by set and number, pairs by first and second,
-- sets member by member
abbrev pub compare : Value → Value → Ordering
compare = by_parts (Value → Ordering) (λ v w. compare_step v (layer w))

abbrev pub compare_all : List Value → List Value → Ordering
compare_all xs ys = compare_each (map compare xs) ys

abbrev pub is_less : Ordering → Bool
is_less Less = true
is_less _ = false

-- each below the next, so ascending and distinct
abbrev pub is_ascending : List Value → Bool
is_ascending [] = true
is_ascending (x ∷ []) = true
is_ascending (x ∷ y ∷ ys) = is_less (compare x y) && is_ascending (y ∷ ys)
