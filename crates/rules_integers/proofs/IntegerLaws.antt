-- Integers within the range, and integers that are given as values.
use Rattle.std.proofs.Common.{◌≡◌, ◌∙◌, ℤ, pos, ◌≤ℤ◌, Bool, true, false, ◌||◌, Option, Some, None, refl, sym, ap, arith}
use Rattle.std.proofs.lemmas.Int.{ints}
use Rattle.eb_value.specs.declared.value.Value.{Value}
use Rattle.eb_value.specs.declared.value.Form.TheOpen as val
use Rattle.eb_value.specs.Values.{Layer, layer, int}
use Rattle.eb_value.specs.Typing.{in_range}
use Rattle.eb_operations.specs.Arithmetic.{defined_int}
use Rattle.rules_integers.specs.Ends.{greatest, clip}
use Rattle.rules_integers.proofs.RowLaws.{layer-int}

-- ---- the range

pub clip_in : (n : ℤ) → in_range n ≡ true → clip n ≡ n
clip_in n h = grind (arith, ints)

pub clip_above : (n : ℤ) → in_range n ≡ false → pos 0 ≤ℤ n → clip n ≡ greatest
clip_above n h low = grind (arith, ints)

-- ---- integers as values

abbrev number_in : Layer → ℤ
number_in (val.Int n) = n
number_in _ = pos 0

abbrev number_of : Option Value → ℤ
number_of (Some v) = number_in (layer v)
number_of None = pos 0

same_number : (m n : ℤ) → Some (int m) ≡ Some (int n) → m ≡ n
same_number m n e = sym (ap number_in (layer-int m)) ∙ ap number_of e ∙ ap number_in (layer-int n)

-- what is known where an integer is given as its value, or as none
pub given : (m n : ℤ) → Some (int m) ≡ defined_int n → (in_range n ≡ true) × (m ≡ n)
given m n h = at (in_range n) refl where
  at : (b : Bool) → in_range n ≡ b → (in_range n ≡ true) × (m ≡ n)
  at true e = let k : defined_int n ≡ Some (int n) = rw e refl in (e, same_number m n (h ∙ k))
  at false e = let k : defined_int n ≡ None = rw e refl in let l : Some (int m) ≡ None = h ∙ k in cc

pub not_given : (n : ℤ) → None ≡ defined_int n → in_range n ≡ false
not_given n h = at (in_range n) refl where
  at : (b : Bool) → in_range n ≡ b → in_range n ≡ false
  at true e = let k : defined_int n ≡ Some (int n) = rw e refl in let l : None ≡ Some (int n) = h ∙ k in cc
  at false e = e

-- ---- truths

pub or_first : (b c : Bool) → b ≡ true → (b || c) ≡ true
or_first true c h = refl
or_first false c h = cc

pub or_second : (b c : Bool) → c ≡ true → (b || c) ≡ true
or_second true c h = refl
or_second false c h = h
