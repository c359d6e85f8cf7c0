-- What holds of a scope whose settings pass no limit.
use Rattle.std.proofs.Common.{◌≡◌, ℕ, Bool, true, false, not, ◌||◌, cond, ℤ, pos, negsuc, ◌≤ℤ◌, List, [], ◌∷◌, None, refl, arith}
use Rattle.std.specs.List.{list_any}
use Rattle.std.specs.Str.{bytes_eq}
use Rattle.std.proofs.lemmas.Int.{ints}
use Rattle.eb_syntax.specs.declared.units.ScopeSetting.{ScopeSetting}
use Rattle.eb_syntax.specs.declared.units.ScopeSetting.TheVariants as setting
use Rattle.eb_model.specs.declared.model.EbModel.{EbModel}
use Rattle.scope_settings.specs.declared.limit.Limit.{Limit}
use Rattle.scope_settings.specs.Scopes.{integers, size, depth}
use Rattle.scope_settings.specs.Limits.{lies_within, passes_int, passes_size, passes_depth, first_passed}
use Rattle.scope_settings.specs.declared.limit.Limit.TheVariants as limit
use Rattle.scope_settings.specs.steps.Judging.{model_limits, passed_by, ArePassingNone}

neither : (a b : Bool) → (a || b) ≡ false → (a ≡ false) × (b ≡ false)
neither false b e = (refl, e)
neither true b e = absurd (cc)

unpassed : (is_passed : Bool) (l : Limit) (ls : List (Bool × Limit)) → first_passed ((is_passed, l) ∷ ls) ≡ None → (is_passed ≡ false) × (first_passed ls ≡ None)
unpassed false l ls e = (refl, e)
unpassed true l ls e = absurd (cc)

-- a size that keeps the limit
pub small_size : (n : ℤ) → not (lies_within (pos 1) (pos 16) n) ≡ false → n ≤ℤ pos 16
small_size n h = grind (arith, ints)

at_match : (is_same : Bool) (n rest : ℤ) → n ≤ℤ pos 16 → rest ≤ℤ pos 16 → cond is_same n rest ≤ℤ pos 16
at_match true n rest h k = h
at_match false n rest h k = k

pub sizes_are_small : (x : List ℕ) (ss : List ScopeSetting) → list_any passes_size ss ≡ false → size x ss ≤ℤ pos 16
sizes_are_small x [] h = omega (arith, ints)
sizes_are_small x (setting.Integers place lo hi ∷ ss) h = sizes_are_small x ss h
sizes_are_small x (setting.Size y n ∷ ss) h =
    let both = neither (passes_size (setting.Size y n)) (list_any passes_size ss) h in
    at_match (bytes_eq x y.name) n (size x ss) (small_size n both.0) (sizes_are_small x ss both.1)
sizes_are_small x (setting.Depth place n ∷ ss) h = sizes_are_small x ss h

first_three : (b c d : Bool) (i s e : Limit) (ls : List (Bool × Limit)) → first_passed ((b, i) ∷ (c, s) ∷ (d, e) ∷ ls) ≡ None
    → (b ≡ false) × (c ≡ false) × (d ≡ false)
first_three b c d i s e ls h =
    let first = unpassed b i ((c, s) ∷ (d, e) ∷ ls) h in
    let second = unpassed c s ((d, e) ∷ ls) first.1 in
    (first.0, second.0, (unpassed d e ls second.1).0)

pub none_passed : (ss : List ScopeSetting) (m : EbModel) → passed_by ss m ≡ None → ArePassingNone ss
none_passed ss m h =
    let three = first_three (passes_int (integers ss)) (list_any passes_size ss) (passes_depth (depth ss)) limit.Int limit.Size limit.Depth (model_limits m) h in
    record { ints = three.0; sizes = three.1; sequences = three.2 }

pub small_depth : (n : ℤ) → passes_depth n ≡ false → n ≤ℤ pos 16
small_depth n h = grind (arith, ints)

pub least_integer : (lo hi : ℤ) → passes_int (lo, hi) ≡ false → negsuc 32767 ≤ℤ lo
least_integer lo hi h = grind (arith, ints)

pub greatest_integer : (lo hi : ℤ) → passes_int (lo, hi) ≡ false → hi ≤ℤ pos 32767
greatest_integer lo hi h = grind (arith, ints)

pub some_integer : (lo hi : ℤ) → passes_int (lo, hi) ≡ false → lo ≤ℤ hi
some_integer lo hi h = grind (arith, ints)
