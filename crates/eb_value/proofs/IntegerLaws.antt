-- The integers of a scope are those from its lower to its upper bound.
use Rattle.std.proofs.Common.{◌≡◌, ℕ, zero, suc, ⊎_elim, ◌↔◌, ℤ, pos, negsuc, ◌+ℤ◌, ◌≤ℤ◌, ◌<ℤ◌, refl, sym, ap, subst, arith}
use Rattle.std.proofs.lemmas.Int.{ints, by_lt_z}
use Rattle.std.specs.Int.{int_gap}
use Rattle.std.specs.List.{Contains}
use Rattle.eb_value.specs.declared.scope.Scope.{Scope}
use Rattle.eb_value.specs.declared.value.Value.{Value}
use Rattle.eb_value.specs.Types.{integer}
use Rattle.eb_value.specs.Values.{int}
use Rattle.eb_value.specs.Scopes.{vals, ints_from}
use Rattle.eb_value.specs.Counts.{integers_within}
use Rattle.eb_value.proofs.CountLaws.{vals-integer}
use Rattle.eb_value.proofs.Members.{contains_none, contains_cases, contains_here, contains_there}

pub gap_up : (lo end : ℤ) → lo ≤ℤ end → lo +ℤ pos (int_gap lo end) ≡ end
gap_up (pos a) (pos b) h = omega (arith, ints)
gap_up (pos a) (negsuc b) h = absurd (omega (arith, ints))
gap_up (negsuc a) (pos b) h = omega (arith, ints)
gap_up (negsuc a) (negsuc b) h = omega (arith, ints)

pub gap_none : (lo end : ℤ) → end ≤ℤ lo → int_gap lo end ≡ 0
gap_none (pos a) (pos b) h = omega (arith, ints)
gap_none (pos a) (negsuc b) h = refl
gap_none (negsuc a) (pos b) h = absurd (omega (arith, ints))
gap_none (negsuc a) (negsuc b) h = omega (arith, ints)

abbrev Within : ℤ → ℤ → Value → Type 0
Within lo hi v = (n : ℤ) × (v ≡ int n) × (lo ≤ℤ n) × (n ≤ℤ hi)

pub from_up : (lo : ℤ) (n : ℕ) (v : Value) → Contains (ints_from lo n) v → (m : ℤ) × (v ≡ int m) × (lo ≤ℤ m) × (m <ℤ (lo +ℤ pos n))
from_up lo zero v h = absurd (contains_none v h)
from_up lo (suc n) v h = ⊎_elim
    (λ e. (lo, sym e, omega (arith, ints), omega (arith, ints)))
    (λ k. let r = from_up (lo +ℤ pos 1) n v k in (r.0, r.1, omega (arith, ints, r.2), omega (arith, ints, r.3)))
    (contains_cases (int lo) (ints_from (lo +ℤ pos 1) n) v h)

pub up_from : (lo : ℤ) (n : ℕ) (m : ℤ) → lo ≤ℤ m → m <ℤ (lo +ℤ pos n) → Contains (ints_from lo n) (int m)
up_from lo zero m l u = absurd (omega (arith, ints))
up_from lo (suc n) m l u = by_lt_z lo m
    (λ h. contains_there (int lo) (ints_from (lo +ℤ pos 1) n) (int m) (up_from (lo +ℤ pos 1) n m (omega (arith, ints)) (omega (arith, ints))))
    (λ h. contains_here (int lo) (ints_from (lo +ℤ pos 1) n) (int m) (ap int (omega (arith, ints))))

pub integers_within_bounds : (scope : Scope) (v : Value) → Contains (vals scope integer) v → Within scope.lo scope.hi v
integers_within_bounds scope v h =
    let k : Contains (ints_from scope.lo (integers_within scope.lo scope.hi)) v = subst (λ xs. Contains xs v) (vals-integer scope) h in
    let r = from_up scope.lo (integers_within scope.lo scope.hi) v k in
    by_lt_z scope.hi scope.lo
    (λ l. let none : integers_within scope.lo scope.hi ≡ 0 = gap_none scope.lo (scope.hi +ℤ pos 1) (omega (arith, ints)) in absurd (omega (arith, ints, none, r.2, r.3)))
    (λ l. let all : scope.lo +ℤ pos (integers_within scope.lo scope.hi) ≡ scope.hi +ℤ pos 1 = gap_up scope.lo (scope.hi +ℤ pos 1) (omega (arith, ints)) in (r.0, r.1, r.2, omega (arith, ints, all, r.3)))

pub within_bounds_integers : (scope : Scope) (n : ℤ) → scope.lo ≤ℤ n → n ≤ℤ scope.hi → Contains (vals scope integer) (int n)
within_bounds_integers scope n l u =
    let all : scope.lo +ℤ pos (integers_within scope.lo scope.hi) ≡ scope.hi +ℤ pos 1 = gap_up scope.lo (scope.hi +ℤ pos 1) (omega (arith, ints)) in
    subst (λ xs. Contains xs (int n)) (sym (vals-integer scope)) (up_from scope.lo (integers_within scope.lo scope.hi) n l (omega (arith, ints, all)))

pub integers : (scope : Scope) (v : Value) → Contains (vals scope integer) v ↔ Within scope.lo scope.hi v
integers scope v = (integers_within_bounds scope v, λ r. subst (Contains (vals scope integer)) (sym r.1) (within_bounds_integers scope r.0 r.2 r.3))
