-- The parts of a store by a split.
use Rattle.std.proofs.Common.{◌≡◌, ◌∙◌, ℕ, zero, suc, ◌<◌, List, [], ◌∷◌, length, set, slice_get, Bool, true, false, cond, Option, Some, None, ap, sym, subst, refl, arith, ℤ}
use Rattle.std.specs.Prelude.{MatchOption}
use Rattle.int_dom.specs.declared.interval.Interval.{Interval}
use Rattle.int_dom.specs.Intervals.{is_empty, at_most, above, has_parts, filled}
use Rattle.occ_store.specs.Places.{has_at, passes, changed_at}
use Rattle.occ_store.specs.Stores.{Store, AreParts}
use Rattle.occ_store.specs.steps.Parts.{both}

-- a store with a changed domain is the store with that domain set
pub changed_set : {A : Type 0} (f : A → A) (k : ℕ) (xs : List A) (x : A) → slice_get xs k ≡ Some x → changed_at f k xs ≡ set xs k (f x)
changed_set f k [] x e = refl
changed_set f zero (y ∷ xs) x e = let same : y ≡ x = cc in ap (λ z. f z ∷ xs) same
changed_set f (suc k) (y ∷ xs) x e = ap (λ z. y ∷ z) (changed_set f k xs x e)

within_list : {A : Type 0} (k : ℕ) (xs : List A) (x : A) → slice_get xs k ≡ Some x → k < length xs
within_list k [] x e = absurd (cc)
within_list zero (y ∷ xs) x e = omega arith
within_list (suc k) (y ∷ xs) x e = let more = within_list k xs x e in omega arith

no_part : (store : Store) (k : ℕ) (n : ℤ) (d : Interval) → slice_get store k ≡ Some d → has_parts n d ≡ false → has_at (has_parts n) k store ≡ false
no_part store k n d at none = ap (passes (has_parts n)) at ∙ none

both_by : (store : Store) (k : ℕ) (n : ℤ) (d : Interval) (a b : Bool) → slice_get store k ≡ Some d → is_empty (at_most n d) ≡ a → is_empty (above n d) ≡ b
    → MatchOption (both (cond a None (Some (at_most n d))) (cond b None (Some (above n d)))) (has_at (has_parts n) k store ≡ false) (AreParts store k n)
both_by store k n d true b at ea eb = no_part store k n d at (rw ea refl)
both_by store k n d false true at ea eb = no_part store k n d at (rw (ea, eb) refl)
both_by store k n d false false at ea eb = record {
  present = within_list k store d at;
  fits = ap (passes (has_parts n)) at ∙ (let yes : has_parts n d ≡ true = rw (ea, eb) refl in yes);
  low = sym (changed_set (at_most n) k store d at);
  high = sym (changed_set (above n) k store d at);
}

pub both_parts : (store : Store) (k : ℕ) (n : ℤ) (d : Interval) (o : Option (Interval × Interval)) → slice_get store k ≡ Some d → o ≡ both (filled (at_most n d)) (filled (above n d))
    → MatchOption o (has_at (has_parts n) k store ≡ false) (AreParts store k n)
both_parts store k n d o at e = subst (λ z. MatchOption z (has_at (has_parts n) k store ≡ false) (AreParts store k n)) (sym e)
    (both_by store k n d (is_empty (at_most n d)) (is_empty (above n d)) at refl refl)
