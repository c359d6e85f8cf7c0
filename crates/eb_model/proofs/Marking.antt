-- Walks over the marked units.
use Rattle.std.proofs.Common.{◌≡◌, ◌∙◌, ℕ, suc, ◌+◌, ◌<◌, ◌≤◌, Bool, true, false, List, [], ◌∷◌, ◌++◌, length, drop, get_or, refl, sym, ap, subst, arith, add-one, drop-cons}
use Rattle.std.proofs.lemmas.List.{drop_all}
use Rattle.std.specs.Prelude.{fold, if◌then◌else◌}
use Rattle.eb_syntax.specs.declared.units.EbUnit.{EbUnit}
use Rattle.eb_scoping.specs.Models.{AreMarkedBehind, AreMarked, marked}

-- what is left to walk over, as it stands after some units
pub record Marked {W : Type 0} (step : W → EbUnit → W) (whole w : W) (us : List EbUnit) (bs : List Bool) : Type 0 where
  pub is : whole ≡ fold step w (marked us bs)

step_marked : {W : Type 0} (step : W → EbUnit → W) (whole w : W) (u : EbUnit) (us : List EbUnit) (b : Bool) (bs : List Bool) → whole ≡ fold step w (marked (u ∷ us) (b ∷ bs)) → whole ≡ fold step (if b then step w u else w) (marked us bs)
step_marked step whole w u us true bs e = e
step_marked step whole w u us false bs e = e

pub marked_more : {W : Type 0} (step : W → EbUnit → W) (whole w v : W) (us : List EbUnit) (bs others : List Bool) (i : ℕ) (u : EbUnit) (b : Bool) → i < length us → u ≡ get_or us i u
    → Marked step whole w (drop i us) bs → bs ≡ b ∷ others → v ≡ (if b then step w u else w) → Marked step whole v (drop (i + 1) us) others
marked_more step whole w v us bs others i u b h is a m n =
    let d : drop i us ≡ u ∷ drop (i + 1) us = rw (add-one, drop-cons us i u) (ap (λ z. z ∷ drop (suc i) us) (sym is)) in
    let c = subst (λ z. Marked step whole w z bs) d a in
    let e = subst (λ z. Marked step whole w (u ∷ drop (i + 1) us) z) m c in
    record { is = step_marked step whole w u (drop (i + 1) us) b others e.is ∙ ap (λ z. fold step z (marked (drop (i + 1) us) others)) (sym n) }

no_marks : (us : List EbUnit) → marked us [] ≡ []
no_marks [] = refl
no_marks (u ∷ us) = refl

pub marked_short : {W : Type 0} (step : W → EbUnit → W) (whole w : W) (us : List EbUnit) (bs : List Bool) → Marked step whole w us bs → length bs ≡ 0 → w ≡ whole
marked_short step whole w us [] a l = sym (a.is ∙ ap (fold step w) (no_marks us))
marked_short step whole w us (b ∷ bs) a l = absurd (omega arith)

pub marked_all : {W : Type 0} (step : W → EbUnit → W) (whole w : W) (us : List EbUnit) (bs : List Bool) (i : ℕ) → length us ≤ i → Marked step whole w (drop i us) bs → w ≡ whole
marked_all step whole w us bs i l a = sym ((subst (λ z. Marked step whole w z bs) (drop_all i us l) a).is)
