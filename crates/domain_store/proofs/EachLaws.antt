-- What holds at each place of a list.
use Rattle.std.proofs.Common.{◌≡◌, refl, sym, subst, ℕ, zero, suc, List, [], ◌∷◌, ◌++◌, length, slice_get, Some, arith, ◌⊎◌, inl, inr}
use Rattle.domain_store.specs.steps.Firsts.{Each}

-- what stands at a place of a list with one more at its end
pub at_push : {A : Type 0} (xs : List A) (y : A) (k : ℕ) (x : A) → slice_get (xs ++ y ∷ []) k ≡ Some x → (slice_get xs k ≡ Some x) ⊎ ((k ≡ length xs) × (y ≡ x))
at_push [] y zero x e = inr (refl, (let h : y ≡ x = cc in h))
at_push [] y (suc k) x e = absurd (cc)
at_push (z ∷ xs) y zero x e = inl e
at_push (z ∷ xs) y (suc k) x e = elim (at_push xs y k x e) [
  | inl h ↦ inl h
  | inr h ↦ inr ((let s : k ≡ length xs = h.0 in omega arith), h.1)
]

pub each_push : {A : Type 0} {P : ℕ → A → Type 0} {xs : List A} (y : A) → Each P xs → P (length xs) y → Each P (xs ++ y ∷ [])
each_push {P = P} {xs = xs} y each here = record {
  at = λ k x e. elim (at_push xs y k x e) [
    | inl h ↦ each.at k x h
    | inr h ↦ subst (λ z. P k z) h.1 (subst (λ j. P j y) (sym h.0) here)
  ];
}

pub each_more : {A : Type 0} {P Q : ℕ → A → Type 0} {xs : List A} → ((k : ℕ) (x : A) → P k x → Q k x) → Each P xs → Each Q xs
each_more more each = record { at = λ k x e. more k x (each.at k x e) }

pub each_none : {A : Type 0} {P : ℕ → A → Type 0} → Each P []
each_none = record { at = λ k x e. absurd (cc) }
