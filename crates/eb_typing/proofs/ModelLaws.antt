-- Steps of what makes the equations of `x, y := E, F`.
use Rattle.std.proofs.Common.{◌≡◌, ◌∙◌, ℕ, suc, ◌+◌, ◌<◌, ◌≤◌, List, [], ◌∷◌, length, drop, get_or, sym, ap, subst, arith, add-one, drop-cons}
use Rattle.std.proofs.lemmas.List.{drop_all}
use Rattle.eb_resolved.specs.declared.resolved.Resolved.{Resolved}
use Rattle.eb_typing.specs.declared.generated.Generated.{Generated}
use Rattle.eb_typing.specs.steps.Demanding.{assigned, becomes_equal, no_predicate}

-- what is left to assign, as it stands after some variables
pub record Assigned (asked : ℕ) (whole g : Generated) (xs es : List Resolved) : Type 0 where
  pub is : whole ≡ becomes_equal asked xs es g

pub assigned_more : (asked : ℕ) (whole g h : Generated) (xs es others : List Resolved) (i : ℕ) (x e : Resolved) → i < length xs → x ≡ get_or xs i x
    → Assigned asked whole g (drop i xs) es → es ≡ e ∷ others → h ≡ assigned asked x e g → Assigned asked whole h (drop (i + 1) xs) others
assigned_more asked whole g h xs es others i x e l is a m n =
    let d : drop i xs ≡ x ∷ drop (i + 1) xs = rw (add-one, drop-cons xs i x) (ap (λ z. z ∷ drop (suc i) xs) (sym is)) in
    let b = subst (λ z. Assigned asked whole g z es) d a in
    let c = subst (λ z. Assigned asked whole g (x ∷ drop (i + 1) xs) z) m b in
    record { is = c.is ∙ ap (λ z. becomes_equal asked (drop (i + 1) xs) others z) (sym n) }

pub assigned_short : (asked : ℕ) (whole g h : Generated) (xs es : List Resolved) (i : ℕ) (x : Resolved) → i < length xs → x ≡ get_or xs i x
    → Assigned asked whole g (drop i xs) es → length es ≡ 0 → h ≡ no_predicate g → h ≡ whole
assigned_short asked whole g h xs [] i x l is a k n =
    let d : drop i xs ≡ x ∷ drop (i + 1) xs = rw (add-one, drop-cons xs i x) (ap (λ z. z ∷ drop (suc i) xs) (sym is)) in
    n ∙ sym ((subst (λ z. Assigned asked whole g z []) d a).is)
assigned_short asked whole g h xs (e ∷ es) i x l is a k n = absurd (omega arith)

pub assigned_all : (asked : ℕ) (whole g : Generated) (xs es : List Resolved) (i : ℕ) → length xs ≤ i
    → Assigned asked whole g (drop i xs) es → length es ≡ 0 → g ≡ whole
assigned_all asked whole g xs [] i l a e = sym ((subst (λ z. Assigned asked whole g z []) (drop_all i xs l) a).is)
assigned_all asked whole g xs (x ∷ es) i l a e = absurd (omega arith)

pub assigned_long : (asked : ℕ) (whole g h : Generated) (xs es : List Resolved) (i : ℕ) → length xs ≤ i
    → Assigned asked whole g (drop i xs) es → 0 < length es → h ≡ no_predicate g → h ≡ whole
assigned_long asked whole g h xs [] i l a e n = absurd (omega arith)
assigned_long asked whole g h xs (x ∷ es) i l a e n = n ∙ sym ((subst (λ z. Assigned asked whole g z (x ∷ es)) (drop_all i xs l) a).is)
