-- Anchors, conjunct by conjunct.
use Rattle.std.proofs.Common.{◌≡◌, ◌∙◌, refl, sym, ap, ap₂, ℕ, zero, suc, ◌<◌, ◌≤◌, Bool, true, false, if◌then◌else◌, List, [], ◌∷◌, ◌++◌, map, length, get_or, Some, None, append_assoc, arith}
use Rattle.std.specs.Prelude.{max}
use Rattle.std.proofs.lemmas.List.{map-append}
use Rattle.eb_syntax.specs.declared.ast.Operator.{Operator}
use Rattle.eb_syntax.specs.declared.ast.Operator.TheVariants as op
use Rattle.eb_term.specs.declared.term.Term.{Term}
use Rattle.eb_forms.specs.Forms.{is_value}
use Rattle.eb_lowering.specs.declared.setting.Setting.{Setting}
use Rattle.eb_lowering.specs.declared.around.Around.{Around}
use Rattle.eb_lowering.specs.declared.around.Leaf.{Leaf}
use Rattle.eb_lowering.specs.declared.anchors.Range.{Range as Kept}
use Rattle.eb_lowering.specs.Anchors as anchor
use Rattle.eb_lowering.specs.Anchors.{Conjunct}
use Rattle.eb_lowering.specs.Lowering as spec
use Rattle.eb_lowering.specs.steps.Anchoring.{Anchors, seen, left, size_in, largest, of_all, is_conjunction, is_membership, is_implication}

pub and_then : (s : Setting) (ds bs : List (Conjunct (Around → Term))) (free mid rest : List ℕ) (old between new : List Kept) (goes_on : Bool)
    → Anchors s ds free mid old between true → Anchors s bs mid rest between new goes_on → Anchors s (ds ++ bs) free rest old new goes_on
and_then s ds bs free mid rest old between new goes_on h k =
    λ more. ap (λ z. map (seen s) old ++ anchor.ranges_of free z) (append_assoc ds bs more) ∙ h (bs ++ more) ∙ k more

pub ends : (s : Setting) (ds bs : List (Conjunct (Around → Term))) (free rest : List ℕ) (old new : List Kept)
    → Anchors s ds free rest old new false → Anchors s (ds ++ bs) free rest old new false
ends s ds bs free rest old new h =
    λ more. ap (λ z. map (seen s) old ++ anchor.ranges_of free z) (append_assoc ds bs more) ∙ h (bs ++ more)

pub other : (s : Setting) (t : Around → Term) (free : List ℕ) (old : List Kept) → Anchors s (spec.other_conjunct t) free free old old false
other s t free old = λ more. refl

abbrev conjunct_of : spec.Lowered → spec.Lowered → Conjunct (Around → Term)
conjunct_of a b = record { leaves = a.leaves; range = b.term; uses = b.uses; is_value = is_value b.kind }

-- `a : b` where a is not made of identifiers
pub not_made : (s : Setting) (a b : spec.Lowered) (free : List ℕ) (old : List Kept) → a.leaves ≡ None → Anchors s (spec.membership a b) free free old old false
not_made s a b free old e = λ more. ap (λ o. map (seen s) old ++ anchor.ranges_by free (conjunct_of a b) (λ z. anchor.ranges_of z more) o) e

-- `a : b` where it is no anchor
pub no_anchor : (s : Setting) (a b : spec.Lowered) (ls : List Leaf) (free : List ℕ) (old : List Kept) → a.leaves ≡ Some ls → anchor.anchors free (conjunct_of a b) ls ≡ false
    → Anchors s (spec.membership a b) free free old old false
no_anchor s a b ls free old e f =
    λ more. ap (λ o. map (seen s) old ++ anchor.ranges_by free (conjunct_of a b) (λ z. anchor.ranges_of z more) o) e
    ∙ ap (λ t. map (seen s) old ++ (if t then (anchor.over ls b.term ∷ anchor.ranges_of (anchor.without free ls) more) else map anchor.all free)) f

-- `a : b` where it is one
pub an_anchor : (s : Setting) (a b : spec.Lowered) (ls : List Leaf) (free rest : List ℕ) (old : List Kept) (r : Kept) → a.leaves ≡ Some ls → anchor.anchors free (conjunct_of a b) ls ≡ true
    → rest ≡ anchor.without free ls → seen s r ≡ anchor.over ls b.term → Anchors s (spec.membership a b) free rest old (old ++ r ∷ []) true
an_anchor s a b ls free rest old r e f is at =
    λ more. ap (λ o. map (seen s) old ++ anchor.ranges_by free (conjunct_of a b) (λ z. anchor.ranges_of z more) o) e
    ∙ ap (λ t. map (seen s) old ++ (if t then (anchor.over ls b.term ∷ anchor.ranges_of (anchor.without free ls) more) else map anchor.all free)) f
    ∙ ap₂ (λ x z. map (seen s) old ++ (x ∷ anchor.ranges_of z more)) (sym at) (sym is)
    ∙ sym (append_assoc (map (seen s) old) (seen s r ∷ []) (anchor.ranges_of rest more))
    ∙ ap (λ z. z ++ anchor.ranges_of rest more) (sym (map-append (seen s) old (r ∷ [])))

pub of_conjunction : (o : Operator) (t : Around → Term) (a b : spec.Lowered) → is_conjunction o ≡ true → spec.conjuncts_by o t a b ≡ a.conjuncts ++ b.conjuncts
of_conjunction op.And t a b e = refl
of_conjunction o t a b e = absurd (cc)

pub of_membership : (o : Operator) (t : Around → Term) (a b : spec.Lowered) → is_membership o ≡ true → spec.conjuncts_by o t a b ≡ spec.membership a b
of_membership op.MemberOf t a b e = refl
of_membership o t a b e = absurd (cc)

pub of_another : (o : Operator) (t : Around → Term) (a b : spec.Lowered) → is_conjunction o ≡ false → is_membership o ≡ false → spec.conjuncts_by o t a b ≡ spec.other_conjunct t
of_another op.And t a b e f = absurd (cc)
of_another op.MemberOf t a b e f = absurd (cc)
of_another o t a b e f = refl

pub of_implication : (o : Operator) (a : spec.Lowered) → is_implication o ≡ true → spec.premises_by o a ≡ a.conjuncts
of_implication op.Implies a e = refl
of_implication o a e = absurd (cc)

pub of_no_implication : (o : Operator) (a : spec.Lowered) → is_implication o ≡ false → spec.premises_by o a ≡ []
of_no_implication op.Implies a e = absurd (cc)
of_no_implication o a e = refl

-- ---- the depth of the deepest formula

pub largest_more : (rs : List Kept) (r : Kept) → largest (rs ++ r ∷ []) ≡ max (largest rs) (size_in r)
largest_more [] r = omega arith
largest_more (q ∷ rs) r = omega (arith, largest_more rs r)

pub largest_at : (rs : List Kept) (i : ℕ) (d : Kept) → i < length rs → size_in (get_or rs i d) ≤ largest rs
largest_at [] i d h = absurd (omega arith)
largest_at (r ∷ rs) zero d h = omega arith
largest_at (r ∷ rs) (suc i) d h = omega (arith, largest_at rs i d (omega arith))

seen_all : (s : Setting) (free : List ℕ) → map (seen s) (map of_all free) ≡ map anchor.all free
seen_all s [] = refl
seen_all s (k ∷ free) = ap (λ z. anchor.all k ∷ z) (seen_all s free)

none_more : (s : Setting) (free : List ℕ) (goes_on : Bool) → left free goes_on [] ≡ map anchor.all free
none_more s free true = refl
none_more s free false = refl

none_behind : {A : Type 0} (xs : List A) → xs ≡ xs ++ []
none_behind [] = refl
none_behind (x ∷ xs) = ap (λ z. x ∷ z) (none_behind xs)

-- all ranges: the anchors, and what is left
pub whole : (s : Setting) (cs : List (Conjunct (Around → Term))) (free rest : List ℕ) (old new all : List Kept) (goes_on : Bool) → old ≡ [] → Anchors s cs free rest old new goes_on → all ≡ new ++ map of_all rest
    → map (seen s) all ≡ anchor.ranges_of free cs
whole s cs free rest old new all goes_on n h is =
    ap (map (seen s)) is ∙ map-append (seen s) new (map of_all rest)
    ∙ ap (λ z. map (seen s) new ++ z) (seen_all s rest ∙ sym (none_more s rest goes_on))
    ∙ sym (h []) ∙ ap₂ (λ z ds. map (seen s) z ++ anchor.ranges_of free ds) n (sym (none_behind cs))

largest_all : (rs : List Kept) (free : List ℕ) → largest (rs ++ map of_all free) ≡ largest rs
largest_all [] [] = refl
largest_all [] (k ∷ free) = omega (arith, largest_all [] free)
largest_all (r ∷ rs) free = ap (max (size_in r)) (largest_all rs free)

pub no_larger : (old new all : List Kept) (free : List ℕ) (n : ℕ) → old ≡ [] → largest new ≤ max (largest old) n → all ≡ new ++ map of_all free → largest all ≤ n
no_larger old new all free n e h is =
    let a : largest all ≡ largest new = ap largest is ∙ largest_all new free in
    let b : largest old ≡ 0 = ap largest e in
    omega arith

pub largest_pushed : (old new : List Kept) (r : Kept) → new ≡ old ++ r ∷ [] → largest new ≤ max (largest old) (size_in r)
largest_pushed old new r e = let a : largest new ≡ max (largest old) (size_in r) = ap largest e ∙ largest_more old r in omega arith
