-- Boxes, and the changes that lead from one to the next.
use Rattle.std.proofs.Common.{◌≡◌, ◌∙◌, sym, ap, refl, ℕ, zero, suc, ◌<◌, Bool, true, false, Some, None, List, [], ◌∷◌, ◌++◌, set, slice_get, length, reverse, arith}
use Rattle.std.proofs.lemmas.List.{set-set, reverse-append}
use Rattle.int_dom.specs.declared.interval.Interval.{Interval}
use Rattle.occ_store.specs.declared.boxes.Change.{Change}
use Rattle.occ_store.specs.Stores.{Store}
use Rattle.occ_store.specs.Boxes.{after_first, HasChoice, split_first}
use Rattle.occ_store.specs.steps.Changes.{later, boxes_from}

set_same : (store : Store) (k : ℕ) (d : Interval) → slice_get store k ≡ Some d → set store k d ≡ store
set_same [] k d at = refl
set_same (e ∷ store) zero d at = let same : e ≡ d = cc in ap (λ x. x ∷ store) (sym same)
set_same (e ∷ store) (suc k) d at = ap (λ xs. e ∷ xs) (set_same store k d at)

there : (store : Store) (k : ℕ) → k < length store → slice_get store k ≡ None → ⊥
there [] k less at = omega (arith, less)
there (e ∷ store) zero less at = absurd (cc)
there (e ∷ store) (suc k) less at = there store k (omega (arith, less)) at

-- a first box without the choice
pub absent : (closed : Bool) (store : Store) (k : ℕ) (changes : List Change) → HasChoice (boxes_from closed store changes) k → slice_get store k ≡ None → ⊥
absent true store k changes has at = has
absent false store k changes has at = there store k has at

split_open : (store : Store) (k : ℕ) (low high before : Interval) (first second : Change) (changes : List Change) → slice_get store k ≡ Some before
    → first ≡ record { choice = k; domain = before; is_box = false } → second ≡ record { choice = k; domain = high; is_box = true }
    → boxes_from false (set store k low) (second ∷ (first ∷ changes)) ≡ set store k low ∷ (set store k high ∷ later store changes)
split_open store k low high before first second changes at a b =
    let once : set (set store k low) k high ≡ set store k high = set-set store k low high in
    let back : set (set (set store k low) k high) k before ≡ store = set-set (set store k low) k high before ∙ set-set store k low before ∙ set_same store k before at in
    rw (a, b, back, once) refl

split_is : (closed : Bool) (store : Store) (k : ℕ) (low high before : Interval) (first second : Change) (changes : List Change) → slice_get store k ≡ Some before
    → first ≡ record { choice = k; domain = before; is_box = false } → second ≡ record { choice = k; domain = high; is_box = true }
    → boxes_from closed (set store k low) (second ∷ (first ∷ changes)) ≡ split_first k low high (boxes_from closed store changes)
split_is true store k low high before first second changes at a b = refl
split_is false store k low high before first second changes at a b = split_open store k low high before first second changes at a b

two_more : (changes : List Change) (first second : Change) → reverse (changes ++ (first ∷ second ∷ [])) ≡ second ∷ (first ∷ reverse changes)
two_more changes first second = reverse-append changes (first ∷ second ∷ [])

pub split : (closed : Bool) (store : Store) (k : ℕ) (low high before : Interval) (first second : Change) (changes : List Change) → slice_get store k ≡ Some before
    → first ≡ record { choice = k; domain = before; is_box = false } → second ≡ record { choice = k; domain = high; is_box = true }
    → boxes_from closed (set store k low) (reverse (changes ++ (first ∷ second ∷ []))) ≡ split_first k low high (boxes_from closed store (reverse changes))
split closed store k low high before first second changes at a b =
    ap (boxes_from closed (set store k low)) (two_more changes first second) ∙ split_is closed store k low high before first second (reverse changes) at a b

one_more : (changes : List Change) (change : Change) → reverse (changes ++ (change ∷ [])) ≡ change ∷ reverse changes
one_more changes change = reverse-append changes (change ∷ [])

abbrev pub onto_box : Bool → Bool → Store → List Change → List Store
onto_box closed true store changes = boxes_from closed store changes
onto_box closed false store changes = after_first (boxes_from closed store changes)

next_box : (closed box : Bool) (store : Store) (change : Change) (changes : List Change) → change.is_box ≡ box
    → after_first (boxes_from closed store (change ∷ changes)) ≡ onto_box closed box (set store change.choice change.domain) changes
next_box true true store change changes e = refl
next_box true false store change changes e = refl
next_box false true store change changes e = rw e refl
next_box false false store change changes e = rw e refl

-- a change that leads to a box, and one that doesn't
pub next_of : (closed box : Bool) (store : Store) (change : Change) (changes : List Change) → change.is_box ≡ box
    → after_first (boxes_from closed store (reverse (changes ++ (change ∷ [])))) ≡ onto_box closed box (set store change.choice change.domain) (reverse changes)
next_of closed box store change changes e = ap (λ xs. after_first (boxes_from closed store xs)) (one_more changes change) ∙ next_box closed box store change (reverse changes) e
