-- The cells of the boxes, and the changes that lead from one to the next.
use Rattle.std.proofs.Common.{◌≡◌, ◌∙◌, refl, ap, ℕ, Bool, true, false, List, [], ◌∷◌, ◌++◌, set, get_or, reverse, Option, Some, None}
use Rattle.std.proofs.lemmas.List.{set-set, set-get_or, reverse-append}
use Rattle.occ_domains.specs.declared.domain.Domain.{Domain}
use Rattle.domain_store.specs.declared.changes.Change.{Change}
use Rattle.domain_store.specs.Boxes.{cells_from}
use Rattle.domain_store.specs.steps.Kept.{back_at, box_at}

abbrev pub Cells : Type 0
Cells = List (Option Domain)

-- the first of the boxes with another cell
abbrev pub first_set : ℕ → Option Domain → List Cells → List Cells
first_set k x [] = []
first_set k x (cells ∷ rest) = set cells k x ∷ rest

-- two boxes in the place of the first, with other cells
abbrev pub two_set : ℕ → Option Domain → Option Domain → List Cells → List Cells
two_set k x y [] = []
two_set k x y (cells ∷ rest) = set cells k x ∷ set cells k y ∷ rest

-- the cells behind the first box's
abbrev pub rest_of : List Cells → List Cells
rest_of [] = []
rest_of (cells ∷ rest) = rest

taken_back : (cells : Cells) (k : ℕ) (x : Option Domain) → set (set cells k x) k (get_or cells k None) ≡ cells
taken_back cells k x = set-set cells k x (get_or cells k None) ∙ set-get_or cells k None

narrowed_by : (closed : Bool) (cells : Cells) (k : ℕ) (x : Option Domain) (changes : List Change)
    → cells_from closed (set cells k x) (back_at cells k ∷ changes) ≡ first_set k x (cells_from closed cells changes)
narrowed_by true cells k x changes = refl
narrowed_by false cells k x changes = rw (taken_back cells k x) refl

one_more : (changes : List Change) (change : Change) → reverse (changes ++ change ∷ []) ≡ change ∷ reverse changes
one_more changes change = reverse-append changes (change ∷ [])

-- one more change that takes a narrowing back
pub narrowed : (closed : Bool) (cells : Cells) (k : ℕ) (x : Option Domain) (changes : List Change)
    → cells_from closed (set cells k x) (reverse (changes ++ back_at cells k ∷ [])) ≡ first_set k x (cells_from closed cells (reverse changes))
narrowed closed cells k x changes =
    ap (cells_from closed (set cells k x)) (one_more changes (back_at cells k)) ∙ narrowed_by closed cells k x (reverse changes)

split_by : (closed : Bool) (cells : Cells) (k : ℕ) (x : Option Domain) (d : Domain) (changes : List Change)
    → cells_from closed (set cells k x) (box_at k d ∷ back_at cells k ∷ changes) ≡ two_set k x (Some d) (cells_from closed cells changes)
split_by true cells k x d changes = refl
split_by false cells k x d changes =
    let once : set (set cells k x) k (Some d) ≡ set cells k (Some d) = set-set cells k x (Some d) in
    rw (once, taken_back cells k (Some d)) refl

-- two more changes, to the second box and back
pub split : (closed : Bool) (cells : Cells) (k : ℕ) (x : Option Domain) (d : Domain) (changes : List Change)
    → cells_from closed (set cells k x) (reverse ((changes ++ back_at cells k ∷ []) ++ box_at k d ∷ [])) ≡ two_set k x (Some d) (cells_from closed cells (reverse changes))
split closed cells k x d changes =
    ap (cells_from closed (set cells k x)) (one_more (changes ++ back_at cells k ∷ []) (box_at k d) ∙ ap (λ cs. box_at k d ∷ cs) (one_more changes (back_at cells k)))
    ∙ split_by closed cells k x d (reverse changes)

-- ---- the next box

abbrev pub onto_box : Bool → Bool → Cells → List Change → List Cells
onto_box closed true cells changes = cells_from closed cells changes
onto_box closed false cells changes = rest_of (cells_from closed cells changes)

next_box : (closed box : Bool) (cells : Cells) (change : Change) (changes : List Change) → change.is_box ≡ box
    → rest_of (cells_from closed cells (change ∷ changes)) ≡ onto_box closed box (set cells change.slot change.domain) changes
next_box true true cells change changes e = refl
next_box true false cells change changes e = refl
next_box false true cells change changes e = rw e refl
next_box false false cells change changes e = rw e refl

-- a change that leads to a box, and one that doesn't
pub next_of : (closed box : Bool) (cells : Cells) (change : Change) (changes : List Change) → change.is_box ≡ box
    → rest_of (cells_from closed cells (reverse (changes ++ change ∷ []))) ≡ onto_box closed box (set cells change.slot change.domain) (reverse changes)
next_of closed box cells change changes e = ap (λ xs. rest_of (cells_from closed cells xs)) (one_more changes change) ∙ next_box closed box cells change (reverse changes) e
