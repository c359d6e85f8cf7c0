-- The stores of the boxes, by the cells that are kept.
use Rattle.std.proofs.Common.{◌≡◌, ◌∙◌, refl, sym, ap, ap₂, subst, ℕ, zero, suc, ◌+◌, ◌<◌, List, [], ◌∷◌, ◌++◌, length, set, map, reverse, slice_get, Option, Some, None, arith, Bool, true, false, length-set, length-append}
use Rattle.std.proofs.lemmas.List.{reverse-append}
use Rattle.std.proofs.Math.Path.{fun_ext}
use Rattle.eb_value.specs.declared.scope.Scope.{Scope}
use Rattle.eb_value.specs.declared.value.Value.{Value}
use Rattle.eb_term.specs.declared.problem.Problem.{Problem}
use Rattle.occ_domains.specs.declared.domain.Domain.{Domain}
use Rattle.occurrences.specs.declared.place.Place.{Place}
use Rattle.occurrences.specs.Stores.{Domains, first_domains}
use Rattle.domain_store.specs.declared.slots.Key.{Key}
use Rattle.domain_store.specs.declared.changes.Change.{Change}
use Rattle.domain_store.specs.Places.{place_count, place_number}
use Rattle.domain_store.specs.Slots.{slot_of}
use Rattle.domain_store.specs.Boxes.{State, own_or, cell_at, store_by, changed, later, cells_from, stores_of, domains_of, after_first, narrow_first, split_first}
use Rattle.domain_store.specs.steps.Firsts.{Each}
use Rattle.domain_store.specs.steps.Kept.{AreEmpty, IsSound, HasSlot, AreSame, with_key, with_put, with_cell, with_change, box_at}
use Rattle.domain_store.proofs.SlotLaws.{Tells}
use Rattle.domain_store.proofs.KeyLaws.{slot_within, slot_made}
use Rattle.domain_store.proofs.CellLaws.{Cells, first_set, two_set, rest_of, narrowed, split, next_of}
use Rattle.domain_store.proofs.StoreLaws.{set_is, more_is}

abbrev pub Sound : State → Type 0
Sound s = IsSound s.problem s.keys s.cells s.changes

pub has_slot : Tells → (s : State) (at : Place) (bound : List Value) (slot : ℕ) → Sound s → slot_of s.problem s.keys at bound ≡ Some slot → HasSlot s at bound slot
has_slot tells s at bound slot sound is =
    let less : slot < place_count s.problem + length s.keys = slot_within tells s.problem s.keys at bound slot is in
    let count : length s.cells ≡ place_count s.problem + length s.keys = sound.count in
    record { is = is; within = omega arith }

-- ---- one more key

abbrev pub Every : {A : Type 0} → (A → Type 0) → List A → Type 0
Every P [] = Unit {0}
Every P (x ∷ xs) = P x × Every P xs

every_end : {A : Type 0} (P : A → Type 0) (xs : List A) (x : A) → Every P xs → P x → Every P (xs ++ x ∷ [])
every_end P [] x h p = (p, tt)
every_end P (y ∷ xs) x h p = (h.0, every_end P xs x h.1 p)

every_back : {A : Type 0} (P : A → Type 0) (xs : List A) → Every P xs → Every P (reverse xs)
every_back P [] h = tt
every_back P (x ∷ xs) h = rw (reverse-append (x ∷ []) xs) (every_end P (reverse xs) x (every_back P xs h.1) h.0)

every_of : {A : Type 0} (P : A → Type 0) (xs : List A) → Each (λ k x. P x) xs → Every P xs
every_of P [] each = tt
every_of P (x ∷ xs) each = (each.at 0 x refl, every_of P xs (record { at = λ k y e. each.at (suc k) y e }))

set_more : (cells : Cells) (k : ℕ) (x : Option Domain) → k < length cells → set (cells ++ None ∷ []) k x ≡ set cells k x ++ None ∷ []
set_more [] k x l = absurd (omega arith)
set_more (c ∷ cells) zero x l = refl
set_more (c ∷ cells) (suc k) x l = ap (λ cs. c ∷ cs) (set_more cells k x (omega arith))

module _ (scope : Scope) (p : Problem) (keys : List Key) (key : Key) where
  abbrev stores : List Cells → List Domains
  stores all = map (store_by scope p keys) all

  abbrev more_stores : List Cells → List Domains
  more_stores all = map (store_by scope p (keys ++ key ∷ [])) all

  later_more : (cells : Cells) (changes : List Change) → length cells ≡ place_count p + length keys → Every (λ change. change.slot < length cells) changes
      → more_stores (later (cells ++ None ∷ []) changes) ≡ stores (later cells changes)
  later_more cells [] count within = refl
  later_more cells (change ∷ changes) count within = by change.is_box refl (later_more (changed cells change) changes same further) where
    even : length (changed cells change) ≡ length cells
    even = length-set cells change.slot change.domain

    same : length (changed cells change) ≡ place_count p + length keys
    same = even ∙ count

    further : Every (λ c. c.slot < length (changed cells change)) changes
    further = subst (λ n. Every (λ (c : Change). c.slot < n) changes) (sym even) within.1

    step : changed (cells ++ None ∷ []) change ≡ changed cells change ++ None ∷ []
    step = set_more cells change.slot change.domain within.0

    by : (b : Bool) → change.is_box ≡ b → more_stores (later (changed cells change ++ None ∷ []) changes) ≡ stores (later (changed cells change) changes)
        → more_stores (later (cells ++ None ∷ []) (change ∷ changes)) ≡ stores (later cells (change ∷ changes))
    by true is rest = rw (is, step) (ap₂ (λ d ds. d ∷ ds) (more_is scope p keys key (changed cells change) same) rest)
    by false is rest = rw (is, step) rest

  pub from_more : (closed : Bool) (cells : Cells) (changes : List Change) → length cells ≡ place_count p + length keys → Every (λ change. change.slot < length cells) changes
      → more_stores (cells_from closed (cells ++ None ∷ []) changes) ≡ stores (cells_from closed cells changes)
  from_more true cells changes count within = refl
  from_more false cells changes count within = ap₂ (λ d ds. d ∷ ds) (more_is scope p keys key cells count) (later_more cells changes count within)

-- one more key leaves the boxes as they are
pub same_boxes : (s now : State) (key : Key) → Sound s → now ≡ with_key s key → AreSame s now
same_boxes s now key sound e = rw e (record {
  scope = refl;
  problem = refl;
  stores = from_more s.scope s.problem s.keys key s.is_closed s.cells (reverse s.changes) sound.count
      (every_back (λ (change : Change). change.slot < length s.cells) s.changes (every_of (λ (change : Change). change.slot < length s.cells) s.changes sound.slots));
})

last_within : (cells : Cells) (x : Option Domain) → length cells < length (cells ++ x ∷ [])
last_within cells x = omega (arith, length-append cells (x ∷ []))

-- an occurrence that had no slot has the new one
pub new_slot : Tells → (s now : State) (at : Place) (n : ℕ) (bound : List Value) (key : Key) (slot : ℕ) → Sound s → place_number s.problem at ≡ Some n → key.number ≡ n → key.bound ≡ bound
    → slot_of s.problem s.keys at bound ≡ None → slot ≡ length s.cells → now ≡ with_key s key → HasSlot now at bound slot
new_slot tells s now at n bound key slot sound is number values none last e =
    let count : length s.cells ≡ place_count s.problem + length s.keys = sound.count in
    rw e (record {
      is = slot_made tells s.problem s.keys key at n bound is number values none ∙ ap Some (sym (last ∙ count));
      within = subst (λ n. n < length (s.cells ++ None ∷ [])) (sym last) (last_within s.cells None);
    })

-- ---- narrowing and splitting the first box

module _ (tells : Tells) (scope : Scope) (p : Problem) (keys : List Key) (at : Place) (bound : List Value) (k : ℕ) (is : slot_of p keys at bound ≡ Some k) where
  narrow_by : (closed : Bool) (cells : Cells) (d : Domain) (changes : List Change) → k < length cells
      → map (store_by scope p keys) (first_set k (Some d) (cells_from closed cells changes)) ≡ narrow_first at bound d (map (store_by scope p keys) (cells_from closed cells changes))
  narrow_by true cells d changes less = refl
  narrow_by false cells d changes less = ap (λ a. a ∷ map (store_by scope p keys) (later cells changes)) (set_is tells scope p keys cells at bound k d is less)

  split_by : (closed : Bool) (cells : Cells) (d e : Domain) (changes : List Change) → k < length cells
      → map (store_by scope p keys) (two_set k (Some d) (Some e) (cells_from closed cells changes)) ≡ split_first at bound d e (map (store_by scope p keys) (cells_from closed cells changes))
  split_by true cells d e changes less = refl
  split_by false cells d e changes less =
      ap₂ (λ a b. a ∷ b ∷ map (store_by scope p keys) (later cells changes)) (set_is tells scope p keys cells at bound k d is less) (set_is tells scope p keys cells at bound k e is less)

pub narrow_is : Tells → (s now : State) (at : Place) (bound : List Value) (k : ℕ) (d : Domain) → HasSlot s at bound k → now ≡ with_cell s k d
    → stores_of now ≡ narrow_first at bound d (stores_of s)
narrow_is tells s now at bound k d has e = rw e (
    ap (λ all. map (store_by s.scope s.problem s.keys) all) (narrowed s.is_closed s.cells k (Some d) s.changes)
    ∙ narrow_by tells s.scope s.problem s.keys at bound k has.is s.is_closed s.cells d (reverse s.changes) has.within)

pub split_is : Tells → (s now : State) (at : Place) (bound : List Value) (k : ℕ) (d e : Domain) → HasSlot s at bound k → now ≡ with_change (with_cell s k d) (box_at k e)
    → stores_of now ≡ split_first at bound d e (stores_of s)
split_is tells s now at bound k d e has f = rw f (
    ap (λ all. map (store_by s.scope s.problem s.keys) all) (split s.is_closed s.cells k (Some d) e s.changes)
    ∙ split_by tells s.scope s.problem s.keys at bound k has.is s.is_closed s.cells d e (reverse s.changes) has.within)

only_by : (closed : Bool) (cells : Cells) (k : ℕ) (x : Option Domain) → cells_from closed (set cells k x) [] ≡ first_set k x (cells_from closed cells [])
only_by true cells k x = refl
only_by false cells k x = refl

-- one box needs nothing that takes a narrowing back
pub put_is : Tells → (s now : State) (at : Place) (bound : List Value) (k : ℕ) (d : Domain) → HasSlot s at bound k → s.changes ≡ [] → now ≡ with_put s k d
    → stores_of now ≡ narrow_first at bound d (stores_of s)
put_is tells s now at bound k d has none e = rw (e, none) (
    ap (λ all. map (store_by s.scope s.problem s.keys) all) (only_by s.is_closed s.cells k (Some d))
    ∙ narrow_by tells s.scope s.problem s.keys at bound k has.is s.is_closed s.cells d [] has.within)

-- ---- the first store, and the next box

empty_by : (first : Domain) (cells : Cells) (k : ℕ) → Each (λ k cell. cell ≡ None) cells → own_or first (slice_get cells k) ≡ first
empty_by first cells k each = at (slice_get cells k) refl where
  at : (o : Option (Option Domain)) → slice_get cells k ≡ o → own_or first o ≡ first
  at None e = refl
  at (Some cell) e = let none : cell ≡ None = each.at k cell e in rw none refl

empty_at : (first : Domain) (cells : Cells) (slot : Option ℕ) → AreEmpty cells → own_or first (cell_at cells slot) ≡ first
empty_at first cells None each = refl
empty_at first cells (Some k) each = empty_by first cells k each

-- where no cell has a domain, the store is the first one
pub first_is : (scope : Scope) (p : Problem) (keys : List Key) (cells : Cells) → AreEmpty cells → store_by scope p keys cells ≡ first_domains scope p
first_is scope p keys cells each = fun_ext (λ place. fun_ext (λ bound. empty_at (first_domains scope p place bound) cells (slot_of p keys place bound) each))

rest_stores : (scope : Scope) (p : Problem) (keys : List Key) (all : List Cells) → after_first (map (store_by scope p keys) all) ≡ map (store_by scope p keys) (rest_of all)
rest_stores scope p keys [] = refl
rest_stores scope p keys (cells ∷ all) = refl

-- the boxes behind the first, as long as changes lead to no box
pub passed_is : (scope : Scope) (p : Problem) (keys : List Key) (closed : Bool) (cells : Cells) (changes front : List Change) (change : Change) → changes ≡ front ++ change ∷ [] → change.is_box ≡ false
    → after_first (map (store_by scope p keys) (cells_from closed cells (reverse changes))) ≡ after_first (map (store_by scope p keys) (cells_from closed (changed cells change) (reverse front)))
passed_is scope p keys closed cells changes front change e is =
    rest_stores scope p keys (cells_from closed cells (reverse changes))
    ∙ ap (λ all. map (store_by scope p keys) all) (ap (λ cs. rest_of (cells_from closed cells (reverse cs))) e ∙ next_of closed false cells change front is)
    ∙ sym (rest_stores scope p keys (cells_from closed (changed cells change) (reverse front)))

-- and where one does
pub reached_is : (scope : Scope) (p : Problem) (keys : List Key) (closed : Bool) (cells : Cells) (changes front : List Change) (change : Change) → changes ≡ front ++ change ∷ [] → change.is_box ≡ true
    → after_first (map (store_by scope p keys) (cells_from closed cells (reverse changes))) ≡ map (store_by scope p keys) (cells_from closed (changed cells change) (reverse front))
reached_is scope p keys closed cells changes front change e is =
    rest_stores scope p keys (cells_from closed cells (reverse changes))
    ∙ ap (λ all. map (store_by scope p keys) all) (ap (λ cs. rest_of (cells_from closed cells (reverse cs))) e ∙ next_of closed true cells change front is)

-- ---- what is kept stays sound

last_there : {A : Type 0} (xs : List A) (x : A) → slice_get (xs ++ x ∷ []) (length xs) ≡ Some x
last_there [] x = refl
last_there (y ∷ xs) x = last_there xs x

front_there : {A : Type 0} (xs : List A) (x y : A) (k : ℕ) → slice_get xs k ≡ Some y → slice_get (xs ++ x ∷ []) k ≡ Some y
front_there [] x y k e = absurd (cc)
front_there (z ∷ xs) x y zero e = e
front_there (z ∷ xs) x y (suc k) e = front_there xs x y k e

-- the last of the changes has its cell
pub last_slot : (p : Problem) (keys : List Key) (cells : Cells) (changes front : List Change) (change : Change) → IsSound p keys cells changes → changes ≡ front ++ change ∷ []
    → change.slot < length cells
last_slot p keys cells changes front change sound e = sound.slots.at (length front) change (ap (λ cs. slice_get cs (length front)) e ∙ last_there front change)

-- without the last of the changes, and with that made
pub front_sound : (p : Problem) (keys : List Key) (cells : Cells) (changes front : List Change) (change : Change) → IsSound p keys cells changes → changes ≡ front ++ change ∷ []
    → IsSound p keys (changed cells change) front
front_sound p keys cells changes front change sound e =
    let even : length (changed cells change) ≡ length cells = length-set cells change.slot change.domain in
    record {
      count = even ∙ sound.count;
      slots = record { at = λ k c is. subst (λ n. c.slot < n) (sym even) (sound.slots.at k c (ap (λ cs. slice_get cs k) e ∙ front_there front change c k is)) };
    }

seen_by : (scope : Scope) (p : Problem) (keys : List Key) (closed : Bool) (cells : Cells) (changes : List Change) (at : Domains) (rest : List Domains)
    → map (store_by scope p keys) (cells_from closed cells changes) ≡ at ∷ rest → store_by scope p keys cells ≡ at
seen_by scope p keys true cells changes at rest e = absurd (cc)
seen_by scope p keys false cells changes at rest e = cc

pub seen_first : (s : State) (at : Domains) (rest : List Domains) → stores_of s ≡ at ∷ rest → domains_of s ≡ at
seen_first s at rest e = seen_by s.scope s.problem s.keys s.is_closed s.cells (reverse s.changes) at rest e
