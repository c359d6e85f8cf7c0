-- The stores of cells, where one cell gets another domain, and where there is one more.
use Rattle.std.proofs.Common.{◌≡◌, ◌≢◌, ◌∙◌, refl, sym, ap, subst, ℕ, zero, suc, ◌+◌, ◌<◌, List, [], ◌∷◌, ◌++◌, length, set, slice_get, Option, Some, None, arith, Bool, true, false, ◌&&◌, if◌then◌else◌}
use Rattle.std.specs.Cmp.{first_so, second_so}
use Rattle.std.proofs.Math.Path.{fun_ext}
use Rattle.eb_value.specs.declared.scope.Scope.{Scope}
use Rattle.eb_value.specs.declared.value.Value.{Value}
use Rattle.eb_term.specs.declared.problem.Problem.{Problem}
use Rattle.occ_domains.specs.declared.domain.Domain.{Domain}
use Rattle.occurrences.specs.declared.place.Place.{Place}
use Rattle.occurrences.specs.Stores.{first_domains, with_domain, same_place, same_values}
use Rattle.domain_store.specs.declared.slots.Key.{Key}
use Rattle.domain_store.specs.Places.{place_count}
use Rattle.domain_store.specs.Slots.{slot_of}
use Rattle.domain_store.specs.Boxes.{own_or, cell_at, store_by}
use Rattle.domain_store.proofs.SlotLaws.{Tells, place_is, place_itself, values_are, values_itself}
use Rattle.domain_store.proofs.KeyLaws.{Slots, kept, made, slots_tell, slots_more}
use Rattle.domain_store.proofs.CellLaws.{Cells}

set_there : (cells : Cells) (k : ℕ) (x : Option Domain) → k < length cells → slice_get (set cells k x) k ≡ Some x
set_there [] k x l = absurd (omega arith)
set_there (c ∷ cells) zero x l = refl
set_there (c ∷ cells) (suc k) x l = set_there cells k x (omega arith)

set_other : (cells : Cells) (k j : ℕ) (x : Option Domain) → j ≢ k → slice_get (set cells k x) j ≡ slice_get cells j
set_other [] k j x h = refl
set_other (c ∷ cells) zero zero x h = absurd (h refl)
set_other (c ∷ cells) zero (suc j) x h = refl
set_other (c ∷ cells) (suc k) zero x h = refl
set_other (c ∷ cells) (suc k) (suc j) x h = set_other cells k j x (λ e. h (ap suc e))

and_both : (b c : Bool) → b ≡ true → c ≡ true → (b && c) ≡ true
and_both b c h k = rw (h, k) refl

set_by : (cells : Cells) (k : ℕ) (x : Option Domain) (o : Option ℕ) → (o ≡ Some k → ⊥) → cell_at (set cells k x) o ≡ cell_at cells o
set_by cells k x None h = refl
set_by cells k x (Some j) h = set_other cells k j x (λ e. h (ap Some e))

-- the cell of an occurrence set is its domain replaced
pub set_is : Tells → (scope : Scope) (p : Problem) (keys : List Key) (cells : Cells) (place : Place) (bound : List Value) (k : ℕ) (d : Domain)
    → slot_of p keys place bound ≡ Some k → k < length cells
    → store_by scope p keys (set cells k (Some d)) ≡ with_domain (store_by scope p keys cells) place bound d
set_is tells scope p keys cells place bound k d at less = fun_ext (λ other. fun_ext (λ values. by other values (same_place place other && same_values bound values) refl)) where
  by : (other : Place) (values : List Value) (b : Bool) → (same_place place other && same_values bound values) ≡ b
      → store_by scope p keys (set cells k (Some d)) other values ≡ (if b then d else store_by scope p keys cells other values)
  by other values true e =
      let places : place ≡ other = place_is place other (first_so (same_place place other) (same_values bound values) e) in
      let bounds : bound ≡ values = values_are tells bound values (second_so (same_place place other) (same_values bound values) e) in
      let slot : slot_of p keys other values ≡ Some k = subst (λ vs. slot_of p keys other vs ≡ Some k) bounds (subst (λ o. slot_of p keys o bound ≡ Some k) places at) in
      ap (λ o. own_or (first_domains scope p other values) (cell_at (set cells k (Some d)) o)) slot ∙ ap (own_or (first_domains scope p other values)) (set_there cells k (Some d) less)
  by other values false e =
      let else_where : slot_of p keys other values ≡ Some k → ⊥ = λ f.
      (let both = slots_tell tells p keys place other bound values k at f in
      let first : same_place place other ≡ true = subst (λ o. same_place place o ≡ true) both.0 (place_itself place) in
      let second : same_values bound values ≡ true = subst (λ vs. same_values bound vs ≡ true) both.1 (values_itself tells bound) in
      let clash : false ≡ true = sym e ∙ and_both (same_place place other) (same_values bound values) first second in
      absurd (cc)) in
      ap (own_or (first_domains scope p other values)) (set_by cells k (Some d) (slot_of p keys other values) else_where)

-- ---- one more cell

get_more : (cells : Cells) (j : ℕ) → j < length cells → slice_get (cells ++ None ∷ []) j ≡ slice_get cells j
get_more [] j l = absurd (omega arith)
get_more (c ∷ cells) zero l = refl
get_more (c ∷ cells) (suc j) l = get_more cells j (omega arith)

own_more : (first : Domain) (cells : Cells) (j : ℕ) → own_or first (slice_get (cells ++ None ∷ []) j) ≡ own_or first (slice_get cells j)
own_more first [] zero = refl
own_more first [] (suc j) = refl
own_more first (c ∷ cells) zero = refl
own_more first (c ∷ cells) (suc j) = own_more first cells j

own_past : (first : Domain) (cells : Cells) (j : ℕ) → j ≡ length cells → own_or first (slice_get (cells ++ None ∷ []) j) ≡ first
own_past first [] j e = rw e refl
own_past first (c ∷ cells) zero e = absurd (omega arith)
own_past first (c ∷ cells) (suc j) e = own_past first cells j (omega arith)

own_kept : (first : Domain) (cells : Cells) (o : Option ℕ) → own_or first (cell_at (cells ++ None ∷ []) o) ≡ own_or first (cell_at cells o)
own_kept first cells None = refl
own_kept first cells (Some j) = own_more first cells j

own_by : (first : Domain) (cells : Cells) (count : ℕ) (o q : Option ℕ) → Slots count o q → count ≡ length cells → own_or first (cell_at (cells ++ None ∷ []) q) ≡ own_or first (cell_at cells o)
own_by first cells count o _ kept e = own_kept first cells o
own_by first cells count _ _ made e = own_past first cells count e

-- one more key and an empty cell leave the store as it is
pub more_is : (scope : Scope) (p : Problem) (keys : List Key) (key : Key) (cells : Cells) → length cells ≡ place_count p + length keys
    → store_by scope p (keys ++ key ∷ []) (cells ++ None ∷ []) ≡ store_by scope p keys cells
more_is scope p keys key cells count = fun_ext (λ place. fun_ext (λ bound.
    own_by (first_domains scope p place bound) cells (place_count p + length keys) (slot_of p keys place bound) (slot_of p (keys ++ key ∷ []) place bound)
    (slots_more p keys key place bound) (sym count)))
