-- What a canonical list of slots has at a place.
use Rattle.std.proofs.Common.{◌≡◌, refl, sym, subst, ap, arith, get_or, ◌<◌, ℕ, zero, suc, ◌≤◌, length, List, [], ◌∷◌, ◌++◌, map, Option, Some, None, slice_get, IfSome, Bor, rules}
use Rattle.std.specs.Option.{option_copied}
use Rattle.std.proofs.lemmas.Option.{slice_get_past}
use Rattle.eb_value.specs.declared.value.Value.{Value}
use Rattle.eb_value.specs.Canonical.{IsCanonical, AreCanonical, more}
use Rattle.eb_meaning.specs.Meaning.{Slot, slot_at}
use Rattle.eb_meaning.specs.Slots.{AreCanonicalSlots, none, undefined, value}

pub slot_is_canonical : (slots : List Slot) (k : ℕ) (v : Value) → AreCanonicalSlots slots → slot_at slots k ≡ Some v → IsCanonical v
slot_is_canonical [] k v a e = search rules
slot_is_canonical (None ∷ slots) zero v a e = search rules
slot_is_canonical (None ∷ slots) (suc k) v (undefined a) e = slot_is_canonical slots k v a e
slot_is_canonical (Some w ∷ slots) zero v (value c a) e = let p : w ≡ v = search rules in subst IsCanonical p c
slot_is_canonical (Some w ∷ slots) (suc k) v (value c a) e = slot_is_canonical slots k v a e

pub lent_is_canonical : (o : Option (Bor Value)) (slots : List Slot) (k : ℕ) → AreCanonicalSlots slots → option_copied o ≡ slot_at slots k → IfSome o (λ v. IsCanonical v.now)
lent_is_canonical None slots k a e = tt
lent_is_canonical (Some b) slots k a e = slot_is_canonical slots k b.now a (sym e)

pub past_is_undefined : (slots : List Slot) (k : ℕ) → length slots ≤ k → None ≡ slot_at slots k
past_is_undefined slots k h = rw (slice_get_past slots k h) refl

pub member_is_canonical : (xs : List Value) (k : ℕ) (v : Value) → AreCanonical xs → slice_get xs k ≡ Some v → IsCanonical v
member_is_canonical [] k v a e = search rules
member_is_canonical (x ∷ xs) zero v (more c a) e = let p : x ≡ v = search rules in subst IsCanonical p c
member_is_canonical (x ∷ xs) (suc k) v (more c a) e = member_is_canonical xs k v a e

-- an item that was looked up stands at its place
pub looked_up : (xs : List Value) (k : ℕ) (v : Value) → (k < length xs) × ((d : Value) → v ≡ get_or xs k d) → slice_get xs k ≡ Some v
looked_up [] k v h = search rules
looked_up (x ∷ xs) zero v h = ap Some (sym (h.1 v))
looked_up (x ∷ xs) (suc k) v h = looked_up xs k v (omega arith, h.1)

pub looked_up_is_canonical : (xs : List Value) (k : ℕ) (v : Value) → AreCanonical xs → (k < length xs) × ((d : Value) → v ≡ get_or xs k d) → IsCanonical v
looked_up_is_canonical xs k v a h = member_is_canonical xs k v a (looked_up xs k v h)

pub item_is_canonical : (xs : List Value) (k : ℕ) (v : Value) → AreCanonical xs → k < length xs → v ≡ get_or xs k v → IsCanonical v
item_is_canonical [] k v a h e = let f : ⊥ = omega arith in elim f [ ]
item_is_canonical (x ∷ xs) zero v (more c a) h e = rw e c
item_is_canonical (x ∷ xs) (suc k) v (more c a) h e = item_is_canonical xs k v a (omega arith) e

pub joined : (xs ys : List Value) → AreCanonical xs → AreCanonical ys → AreCanonical (xs ++ ys)
joined [] ys a b = b
joined (x ∷ xs) ys (more c a) b = more c (joined xs ys a b)

pub given_are_canonical : (xs : List Value) → AreCanonical xs → AreCanonicalSlots (map (λ v. Some v) xs)
given_are_canonical [] a = none
given_are_canonical (x ∷ xs) (more c a) = value c (given_are_canonical xs a)

one_slot : (o : Slot) → IfSome o IsCanonical → AreCanonicalSlots (o ∷ [])
one_slot None a = undefined none
one_slot (Some v) a = value a none

pub one_more_slot : (slots : List Slot) (o : Slot) → AreCanonicalSlots slots → IfSome o IsCanonical → AreCanonicalSlots (slots ++ (o ∷ []))
one_more_slot [] o a b = one_slot o b
one_more_slot (None ∷ slots) o (undefined a) b = undefined (one_more_slot slots o a b)
one_more_slot (Some v ∷ slots) o (value c a) b = value c (one_more_slot slots o a b)
