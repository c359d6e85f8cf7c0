-- What stands in a canonical list is canonical.
use Rattle.std.proofs.Common.{◌≡◌, subst, arith, get_or, ◌<◌, ℕ, zero, suc, length, List, [], ◌∷◌, Some, slice_get, rules}
use Rattle.eb_value.specs.declared.value.Value.{Value}
use Rattle.eb_value.specs.Canonical.{IsCanonical, AreCanonical, more}

pub member_is_canonical : (xs : List Value) (k : ℕ) (v : Value) → AreCanonical xs → slice_get xs k ≡ Some v → IsCanonical v
member_is_canonical [] k v a e = search rules
member_is_canonical (x ∷ xs) zero v (more c a) e = let p : x ≡ v = search rules in subst IsCanonical p c
member_is_canonical (x ∷ xs) (suc k) v (more c a) e = member_is_canonical xs k v a e

pub item_is_canonical : (xs : List Value) (k : ℕ) (v : Value) → AreCanonical xs → k < length xs → v ≡ get_or xs k v → IsCanonical v
item_is_canonical [] k v a h e = let f : ⊥ = omega arith in elim f [ ]
item_is_canonical (x ∷ xs) zero v (more c a) h e = rw e c
item_is_canonical (x ∷ xs) (suc k) v (more c a) h e = item_is_canonical xs k v a (omega arith) e
