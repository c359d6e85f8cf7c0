-- What the proofs take of the clauses of `eb_value`, as hypotheses.
use Rattle.std.proofs.Common.{◌≡◌, ◌↔◌, ℕ, true, List, map, Some, ℤ, pos, negsuc, ◌+ℤ◌, ◌≤ℤ◌}
use Rattle.std.specs.List.{Contains}
use Rattle.std.specs.Int.{int_gap}
use Rattle.eb_value.specs.declared.scope.Scope.{Scope}
use Rattle.eb_value.specs.declared.types.EbType.{EbType}
use Rattle.eb_value.specs.declared.value.Value.{Value}
use Rattle.eb_value.specs.Canonical.{IsCanonical, AreCanonical}
use Rattle.eb_value.specs.Comprehensions as set
use Rattle.eb_value.specs.Scopes.{vals, ints_from}
use Rattle.eb_value.specs.Types.{integer, product}
use Rattle.eb_value.specs.Typing.{has_type, have_type, is_bounded}
use Rattle.eb_value.specs.Values as value

-- which types the operators give
pub record TypeLaws : Type 0 where
  pub set_of : (scope : Scope) (t : EbType) (xs : List Value) → have_type scope xs t ≡ true → have_type scope (set.set_of xs) t ≡ true
  pub union : (scope : Scope) (t : EbType) (a b : List Value) → have_type scope a t ≡ true → have_type scope b t ≡ true → have_type scope (set.union a b) t ≡ true
  pub meet : (scope : Scope) (t : EbType) (a b : List Value) → have_type scope a t ≡ true → have_type scope b t ≡ true → have_type scope (set.meet a b) t ≡ true
  pub minus : (scope : Scope) (t : EbType) (a b : List Value) → have_type scope a t ≡ true → have_type scope b t ≡ true → have_type scope (set.minus a b) t ≡ true
  pub cross : (scope : Scope) (t u : EbType) (a b : List Value) → have_type scope a t ≡ true → have_type scope b u ≡ true → have_type scope (set.cross a b) (product t u) ≡ true
  pub domain : (scope : Scope) (t u : EbType) (r : List Value) → have_type scope r (product t u) ≡ true → have_type scope (set.domain r) t ≡ true
  pub range : (scope : Scope) (t u : EbType) (r : List Value) → have_type scope r (product t u) ≡ true → have_type scope (set.range r) u ≡ true
  pub inverse : (scope : Scope) (t u : EbType) (r : List Value) → have_type scope r (product t u) ≡ true → have_type scope (set.inverse r) (product u t) ≡ true
  pub dom_keep : (scope : Scope) (t u : EbType) (s r : List Value) → have_type scope s t ≡ true → have_type scope r (product t u) ≡ true → have_type scope (set.dom_keep s r) (product t u) ≡ true
  pub dom_drop : (scope : Scope) (t u : EbType) (s r : List Value) → have_type scope s t ≡ true → have_type scope r (product t u) ≡ true → have_type scope (set.dom_drop s r) (product t u) ≡ true
  pub ran_keep : (scope : Scope) (t u : EbType) (r s : List Value) → have_type scope r (product t u) ≡ true → have_type scope s u ≡ true → have_type scope (set.ran_keep r s) (product t u) ≡ true
  pub ran_drop : (scope : Scope) (t u : EbType) (r s : List Value) → have_type scope r (product t u) ≡ true → have_type scope s u ≡ true → have_type scope (set.ran_drop r s) (product t u) ≡ true
  pub image : (scope : Scope) (t u : EbType) (r s : List Value) → have_type scope r (product t u) ≡ true → have_type scope s t ≡ true → have_type scope (set.image r s) u ≡ true
  pub overlay : (scope : Scope) (t u : EbType) (f g : List Value) → have_type scope f (product t u) ≡ true → have_type scope g (product t u) ≡ true → have_type scope (set.overlay f g) (product t u) ≡ true
  pub compose : (scope : Scope) (t u w : EbType) (r s : List Value) → have_type scope r (product t u) ≡ true → have_type scope s (product u w) ≡ true → have_type scope (set.compose r s) (product t w) ≡ true
  pub direct : (scope : Scope) (t u w : EbType) (r s : List Value) → have_type scope r (product t u) ≡ true → have_type scope s (product t w) ≡ true → have_type scope (set.direct r s) (product t (product u w)) ≡ true
  pub parallel : (scope : Scope) (t u v w : EbType) (r s : List Value) → have_type scope r (product t u) ≡ true → have_type scope s (product v w) ≡ true → have_type scope (set.parallel r s) (product (product t v) (product u w)) ≡ true
  pub apply : (scope : Scope) (t u : EbType) (f : List Value) (x y : Value) → have_type scope f (product t u) ≡ true → has_type scope x t ≡ true → set.apply f x ≡ Some y → has_type scope y u ≡ true
  pub union_of : (scope : Scope) (t : EbType) (sets : List (List Value)) → ((s : List Value) → Contains sets s → have_type scope s t ≡ true) → have_type scope (set.union_of sets) t ≡ true
  pub meet_of : (scope : Scope) (t : EbType) (sets : List (List Value)) (xs : List Value) → ((s : List Value) → Contains sets s → have_type scope s t ≡ true) → set.meet_of sets ≡ Some xs → have_type scope xs t ≡ true
  pub integers : (scope : Scope) (lo hi : ℤ) → negsuc 4611686018427387903 ≤ℤ lo → hi ≤ℤ pos 4611686018427387904 → have_type scope (ints_from lo (int_gap lo (hi +ℤ pos 1))) integer ≡ true

-- which operators make canonical values of canonical values
pub record CanonicalLaws : Type 0 where
  pub set_of : (xs : List Value) → AreCanonical xs → IsCanonical (value.set (set.set_of xs))
  pub union : (a b : List Value) → AreCanonical a → AreCanonical b → IsCanonical (value.set (set.union a b))
  pub meet : (a b : List Value) → AreCanonical a → AreCanonical b → IsCanonical (value.set (set.meet a b))
  pub minus : (a b : List Value) → AreCanonical a → AreCanonical b → IsCanonical (value.set (set.minus a b))
  pub cross : (a b : List Value) → AreCanonical a → AreCanonical b → IsCanonical (value.set (set.cross a b))
  pub domain : (r : List Value) → AreCanonical r → IsCanonical (value.set (set.domain r))
  pub range : (r : List Value) → AreCanonical r → IsCanonical (value.set (set.range r))
  pub inverse : (r : List Value) → AreCanonical r → IsCanonical (value.set (set.inverse r))
  pub dom_keep : (s r : List Value) → AreCanonical s → AreCanonical r → IsCanonical (value.set (set.dom_keep s r))
  pub dom_drop : (s r : List Value) → AreCanonical s → AreCanonical r → IsCanonical (value.set (set.dom_drop s r))
  pub ran_keep : (r s : List Value) → AreCanonical r → AreCanonical s → IsCanonical (value.set (set.ran_keep r s))
  pub ran_drop : (r s : List Value) → AreCanonical r → AreCanonical s → IsCanonical (value.set (set.ran_drop r s))
  pub image : (r s : List Value) → AreCanonical r → AreCanonical s → IsCanonical (value.set (set.image r s))
  pub overlay : (f g : List Value) → AreCanonical f → AreCanonical g → IsCanonical (value.set (set.overlay f g))
  pub compose : (r s : List Value) → AreCanonical r → AreCanonical s → IsCanonical (value.set (set.compose r s))
  pub direct : (r s : List Value) → AreCanonical r → AreCanonical s → IsCanonical (value.set (set.direct r s))
  pub parallel : (r s : List Value) → AreCanonical r → AreCanonical s → IsCanonical (value.set (set.parallel r s))
  pub union_all : (vs : List Value) → AreCanonical vs → IsCanonical (value.set (set.union_of (map set.members vs)))
  pub meet_all : (vs xs : List Value) → AreCanonical vs → set.meet_of (map set.members vs) ≡ Some xs → IsCanonical (value.set xs)
  pub integers : (lo : ℤ) (n : ℕ) → IsCanonical (value.set (ints_from lo n))

-- what canonical values are made of
pub record PartLaws : Type 0 where
  pub sets : (xs : List Value) → IsCanonical (value.set xs) → (value.is_ascending xs ≡ true) × AreCanonical xs
  pub all : (xs : List Value) → ((v : Value) → Contains xs v → IsCanonical v) → AreCanonical xs
  pub typed : (scope : Scope) (v : Value) (ty : EbType) → has_type scope v ty ≡ true → IsCanonical v

-- all of them
pub record Laws : Type 0 where
  pub types : TypeLaws
  pub canonical : CanonicalLaws
  pub parts : PartLaws
  pub complete : (scope : Scope) → negsuc 4611686018427387903 ≤ℤ scope.lo → scope.hi ≤ℤ pos 4611686018427387904 → (ty : EbType) (v : Value) → Contains (vals scope ty) v ↔ ((has_type scope v ty ≡ true) × (is_bounded scope v ≡ true))
