-- What the proofs take of the clauses of `eb_value` and `eb_meaning`, as hypotheses.
use Rattle.std.proofs.Common.{◌≡◌, ◌↔◌, true, List, ℤ, pos, negsuc, ◌≤ℤ◌}
use Rattle.std.specs.List.{Contains}
use Rattle.std.specs.declared.cmp.Ordering.TheVariants.{Equal}
use Rattle.type_table.specs.Rows.{expression}
use Rattle.eb_value.specs.declared.scope.Scope.{Scope}
use Rattle.eb_value.specs.declared.types.EbType.{EbType}
use Rattle.eb_value.specs.declared.value.Value.{Value}
use Rattle.eb_value.specs.Canonical.{IsCanonical, AreCanonical}
use Rattle.eb_value.specs.Comprehensions as set
use Rattle.eb_value.specs.Scopes.{vals}
use Rattle.eb_value.specs.Types.{integer, product}
use Rattle.eb_value.specs.Typing.{has_type, have_type, is_bounded}
use Rattle.eb_value.specs.Values as value
use Rattle.eb_term.specs.declared.term.Term.{Term}
use Rattle.eb_term.specs.Typed.{HasSort}
use Rattle.eb_meaning.specs.Meaning.{Slot, value_of}
use Rattle.eb_meaning.specs.Fitting.{slot_has_type, fits, AreOfTypes}

pub record Laws : Type 0 where
  -- the order of values
  pub reflexive : (v : Value) → value.compare v v ≡ Equal
  pub exact : (v w : Value) → value.compare v w ≡ Equal → v ≡ w
  pub determine : (xs ys : List Value) → value.is_ascending xs ≡ true → value.is_ascending ys ≡ true → ((v : Value) → Contains xs v ↔ Contains ys v) → xs ≡ ys
  -- the values of a type
  pub canonical : (scope : Scope) (v : Value) (ty : EbType) → has_type scope v ty ≡ true → IsCanonical v
  pub sets : (xs : List Value) → IsCanonical (value.set xs) → (value.is_ascending xs ≡ true) × AreCanonical xs
  pub set_of : (xs : List Value) → AreCanonical xs → IsCanonical (value.set (set.set_of xs))
  pub union : (a b : List Value) → AreCanonical a → AreCanonical b → IsCanonical (value.set (set.union a b))
  pub domain : (r : List Value) → AreCanonical r → IsCanonical (value.set (set.domain r))
  pub range : (r : List Value) → AreCanonical r → IsCanonical (value.set (set.range r))
  pub domain_type : (scope : Scope) (t u : EbType) (r : List Value) → have_type scope r (product t u) ≡ true → have_type scope (set.domain r) t ≡ true
  pub range_type : (scope : Scope) (t u : EbType) (r : List Value) → have_type scope r (product t u) ≡ true → have_type scope (set.range r) u ≡ true
  pub listed : (scope : Scope) (ty : EbType) → AreCanonical (vals scope ty)
  pub complete : (scope : Scope) → negsuc 4611686018427387903 ≤ℤ scope.lo → scope.hi ≤ℤ pos 4611686018427387904 → (ty : EbType) (v : Value) → Contains (vals scope ty) v ↔ ((has_type scope v ty ≡ true) × (is_bounded scope v ≡ true))
  pub bounds : (scope : Scope) (v : Value) → Contains (vals scope integer) v ↔ ((n : ℤ) × (v ≡ value.int n) × (scope.lo ≤ℤ n) × (n ≤ℤ scope.hi))
  -- typed terms
  pub typed : (scope : Scope) → negsuc 4611686018427387903 ≤ℤ scope.lo → scope.hi ≤ℤ pos 4611686018427387904
      → (types : List EbType) (t : Term) (ty : EbType) (refs : List Slot) (bound : List Value) → HasSort types t (expression ty) → fits scope refs t ≡ true → AreOfTypes scope bound types
      → slot_has_type scope (value_of scope (record { refs = refs; bound = bound }) t) ty ≡ true
