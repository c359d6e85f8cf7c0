-- Values whose sets are ascending at every depth, so that equal values are equal as they stand.
use Rattle.std.specs.Prelude.{◌≡◌, ℕ, ℤ, Bool, true, List, [], ◌∷◌}
use Rattle.eb_value.specs.declared.value.Value.{Value}
use Rattle.eb_value.specs.Values as value

mutual
  -- each set in the value is ascending
  pub data IsCanonical : Value → Type 0 where
    integer : (n : ℤ) → IsCanonical (value.int n)
    truth : (b : Bool) → IsCanonical (value.truth b)
    atom : (place number : ℕ) → IsCanonical (value.atom place number)
    pair : {a b : Value} → IsCanonical a → IsCanonical b → IsCanonical (value.pair a b)
    family : {xs : List Value} → value.is_ascending xs ≡ true → AreCanonical xs → IsCanonical (value.set xs)

  -- each value of a list is canonical
  pub data AreCanonical : List Value → Type 0 where
    none : AreCanonical []
    more : {v : Value} {vs : List Value} → IsCanonical v → AreCanonical vs → AreCanonical (v ∷ vs)
