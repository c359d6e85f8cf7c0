-- Sets of values, as their ascending lists of members.
use Rattle.std.specs.Prelude.{◌≡◌, ◌⊎◌, ◌↔◌, true, List}
use Rattle.std.specs.List.{Contains}
use Rattle.eb_value.specs.declared.value.Value.{Value}
use Rattle.eb_value.specs.Values.{is_ascending}

-- the list is ascending, and has exactly the values of which the fact holds
pub record IsSetOf (P : Value → Type 0) (xs : List Value) : Type 0 where
  pub ascending : is_ascending xs ≡ true
  pub members : (v : Value) → Contains xs v ↔ P v

-- v ∈ a ∪ b
abbrev pub InUnion : List Value → List Value → Value → Type 0
InUnion a b v = Contains a v ⊎ Contains b v

-- v ∈ a ∩ b
abbrev pub InMeet : List Value → List Value → Value → Type 0
InMeet a b v = Contains a v × Contains b v

-- v ∈ a ∖ b
abbrev pub InMinus : List Value → List Value → Value → Type 0
InMinus a b v = Contains a v × ¬ Contains b v
