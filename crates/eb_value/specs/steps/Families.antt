-- What the code tests of a family of sets. It is a means of proof.
use Rattle.std.specs.Prelude.{Bool, List, map}
use Rattle.std.specs.List.{list_all}
use Rattle.eb_value.specs.declared.value.Value.{Value}
use Rattle.eb_value.specs.Comprehensions.{has, members}

-- each of the sets has the value
unfoldable pub in_all : List Value → Value → Bool
in_all sets v = list_all (λ t. has t v) (map members sets)
