-- The rows of `=` and, on expressions of any body, of `<=`.
use Rattle.std.specs.Prelude.{Bool, true, false, not, ◌||◌, if◌then◌else◌, Option, Some, None}
use Rattle.eb_value.specs.declared.value.Value.{Value}
use Rattle.eb_value.specs.Comprehensions.{same}
use Rattle.eb_term.specs.declared.operators.Side.{Side}
use Rattle.occ_domains.specs.declared.body.Body.{Body, Body-F, out-Body}
use Rattle.occ_domains.specs.declared.body.Body.TheOpen as body
use Rattle.occ_domains.specs.declared.domain.Truths.{Truths}
use Rattle.occ_domains.specs.Bodies.{is_empty, meet, single, without, integers, common}
use Rattle.rules_integers.specs.Sums as sums
use Rattle.rules_base.specs.Definedness.{is_true_alone, is_false_alone}

-- Undefined alone
abbrev pub undefined_alone : Truths
undefined_alone = record { can_be_true = false; can_be_false = false; can_be_undefined = true }

-- the truths, and Undefined where it may be
abbrev pub with_undefined : Bool → Truths → Truths
with_undefined undefined t = record { can_be_true = t.can_be_true; can_be_false = t.can_be_false; can_be_undefined = undefined }

-- ---- `E = F`

-- both are single, and the same
abbrev pub are_one : Option Value → Option Value → Bool
are_one (Some v) (Some w) = same v w
are_one _ _ = false

-- Up: true where they have a value in common, false unless both are single and the same; Undefined alone where one has no value
abbrev pub up_equal : Bool → Body → Body → Truths
up_equal undefined a b = if is_empty a || is_empty b then undefined_alone
    else record { can_be_true = not (is_empty (meet a b)); can_be_false = not (are_one (single a) (single b)); can_be_undefined = undefined }

abbrev pub but_for : Body → Option Value → Body
but_for a None = a
but_for a (Some v) = without a v

-- Down to a side: the other's values where the whole is true alone; all but the other's one value where it is false alone
abbrev pub unequal : Body → Body → Body
unequal a other = but_for a (single other)

abbrev pub down_equal : Truths → Body → Body → Body
down_equal whole a other = if is_true_alone whole then meet a other
    else if is_false_alone whole then unequal a other else a

-- ---- `E <= F`

-- Up: by the intervals; Undefined alone where one has no integer
abbrev pub order_layers : Bool → Body-F Body → Body-F Body → Truths
order_layers undefined (body.Integers c) (body.Integers d) = with_undefined undefined (sums.up_at_most c d)
order_layers undefined _ _ = undefined_alone

abbrev pub up_order : Bool → Body → Body → Truths
up_order undefined a b = order_layers undefined (out-Body a) (out-Body b)

-- Down to a side, where the whole is true alone or false alone
abbrev pub bounded_layers : Side → Bool → Body-F Body → Body-F Body → Body → Body
bounded_layers s truth (body.Integers c) (body.Integers d) a = integers (common c (sums.down_at_most s truth d))
bounded_layers s truth _ _ a = a

abbrev pub bounded : Side → Bool → Body → Body → Body
bounded s truth a other = bounded_layers s truth (out-Body a) (out-Body other) a

abbrev pub down_order : Side → Truths → Body → Body → Body
down_order s whole a other = if is_true_alone whole then bounded s true a other
    else if is_false_alone whole then bounded s false a other else a
