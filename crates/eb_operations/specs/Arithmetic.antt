-- The arithmetic of Event-B on integers, each of which is defined within -2 ^ 62 .. 2 ^ 62.
use Rattle.std.specs.Prelude.{◌&&◌, if◌then◌else◌, List, Option, Some, None, ℤ, pos, int_le, int_lt, ◌+ℤ◌, int_div, int_rem, unsigned_abs}
use Rattle.std.specs.Int.{int_gap, int_pow}
use Rattle.std.specs.Ordering.{int_eq}
use Rattle.eb_value.specs.declared.value.Value.{Value}
use Rattle.eb_value.specs.declared.value.Form.TheOpen as val
use Rattle.eb_value.specs.Values.{Layer, layer, int}
use Rattle.eb_value.specs.Scopes.{ints_from}
use Rattle.eb_value.specs.Typing.{in_range}

abbrev pub int_of_layer : Layer → Option ℤ
int_of_layer (val.Int n) = Some n
int_of_layer _ = None

-- the integer that a value is
abbrev pub int_of : Value → Option ℤ
int_of v = int_of_layer (layer v)

-- the exact value, where it is within the range
abbrev pub defined_int : ℤ → Option Value
defined_int n = if in_range n then Some (int n) else None

-- truncated towards zero; Undefined at 0
abbrev pub quotient : ℤ → ℤ → Option Value
quotient m n = if int_eq n (pos 0) then None else defined_int (int_div m n)

-- m mod n; Undefined unless 0 <= m and 0 < n
abbrev pub remainder : ℤ → ℤ → Option Value
remainder m n = if int_le (pos 0) m && int_lt (pos 0) n then Some (int (int_rem m n)) else None

-- m ^ n; Undefined unless 0 <= m and 0 <= n
abbrev pub power : ℤ → ℤ → Option Value
power m n = if int_le (pos 0) m && int_le (pos 0) n then defined_int (int_pow m (unsigned_abs n)) else None

-- the integers from m to n
abbrev pub interval : ℤ → ℤ → List Value
interval m n = ints_from m (int_gap m (n +ℤ pos 1))
