-- The operators on two integers, and their rows by operator.
use Rattle.std.specs.Prelude.{Bool, Option, ℤ}
use Rattle.eb_value.specs.declared.value.Value.{Value}
use Rattle.eb_operations.specs.Arithmetic.{quotient, remainder, power}
use Rattle.eb_term.specs.declared.operators.Side.{Side}
use Rattle.eb_term.specs.declared.operators.Side.TheVariants as side
use Rattle.int_dom.specs.declared.interval.Interval.{Interval}
use Rattle.occ_domains.specs.declared.domain.Domain.{Domain}
use Rattle.rules_integers.specs.declared.arithmetic.Arithmetic.{Arithmetic}
use Rattle.rules_integers.specs.declared.arithmetic.Arithmetic.TheVariants as by
use Rattle.rules_integers.specs.Sums.{sum, up_sum, down_sum, difference, up_difference, down_difference}
use Rattle.rules_integers.specs.Products.{product, up_product, down_product, up_quotient, down_divisor, up_remainder, down_remainder}
use Rattle.rules_integers.specs.Powers.{up_power, down_power}

-- the value of the operator, or none where it is Undefined
abbrev pub value_by : Arithmetic → ℤ → ℤ → Option Value
value_by by.Sum m n = sum m n
value_by by.Difference m n = difference m n
value_by by.Product m n = product m n
value_by by.Quotient m n = quotient m n
value_by by.Remainder m n = remainder m n
value_by by.Power m n = power m n

-- the value where a side is the one integer and the other side the other
abbrev pub value_at : Arithmetic → Side → ℤ → ℤ → Option Value
value_at o side.First m n = value_by o m n
value_at o side.Second m n = value_by o n m

-- Up
abbrev pub up_by : Arithmetic → Bool → Interval → Interval → Domain
up_by by.Sum defined a b = up_sum defined a b
up_by by.Difference defined a b = up_difference defined a b
up_by by.Product defined a b = up_product defined a b
up_by by.Quotient defined a b = up_quotient defined a b
up_by by.Remainder defined a b = up_remainder defined a b
up_by by.Power defined a b = up_power defined a b

-- Down to the dividend, of which nothing more is known, and to the divisor
abbrev pub down_quotient : Side → Interval → Interval
down_quotient side.First part = part
down_quotient side.Second part = down_divisor part

-- Down to a side
abbrev pub down_by : Arithmetic → Side → Interval → Interval → Interval → Interval
down_by by.Sum s whole part other = down_sum whole other
down_by by.Difference s whole part other = down_difference s whole other
down_by by.Product s whole part other = down_product whole other
down_by by.Quotient s whole part other = down_quotient s part
down_by by.Remainder s whole part other = down_remainder s whole
down_by by.Power s whole part other = down_power
