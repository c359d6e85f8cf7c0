-- Which rows of the table of operators the code keeps apart.
use Rattle.std.specs.Prelude.{Bool, true, false}
use Rattle.eb_syntax.specs.declared.ast.Operator.{Operator}
use Rattle.eb_syntax.specs.declared.ast.Operator.TheVariants as op

-- an operation of sets and relations, or a set of relations
abbrev pub is_of_sets : Operator → Bool
is_of_sets op.Implies = false
is_of_sets op.Equivalent = false
is_of_sets op.Or = false
is_of_sets op.And = false
is_of_sets op.Equal = false
is_of_sets op.Unequal = false
is_of_sets op.MemberOf = false
is_of_sets op.NotMemberOf = false
is_of_sets op.SubsetOf = false
is_of_sets op.NotSubsetOf = false
is_of_sets op.ProperSubsetOf = false
is_of_sets op.NotProperSubsetOf = false
is_of_sets op.Less = false
is_of_sets op.AtMost = false
is_of_sets op.Greater = false
is_of_sets op.AtLeast = false
is_of_sets op.MapsTo = false
is_of_sets op.UpTo = false
is_of_sets op.Plus = false
is_of_sets op.Minus = false
is_of_sets op.Times = false
is_of_sets op.Divide = false
is_of_sets op.Modulo = false
is_of_sets op.Power = false
is_of_sets _ = true
