-- The levels of formulas, from the loosest to the tightest. Each names the production of the grammar whose head has it.
-- 0 to 3 are predicates, and from 4 on expressions.
use Rattle.std.specs.Prelude.{ℕ, Bool, true, false, ◌&&◌, ◌||◌, ◌==◌, if◌then◌else◌, nat_le}
use Rattle.eb_syntax.specs.declared.ast.Constant.{Constant}
use Rattle.eb_syntax.specs.declared.ast.Constant.TheVariants as constant
use Rattle.eb_syntax.specs.declared.ast.Prefix.{Prefix}
use Rattle.eb_syntax.specs.declared.ast.Prefix.TheVariants as prefix
use Rattle.eb_syntax.specs.declared.ast.Call.{Call}
use Rattle.eb_syntax.specs.declared.ast.Call.TheVariants as call
use Rattle.eb_syntax.specs.declared.ast.Operator.{Operator}
use Rattle.eb_syntax.specs.declared.ast.Operator.TheVariants as op
use Rattle.eb_signs.specs.declared.levels.Group.{Group}
use Rattle.eb_signs.specs.declared.levels.Group.TheVariants as g

-- junct ("=>" | "<=>") junct
abbrev pub pred : ℕ
pred = 0

-- lit "or" lit ..
abbrev pub disjunction : ℕ
disjunction = 1

-- lit "&" lit ..
abbrev pub conjunction : ℕ
conjunction = 2

-- a comparison, "not" lit, a quantified predicate, a predicate in parentheses ..
abbrev pub lit : ℕ
lit = 3

-- "%" .., "UNION" .. and "INTER" ..
abbrev pub expr : ℕ
expr = 4

-- arrow "|->" arrow ..
abbrev pub maplet : ℕ
maplet = 5

-- set arrowop set ..
abbrev pub arrow : ℕ
arrow = 6

-- range setop range ..
abbrev pub set : ℕ
set = 7

-- sum ".." sum
abbrev pub range : ℕ
range = 8

-- prod ("+" | "-") prod ..
abbrev pub sum : ℕ
sum = 9

-- neg ("*" | "/" | "mod") neg ..
abbrev pub prod : ℕ
prod = 10

-- "-" neg
abbrev pub neg : ℕ
neg = 11

-- post "^" neg
abbrev pub power : ℕ
power = 12

-- prim with "~", "(" expr ")" or "[" expr "]" behind it
abbrev pub post : ℕ
post = 13

-- a name, a number, a call, an expression in parentheses, a set in braces ..
abbrev pub prim : ℕ
prim = 14

abbrev pub is_pred : ℕ → Bool
is_pred n = nat_le n lit

abbrev pub is_expr : ℕ → Bool
is_expr n = nat_le expr n

-- The table of operators: the row of each, and for each row its own level and what stands to its left and to its right.
abbrev pub group_of : Operator → Group
group_of op.Implies = g.Implication
group_of op.Equivalent = g.Implication
group_of op.Or = g.Disjunction
group_of op.And = g.Conjunction
group_of op.Equal = g.Comparison
group_of op.Unequal = g.Comparison
group_of op.MemberOf = g.Comparison
group_of op.NotMemberOf = g.Comparison
group_of op.SubsetOf = g.Comparison
group_of op.NotSubsetOf = g.Comparison
group_of op.ProperSubsetOf = g.Comparison
group_of op.NotProperSubsetOf = g.Comparison
group_of op.Less = g.Comparison
group_of op.AtMost = g.Comparison
group_of op.Greater = g.Comparison
group_of op.AtLeast = g.Comparison
group_of op.MapsTo = g.Maplet
group_of op.Relation = g.Arrow
group_of op.TotalRelation = g.Arrow
group_of op.SurjectiveRelation = g.Arrow
group_of op.TotalSurjectiveRelation = g.Arrow
group_of op.PartialFunction = g.Arrow
group_of op.TotalFunction = g.Arrow
group_of op.PartialInjection = g.Arrow
group_of op.TotalInjection = g.Arrow
group_of op.PartialSurjection = g.Arrow
group_of op.TotalSurjection = g.Arrow
group_of op.Bijection = g.Arrow
group_of op.Union = g.Set
group_of op.Intersection = g.Set
group_of op.Difference = g.Set
group_of op.Product = g.Set
group_of op.ForwardComposition = g.Set
group_of op.BackwardComposition = g.Set
group_of op.DomainRestriction = g.Set
group_of op.DomainSubtraction = g.Set
group_of op.RangeRestriction = g.Set
group_of op.RangeSubtraction = g.Set
group_of op.Override = g.Set
group_of op.DirectProduct = g.Set
group_of op.ParallelProduct = g.Set
group_of op.UpTo = g.Interval
group_of op.Plus = g.Sum
group_of op.Minus = g.Sum
group_of op.Times = g.Multiplication
group_of op.Divide = g.Multiplication
group_of op.Modulo = g.Multiplication
group_of op.Power = g.Exponentiation
group_of op.Apply = g.Post
group_of op.Image = g.Post

-- the level of what the operator makes
abbrev pub level_of : Group → ℕ
level_of g.Implication = pred
level_of g.Disjunction = disjunction
level_of g.Conjunction = conjunction
level_of g.Comparison = lit
level_of g.Maplet = maplet
level_of g.Arrow = arrow
level_of g.Set = set
level_of g.Interval = range
level_of g.Sum = sum
level_of g.Multiplication = prod
level_of g.Exponentiation = power
level_of g.Post = post

-- what may stand to its left: a level of what is grouped to the left is among them
abbrev pub admits : Group → ℕ → Bool
admits g.Implication n = nat_le disjunction n && nat_le n lit
admits g.Disjunction n = (n == disjunction) || (n == lit)
admits g.Conjunction n = nat_le conjunction n && nat_le n lit
admits g.Comparison n = nat_le expr n
admits g.Maplet n = nat_le maplet n
admits g.Arrow n = nat_le arrow n
admits g.Set n = nat_le set n
admits g.Interval n = nat_le sum n
admits g.Sum n = nat_le sum n
admits g.Multiplication n = nat_le prod n
admits g.Exponentiation n = nat_le post n
admits g.Post n = nat_le post n

-- the least level of what stands to its right, or in its brackets
abbrev pub right_of : Group → ℕ
right_of g.Implication = disjunction
right_of g.Disjunction = lit
right_of g.Conjunction = lit
right_of g.Comparison = expr
right_of g.Maplet = arrow
right_of g.Arrow = set
right_of g.Set = range
right_of g.Interval = sum
right_of g.Sum = prod
right_of g.Multiplication = neg
right_of g.Exponentiation = neg
right_of g.Post = expr

abbrev pub joins_predicates : Group → Bool
joins_predicates g.Implication = true
joins_predicates g.Disjunction = true
joins_predicates g.Conjunction = true
joins_predicates _ = false

-- what may stand to its right, or in its brackets
abbrev pub takes : Group → ℕ → Bool
takes g n = nat_le (right_of g) n && (if joins_predicates g then is_pred n else true)

-- the level of a constant
abbrev pub constant_level : Constant → ℕ
constant_level constant.Truth = lit
constant_level constant.Falsity = lit
constant_level _ = prim

-- the level of what a prefix makes, and the least of its part, which is of the same kind
abbrev pub prefix_level : Prefix → ℕ
prefix_level prefix.Not = lit
prefix_level prefix.Minus = neg

-- "not" stands before lit, "-" before neg
abbrev pub prefix_takes : Prefix → ℕ → Bool
prefix_takes prefix.Not n = n == lit
prefix_takes prefix.Minus n = nat_le neg n

-- "finite" makes a predicate, every other call an expression
abbrev pub call_level : Call → ℕ
call_level call.Finite = lit
call_level _ = prim

-- "bool" is of a predicate, every other call of an expression
abbrev pub call_takes : Call → ℕ → Bool
call_takes call.BoolOf n = is_pred n
call_takes _ n = is_expr n
