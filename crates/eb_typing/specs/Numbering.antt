-- What the table of types asks of a formula with numbers in place of names: the formula by its parts with the row of each
-- operator, and a number for each identifier and mark.
use Rattle.std.specs.Prelude.{ℕ, List, [], ◌∷◌, map}
use Rattle.eb_syntax.specs.declared.ast.Binder.{Binder}
use Rattle.eb_syntax.specs.declared.ast.Binder.TheVariants as binder
use Rattle.eb_syntax.specs.declared.ast.Bound.{Bound}
use Rattle.eb_syntax.specs.declared.ast.Bound.TheVariants as bound
use Rattle.eb_syntax.specs.declared.ast.Constant.{Constant}
use Rattle.eb_syntax.specs.declared.ast.Constant.TheVariants as constant
use Rattle.eb_syntax.specs.declared.ast.Mark.{Mark}
use Rattle.type_table.specs.declared.pattern.Letter.TheVariants.{A}
use Rattle.type_table.specs.declared.pattern.Pattern.{Pattern}
use Rattle.type_table.specs.declared.pattern.Pattern.TheVariants as p
use Rattle.type_table.specs.declared.pattern.UnaryRow.{UnaryRow}
use Rattle.type_table.specs.declared.pattern.BinaryRow.{BinaryRow}
use Rattle.type_table.specs.declared.pattern.TernaryRow.{TernaryRow}
use Rattle.type_table.specs.Rows.{unary, constant_pattern, prefix_row, call_row, inverse_row, quantifier_row, comprehension_row, builder_row, lambda_row, gathering_row, operator_row}
use Rattle.eb_resolved.specs.declared.resolved.Resolved.{Resolved}
use Rattle.eb_resolved.specs.declared.resolved.ResolvedNode.{ResolvedNode-F}
use Rattle.eb_resolved.specs.declared.resolved.ResolvedNode.TheOpen as form
use Rattle.eb_resolved.specs.Formulas.{by_parts}

-- A formula with a row for each operator.
mutual
  pub data Numbered : Type 0 where
    -- an identifier or a mark
    typed : ℕ → Numbered
    -- a name that stands for nothing, or what has no type at all
    unknown : Numbered
    -- the pattern of a `%` whose first identifier has this number, the next one the next number, and so on
    tuple : List Mark → ℕ → Numbered
    -- parts and what is made of them, by a row of the table
    made : List Pattern → Pattern → Parts → Numbered

  pub data Parts : Type 0 where
    none : Parts
    also : Numbered → Parts → Parts

abbrev pub of_one : UnaryRow → Numbered → Numbered
of_one row t = made (row.part ∷ []) row.whole (also t none)

abbrev pub of_two : BinaryRow → Numbered → Numbered → Numbered
of_two row t u = made (row.left ∷ row.right ∷ []) row.whole (also t (also u none))

abbrev pub of_three : TernaryRow → Numbered → Numbered → Numbered → Numbered
of_three row t u v = made (row.first ∷ row.second ∷ row.third ∷ []) row.whole (also t (also u (also v none)))

-- a mark, whose type is of this pattern
abbrev pub marked : Pattern → ℕ → Numbered
marked q k = of_one (unary q q) (typed k)

abbrev pub parts_of : List Numbered → Parts
parts_of [] = none
parts_of (t ∷ ts) = also t (parts_of ts)

-- the same pattern for each part, where there is one
abbrev pub all : Pattern → Pattern → List Numbered → Numbered
all part whole [] = unknown
all part whole (t ∷ ts) = made (map (λ _. part) (t ∷ ts)) whole (parts_of (t ∷ ts))

-- a constant that has one type, or is a predicate: the others are marks
abbrev pub plain : Constant → Numbered
plain constant.Truth = made [] (constant_pattern constant.Truth) none
plain constant.Falsity = made [] (constant_pattern constant.Falsity) none
plain constant.Integers = made [] (constant_pattern constant.Integers) none
plain constant.Naturals = made [] (constant_pattern constant.Naturals) none
plain constant.PositiveNaturals = made [] (constant_pattern constant.PositiveNaturals) none
plain constant.Booleans = made [] (constant_pattern constant.Booleans) none
plain constant.TrueValue = made [] (constant_pattern constant.TrueValue) none
plain constant.FalseValue = made [] (constant_pattern constant.FalseValue) none
plain constant.Identity = unknown
plain constant.FirstProjection = unknown
plain constant.SecondProjection = unknown
plain constant.EmptySet = unknown

-- the pattern of a `%`
abbrev pub tuple_of : Bound → ℕ → Numbered
tuple_of (bound.Pattern ms) n = tuple ms n
tuple_of (bound.Identifiers xs) n = unknown

abbrev pub bound_made : Binder → Bound → ℕ → Numbered → Numbered → Numbered
bound_made binder.Lambda b n t u = of_three lambda_row (tuple_of b n) t u
bound_made binder.Union b n t u = of_two gathering_row t u
bound_made binder.Intersection b n t u = of_two gathering_row t u

abbrev pub number_step : ResolvedNode-F Numbered Numbered → Numbered
number_step (form.Number n) = made [] p.Integer none
number_step (form.Identifier k) = typed k
number_step (form.Primed k) = typed k
number_step (form.Unknown x is_primed) = unknown
number_step (form.Constant c) = plain c
number_step (form.Mark c k) = marked (constant_pattern c) k
number_step (form.Prefix op t) = of_one (prefix_row op) t
number_step (form.Call op t) = of_one (call_row op) t
number_step (form.Inverse t) = of_one inverse_row t
number_step (form.Operator op t u) = of_two (operator_row op) t u
number_step (form.Quantifier q es t) = of_one quantifier_row t
number_step (form.Binder op b first t u) = bound_made op b first t u
number_step (form.Comprehension es t u) = of_two comprehension_row t u
number_step (form.Builder es t u) = of_two builder_row t u
number_step (form.Extension ts) = all (p.Type A) (p.Set A) ts
number_step (form.Partition ts) = all (p.Set A) p.Predicate ts

-- a formula with a row for each operator
abbrev pub numbered : Resolved → Numbered
numbered = by_parts Numbered number_step
