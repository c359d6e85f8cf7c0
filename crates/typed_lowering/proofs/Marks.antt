-- The terms of constants and marks.
use Rattle.std.proofs.Common.{◌≡◌, ◌∙◌, true, false, List, sym, ap, subst, rules}
use Rattle.eb_syntax.specs.declared.ast.Constant.{Constant}
use Rattle.eb_syntax.specs.declared.ast.Constant.TheVariants as constant
use Rattle.eb_value.specs.declared.types.EbType.{EbType}
use Rattle.eb_value.specs.declared.types.EbType as type_module
use Rattle.eb_value.specs.Types.{product, power}
use Rattle.type_table.specs.Rows.{Sort, predicate, expression, Choice, sort, relation, constant_pattern}
use Rattle.eb_term.specs.declared.operators.Infinite.TheVariants as infinite
use Rattle.eb_term.specs.declared.operators.Side.{Side}
use Rattle.eb_term.specs.declared.operators.Side.TheVariants as side
use Rattle.eb_term.specs.declared.term.Term.{Term}
use Rattle.eb_term.specs.Terms as term
use Rattle.eb_term.specs.Typed.{of_two}
use Rattle.eb_typing.specs.Numbering.{plain}
use Rattle.eb_typing.specs.Typing.{HasSort}
use Rattle.eb_lowering.specs.declared.setting.Setting.{Setting}
use Rattle.eb_lowering.specs.Lowering.{constant_term, mark_term, side_type, part_type}
use Rattle.typed_lowering.proofs.Identifiers.{Suits, TermIs, no_value_is}

side-first : (t u : EbType) → side_type side.First (relation t u) ≡ t
side-first t u = search (rules, type_module.the_lemmas)

part-first : (t u : EbType) → part_type side.First (product t u) ≡ t
part-first t u = search (rules, type_module.the_lemmas)

part-second : (t u : EbType) → part_type side.Second (product t u) ≡ u
part-second t u = search (rules, type_module.the_lemmas)

module _ (G : List EbType → Term → Sort → Type 0) (s : Setting) (h : Suits G s) where
  pub to_sort : (bound : List EbType) (e : Term) (r q : Sort) → r ≡ q → G bound e q → G bound e r
  to_sort bound e r q is x = subst (λ z. G bound e z) (sym is) x

  pub constant_is : (c : Constant) (r : Sort) → HasSort s.types (plain c) r → TermIs G s h (λ w. constant_term c) r
  constant_is constant.Truth r x bound w f = to_sort bound (constant_term constant.Truth) r predicate x.2 (h.judges.truth bound true)
  constant_is constant.Falsity r x bound w f = to_sort bound (constant_term constant.Falsity) r predicate x.2 (h.judges.truth bound false)
  constant_is constant.Integers r x bound w f = to_sort bound (constant_term constant.Integers) r _ x.2 (h.judges.infinite bound infinite.Integers)
  constant_is constant.Naturals r x bound w f = to_sort bound (constant_term constant.Naturals) r _ x.2 (h.judges.infinite bound infinite.Naturals)
  constant_is constant.PositiveNaturals r x bound w f = to_sort bound (constant_term constant.PositiveNaturals) r _ x.2 (h.judges.infinite bound infinite.PositiveNaturals)
  constant_is constant.Booleans r x bound w f = to_sort bound (constant_term constant.Booleans) r _ x.2 (h.judges.truths_literal bound)
  constant_is constant.TrueValue r x bound w f = to_sort bound (constant_term constant.TrueValue) r _ x.2 (h.judges.truth_literal bound true)
  constant_is constant.FalseValue r x bound w f = to_sort bound (constant_term constant.FalseValue) r _ x.2 (h.judges.truth_literal bound false)
  constant_is constant.Identity r x bound w f = absurd x
  constant_is constant.FirstProjection r x bound w f = absurd x
  constant_is constant.SecondProjection r x bound w f = absurd x
  constant_is constant.EmptySet r x bound w f = absurd x

  identity_is : (bound : List EbType) (t : EbType) → G bound (mark_term constant.Identity (relation t t)) (expression (relation t t))
  identity_is bound t = subst (λ z. G bound (term.identity z) (expression (relation t t))) (sym (side-first t t)) (h.judges.identity bound t)

  projection_is : (bound : List EbType) (x : Side) (t u : EbType)
      → G bound (term.projection x (part_type side.First (side_type side.First (relation (product t u) (of_two x t u)))) (part_type side.Second (side_type side.First (relation (product t u) (of_two x t u))))) (expression (relation (product t u) (of_two x t u)))
  projection_is bound x t u =
      let pairs = side-first (product t u) (of_two x t u) in
      let first : part_type side.First (side_type side.First (relation (product t u) (of_two x t u))) ≡ t = ap (part_type side.First) pairs ∙ part-first t u in
      let second : part_type side.Second (side_type side.First (relation (product t u) (of_two x t u))) ≡ u = ap (part_type side.Second) pairs ∙ part-second t u in
      subst (λ a. G bound (term.projection x a (part_type side.Second (side_type side.First (relation (product t u) (of_two x t u))))) (expression (relation (product t u) (of_two x t u)))) (sym first)
      (subst (λ b. G bound (term.projection x t b) (expression (relation (product t u) (of_two x t u)))) (sym second) (h.judges.projection bound x t u))

  marked_by : (c : Constant) (bound : List EbType) (t u : EbType) → u ≡ t → G bound (mark_term c u) (expression u) → G bound (mark_term c t) (expression t)
  marked_by c bound t u is x = subst (λ z. G bound (mark_term c z) (expression z)) is x

  pub mark_is : (c : Constant) (v : Choice) (bound : List EbType) (t : EbType) → sort v (constant_pattern c) ≡ expression t → G bound (mark_term c t) (expression t)
  mark_is constant.EmptySet v bound t e = marked_by constant.EmptySet bound t (power v.for_a) (cc) (h.judges.empty_literal bound v.for_a)
  mark_is constant.Identity v bound t e = marked_by constant.Identity bound t (relation v.for_a v.for_a) (cc) (identity_is bound v.for_a)
  mark_is constant.FirstProjection v bound t e = marked_by constant.FirstProjection bound t (relation (product v.for_a v.for_b) v.for_a) (cc) (projection_is bound side.First v.for_a v.for_b)
  mark_is constant.SecondProjection v bound t e = marked_by constant.SecondProjection bound t (relation (product v.for_a v.for_b) v.for_b) (cc) (projection_is bound side.Second v.for_a v.for_b)
  mark_is constant.Truth v bound t e = no_value_is G s h bound t
  mark_is constant.Falsity v bound t e = no_value_is G s h bound t
  mark_is constant.Integers v bound t e = no_value_is G s h bound t
  mark_is constant.Naturals v bound t e = no_value_is G s h bound t
  mark_is constant.PositiveNaturals v bound t e = no_value_is G s h bound t
  mark_is constant.Booleans v bound t e = no_value_is G s h bound t
  mark_is constant.TrueValue v bound t e = no_value_is G s h bound t
  mark_is constant.FalseValue v bound t e = no_value_is G s h bound t
