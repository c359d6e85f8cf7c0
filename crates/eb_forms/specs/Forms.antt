-- Forms: sets that are no values. These are INT, NAT, NAT1, POW(F), POW1(F), the arrows, and F ** G where a part is a form. A form
-- stands to the right of `:`, `/:`, `<:`, `/<:` and `::`, and as a part of a form; to the right of `<<:` and `/<<:`, on the left of
-- a total arrow and on the right of a surjective one only INT, NAT and NAT1 do.
use Rattle.std.specs.Prelude.{ℕ, Bool, true, false, not, ◌&&◌, ◌||◌, if◌then◌else◌, List, [], ◌∷◌, Option, Some, None, slice_get}
use Rattle.std.specs.Option.{option_or}
use Rattle.eb_syntax.specs.declared.ast.Constant.{Constant}
use Rattle.eb_syntax.specs.declared.ast.Constant.TheVariants as constant
use Rattle.eb_syntax.specs.declared.ast.Call.{Call}
use Rattle.eb_syntax.specs.declared.ast.Call.TheVariants as call
use Rattle.eb_syntax.specs.declared.ast.Operator.{Operator}
use Rattle.eb_syntax.specs.declared.ast.Operator.TheVariants as op
use Rattle.operator_kinds.specs.Operators.{is_arrow, is_total, is_surjective, is_product}
use Rattle.eb_value.specs.declared.types.EbType.{EbType, fold-EbType}
use Rattle.eb_value.specs.declared.types.Shape.{Shape-F}
use Rattle.eb_value.specs.declared.types.Shape.TheOpen as ty
use Rattle.eb_resolved.specs.declared.resolved.Resolved.{Resolved}
use Rattle.eb_resolved.specs.declared.resolved.ResolvedNode.{ResolvedNode-F}
use Rattle.eb_resolved.specs.declared.resolved.ResolvedNode.TheOpen as form
use Rattle.eb_resolved.specs.Formulas.{by_placed_parts}
use Rattle.eb_model.specs.declared.model.LabelledFormula.{LabelledFormula}
use Rattle.eb_model.specs.declared.model.Change.{Change}
use Rattle.eb_model.specs.declared.model.Change.TheVariants as change
use Rattle.eb_model.specs.declared.model.ModelAction.{ModelAction}
use Rattle.eb_model.specs.declared.model.ModelEvent.{ModelEvent}
use Rattle.eb_model.specs.declared.model.ModelPart.{ModelPart}
use Rattle.eb_model.specs.declared.model.ModelPart.TheVariants as part
use Rattle.eb_model.specs.declared.model.EbModel.{EbModel}
use Rattle.eb_forms.specs.declared.kind.Kind.{Kind}
use Rattle.eb_forms.specs.declared.kind.Kind.TheVariants as kind
use Rattle.eb_forms.specs.declared.forms.Judged.{Judged}

-- what is of the one kind may stand where the other is allowed
abbrev pub fits : Kind → Kind → Bool
fits kind.Value k = true
fits kind.Integers kind.Value = false
fits kind.Integers k = true
fits kind.Form kind.Form = true
fits kind.Form k = false

abbrev pub constant_kind : Constant → Kind
constant_kind constant.Integers = kind.Integers
constant_kind constant.Naturals = kind.Integers
constant_kind constant.PositiveNaturals = kind.Integers
constant_kind c = kind.Value

-- POW and POW1
abbrev pub is_power : Call → Bool
is_power call.PowerSet = true
is_power call.NonemptyPowerSet = true
is_power c = false

abbrev pub call_kind : Call → Kind
call_kind c = if is_power c then kind.Form else kind.Value

abbrev pub is_value : Kind → Bool
is_value k = fits k kind.Value

-- what an operator of two such parts is; a predicate counts as a value
abbrev pub operator_kind : Operator → Kind → Kind → Kind
operator_kind o a b = if is_arrow o then kind.Form else (if is_product o && not (is_value a && is_value b) then kind.Form else kind.Value)

-- `<<:` and `/<<:`
abbrev pub is_proper : Operator → Bool
is_proper op.ProperSubsetOf = true
is_proper op.NotProperSubsetOf = true
is_proper o = false

-- `:`, `/:`, `<:` and `/<:`
abbrev pub takes_forms : Operator → Bool
takes_forms op.MemberOf = true
takes_forms op.NotMemberOf = true
takes_forms op.SubsetOf = true
takes_forms op.NotSubsetOf = true
takes_forms o = false

-- all of the side is asked, or a part of it
abbrev pub side_allowed : Bool → Kind
side_allowed true = kind.Integers
side_allowed false = kind.Form

-- what may stand to the left of an operator
abbrev pub left_allowed : Operator → Kind
left_allowed o = if is_arrow o then side_allowed (is_total o) else (if is_product o then kind.Form else kind.Value)

-- and to the right
abbrev pub right_allowed : Operator → Kind
right_allowed o = if is_arrow o then side_allowed (is_surjective o) else (if is_product o || takes_forms o then kind.Form else (if is_proper o then kind.Integers else kind.Value))

abbrev pub integers_step : Shape-F Bool Bool → Bool
integers_step ty.Integer = true
integers_step ty.Bool = false
integers_step (ty.Carrier s) = false
integers_step (ty.Product a b) = a || b
integers_step (ty.Power a) = a

-- the type has integers
abbrev pub has_integers : EbType → Bool
has_integers = fold-EbType Bool Bool integers_step (λ t. t.shape)

abbrev pub type_has_integers : Option EbType → Bool
type_has_integers None = false
type_has_integers (Some t) = has_integers t

-- `id`, `prj1` and `prj2`
abbrev pub is_relation : Constant → Bool
is_relation constant.Identity = true
is_relation constant.FirstProjection = true
is_relation constant.SecondProjection = true
is_relation c = false

abbrev pub judged : Kind → ℕ → Option ℕ → Judged
judged k place within = record { kind = k; place = place; within = within }

-- the place of the first form that may not stand there, of a formula where this kind is allowed
abbrev pub misplaced : Kind → Judged → Option ℕ
misplaced allowed j = if fits j.kind allowed then j.within else Some j.place

abbrev pub both_misplaced : Judged → Judged → Option ℕ
both_misplaced a b = option_or (misplaced kind.Value a) (misplaced kind.Value b)

abbrev pub all_misplaced : List Judged → Option ℕ
all_misplaced [] = None
all_misplaced (j ∷ js) = option_or (misplaced kind.Value j) (all_misplaced js)

abbrev pub judge_step : List EbType → ℕ → ResolvedNode-F (ℕ → Judged) Judged → Judged
judge_step types place (form.Number n) = judged kind.Value place None
judge_step types place (form.Identifier k) = judged kind.Value place None
judge_step types place (form.Primed k) = judged kind.Value place None
judge_step types place (form.Unknown x is_primed) = judged kind.Value place None
judge_step types place (form.Constant c) = judged (constant_kind c) place None
judge_step types place (form.Mark c k) = judged kind.Value place (if is_relation c && type_has_integers (slice_get types k) then Some place else None)
judge_step types place (form.Prefix op a) = judged kind.Value place (misplaced kind.Value a)
judge_step types place (form.Call c a) = judged (call_kind c) place (misplaced (call_kind c) a)
judge_step types place (form.Inverse a) = judged kind.Value place (misplaced kind.Value a)
judge_step types place (form.Operator o a b) = judged (operator_kind o a.kind b.kind) place (option_or (misplaced (left_allowed o) a) (misplaced (right_allowed o) b))
judge_step types place (form.Quantifier q es p) = judged kind.Value place (misplaced kind.Value p)
judge_step types place (form.Binder op b first p e) = judged kind.Value place (both_misplaced p e)
judge_step types place (form.Comprehension es p e) = judged kind.Value place (both_misplaced p e)
judge_step types place (form.Builder es e p) = judged kind.Value place (both_misplaced e p)
judge_step types place (form.Extension es) = judged kind.Value place (all_misplaced es)
judge_step types place (form.Partition es) = judged kind.Value place (all_misplaced es)

abbrev pub judge : List EbType → Resolved → Judged
judge types = by_placed_parts Judged (judge_step types)

-- the place of the first form in a formula that stands where it may not, where this kind is allowed
abbrev pub misplaced_in : List EbType → Kind → Resolved → Option ℕ
misplaced_in types allowed r = misplaced allowed (judge types r)

-- ---- in a model

-- the first that there is, by the order of the list
abbrev pub first_in : {A : Type 0} → (A → Option ℕ) → List A → Option ℕ
first_in f [] = None
first_in f (x ∷ xs) = option_or (f x) (first_in f xs)

abbrev pub in_formula : List EbType → LabelledFormula → Option ℕ
in_formula types l = misplaced_in types kind.Value l.formula

-- `x :: S` takes a form
abbrev pub in_change : List EbType → Change → Option ℕ
in_change types (change.BecomesEqual xs es) = first_in (misplaced_in types kind.Value) es
in_change types (change.BecomesEqualAt f e v) = option_or (misplaced_in types kind.Value e) (misplaced_in types kind.Value v)
in_change types (change.BecomesMember x e) = misplaced_in types kind.Form e
in_change types (change.BecomesSuchThat xs p) = misplaced_in types kind.Value p

abbrev pub in_action : List EbType → ModelAction → Option ℕ
in_action types a = in_change types a.change

abbrev pub in_event : List EbType → ModelEvent → Option ℕ
in_event types e = option_or (first_in (in_formula types) e.guards) (first_in (in_action types) e.actions)

abbrev pub in_part : List EbType → ModelPart → Option ℕ
in_part types (part.Carrier s x) = None
in_part types (part.Constant x) = None
in_part types (part.Variable x) = None
in_part types (part.Axiom l) = in_formula types l
in_part types (part.Invariant l) = in_formula types l
in_part types (part.Event e) = in_event types e

-- the place of the first form of a model that stands where it may not: parts stand in the order of the text
abbrev pub in_model : List EbType → EbModel → Option ℕ
in_model types m = first_in (in_part types) m.parts
