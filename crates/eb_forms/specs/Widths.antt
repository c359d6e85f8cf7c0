-- How many identifiers the binders of a formula bind, and how many sets its `partition`s have behind the first.
use Rattle.std.specs.Prelude.{ℕ, Bool, false, ◌||◌, nat_lt, List, [], ◌∷◌, length, map}
use Rattle.std.specs.List.{flat_map}
use Rattle.eb_syntax.specs.declared.ast.Mark.{Mark}
use Rattle.eb_syntax.specs.declared.ast.Mark.TheVariants as mark
use Rattle.eb_syntax.specs.declared.ast.Bound.{Bound}
use Rattle.eb_syntax.specs.declared.ast.Bound.TheVariants as bound
use Rattle.eb_syntax.specs.declared.ast.Identifier.{Identifier}
use Rattle.eb_resolved.specs.declared.resolved.Resolved.{Resolved}
use Rattle.eb_resolved.specs.declared.resolved.ResolvedNode.{ResolvedNode-F}
use Rattle.eb_resolved.specs.declared.resolved.ResolvedNode.TheOpen as form
use Rattle.eb_resolved.specs.Formulas.{by_parts}
use Rattle.eb_model.specs.declared.model.LabelledFormula.{LabelledFormula}
use Rattle.eb_model.specs.declared.model.Change.{Change}
use Rattle.eb_model.specs.declared.model.Change.TheVariants as change
use Rattle.eb_model.specs.declared.model.ModelAction.{ModelAction}
use Rattle.eb_model.specs.declared.model.ModelEvent.{ModelEvent}
use Rattle.eb_model.specs.declared.model.ModelPart.{ModelPart}
use Rattle.eb_model.specs.declared.model.ModelPart.TheVariants as part
use Rattle.eb_model.specs.declared.model.EbModel.{EbModel}
use Rattle.eb_forms.specs.declared.widths.Wide.{Wide}

abbrev pub mark_identifiers : Mark → List Identifier
mark_identifiers (mark.Identifier x) = x ∷ []
mark_identifiers mark.MapsTo = []
mark_identifiers mark.Open = []
mark_identifiers mark.Close = []

-- the identifiers that a binder binds, in order
abbrev pub bound_identifiers : Bound → List Identifier
bound_identifiers (bound.Identifiers xs) = xs
bound_identifiers (bound.Pattern ms) = flat_map mark_identifiers ms

abbrev pub narrow : Wide
narrow = record { binder = false; partition = false }

abbrev pub either : Wide → Wide → Wide
either a b = record { binder = a.binder || b.binder; partition = a.partition || b.partition }

abbrev pub any : List Wide → Wide
any [] = narrow
any (w ∷ ws) = either w (any ws)

-- at most 8 identifiers
abbrev pub is_wide_binder : ℕ → Bool
is_wide_binder n = nat_lt 8 n

-- at most 64 sets behind the first
abbrev pub is_wide_partition : ℕ → Bool
is_wide_partition n = nat_lt 65 n

abbrev pub with_binder : ℕ → Wide → Wide
with_binder n w = either (record { binder = is_wide_binder n; partition = false }) w

abbrev pub with_partition : ℕ → Wide → Wide
with_partition n w = either (record { binder = false; partition = is_wide_partition n }) w

abbrev pub wide_step : ResolvedNode-F Wide Wide → Wide
wide_step (form.Number n) = narrow
wide_step (form.Identifier k) = narrow
wide_step (form.Primed k) = narrow
wide_step (form.Unknown x is_primed) = narrow
wide_step (form.Constant c) = narrow
wide_step (form.Mark c k) = narrow
wide_step (form.Prefix op a) = a
wide_step (form.Call op a) = a
wide_step (form.Inverse a) = a
wide_step (form.Operator op a b) = either a b
wide_step (form.Quantifier q es p) = with_binder (length es) p
wide_step (form.Binder op b first p e) = with_binder (length (bound_identifiers b)) (either p e)
wide_step (form.Comprehension es p e) = with_binder (length es) (either p e)
wide_step (form.Builder es e p) = with_binder (length es) (either e p)
wide_step (form.Extension rs) = any rs
wide_step (form.Partition rs) = with_partition (length rs) (any rs)

abbrev pub widths_of : Resolved → Wide
widths_of = by_parts Wide wide_step

-- ---- in a model

abbrev pub each_wide : {A : Type 0} → (A → Wide) → List A → Wide
each_wide f [] = narrow
each_wide f (x ∷ xs) = either (f x) (each_wide f xs)

abbrev pub wide_in_formula : LabelledFormula → Wide
wide_in_formula l = widths_of l.formula

abbrev pub wide_in_change : Change → Wide
wide_in_change (change.BecomesEqual xs es) = any (map widths_of es)
wide_in_change (change.BecomesEqualAt f e v) = either (widths_of e) (widths_of v)
wide_in_change (change.BecomesMember x e) = widths_of e
wide_in_change (change.BecomesSuchThat xs p) = widths_of p

abbrev pub wide_in_action : ModelAction → Wide
wide_in_action a = wide_in_change a.change

abbrev pub wide_in_event : ModelEvent → Wide
wide_in_event e = either (each_wide wide_in_formula e.guards) (each_wide wide_in_action e.actions)

abbrev pub wide_in_part : ModelPart → Wide
wide_in_part (part.Carrier s x) = narrow
wide_in_part (part.Constant x) = narrow
wide_in_part (part.Variable x) = narrow
wide_in_part (part.Axiom l) = wide_in_formula l
wide_in_part (part.Invariant l) = wide_in_formula l
wide_in_part (part.Event e) = wide_in_event e

abbrev pub wide_in_model : EbModel → Wide
wide_in_model m = each_wide wide_in_part m.parts
