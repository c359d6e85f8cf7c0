-- The equations of the parts of a model, as the code makes them: a means of proof.
use Rattle.std.specs.Prelude.{ℕ, List, [], ◌∷◌, fold}
use Rattle.eb_resolved.specs.declared.resolved.Resolved.{Resolved}
use Rattle.eb_model.specs.declared.model.LabelledFormula.{LabelledFormula}
use Rattle.eb_model.specs.declared.model.Change.{Change}
use Rattle.eb_model.specs.declared.model.Change.TheVariants as change
use Rattle.eb_model.specs.declared.model.ModelAction.{ModelAction}
use Rattle.eb_model.specs.declared.model.ModelEvent.{ModelEvent}
use Rattle.eb_model.specs.declared.model.ModelPart.{ModelPart}
use Rattle.eb_model.specs.declared.model.ModelPart.TheVariants as part
use Rattle.type_table.specs.Rows.{assignment_row, assignment_at_row, choice_row}
use Rattle.eb_typing.specs.declared.generated.Generated.{Generated}
use Rattle.eb_typing.specs.Numbering.{Numbered, unknown, of_two, of_three, numbered}
use Rattle.eb_typing.specs.Models.{is_carrier}
use Rattle.eb_typing.specs.steps.Generating.{demanded}

-- formulas that are to be predicates, the first one first
abbrev pub all_demanded : ℕ → Generated → List Numbered → Generated
all_demanded asked g ts = fold (λ h t. demanded asked t h) g ts

abbrev pub formula : ℕ → Generated → LabelledFormula → Generated
formula asked g l = demanded asked (numbered l.formula) g

-- nothing is a predicate here
abbrev pub no_predicate : Generated → Generated
no_predicate g = demanded 0 unknown g

abbrev pub assigned : ℕ → Resolved → Resolved → Generated → Generated
assigned asked x e g = demanded asked (of_two assignment_row (numbered x) (numbered e)) g

abbrev pub becomes_equal : ℕ → List Resolved → List Resolved → Generated → Generated
becomes_equal asked [] [] g = g
becomes_equal asked (x ∷ xs) (e ∷ es) g = becomes_equal asked xs es (assigned asked x e g)
becomes_equal asked [] (e ∷ es) g = no_predicate g
becomes_equal asked (x ∷ xs) [] g = no_predicate g

abbrev pub becomes_equal_at : ℕ → Resolved → Resolved → Resolved → Generated → Generated
becomes_equal_at asked f e v g = demanded asked (of_three assignment_at_row (numbered f) (numbered e) (numbered v)) g

abbrev pub becomes_member : ℕ → Resolved → Resolved → Generated → Generated
becomes_member asked x e g = demanded asked (of_two choice_row (numbered x) (numbered e)) g

abbrev pub changed : ℕ → Change → Generated → Generated
changed asked (change.BecomesEqual xs es) g = becomes_equal asked xs es g
changed asked (change.BecomesEqualAt f e v) g = becomes_equal_at asked f e v g
changed asked (change.BecomesMember x e) g = becomes_member asked x e g
changed asked (change.BecomesSuchThat xs p) g = demanded asked (numbered p) g

abbrev pub action : ℕ → Generated → ModelAction → Generated
action asked g a = changed asked a.change g

abbrev pub event : ℕ → ModelEvent → Generated → Generated
event asked e g = fold (action asked) (fold (formula asked) g e.guards) e.actions

abbrev pub one_part : ℕ → Generated → ModelPart → Generated
one_part asked g (part.Carrier s x) = demanded asked (is_carrier s x.number) g
one_part asked g (part.Constant x) = g
one_part asked g (part.Variable x) = g
one_part asked g (part.Axiom l) = formula asked g l
one_part asked g (part.Invariant l) = formula asked g l
one_part asked g (part.Event e) = event asked e g
