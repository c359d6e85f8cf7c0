-- The equations that the code makes of a model's parts are those of the formulas that it owes.
use Rattle.std.proofs.Common.{◌≡◌, ◌∙◌, ℕ, List, [], ◌∷◌, map, refl, sym, ap}
use Rattle.std.proofs.lemmas.List.Sums.{fold-append}
use Rattle.std.specs.Prelude.{fold}
use Rattle.std.specs.List.{flat_map}
use Rattle.eb_resolved.specs.declared.resolved.Resolved.{Resolved}
use Rattle.eb_model.specs.declared.model.LabelledFormula.{LabelledFormula}
use Rattle.eb_model.specs.declared.model.Change.{Change}
use Rattle.eb_model.specs.declared.model.Change.TheVariants as change
use Rattle.eb_model.specs.declared.model.ModelAction.{ModelAction}
use Rattle.eb_model.specs.declared.model.ModelEvent.{ModelEvent}
use Rattle.eb_model.specs.declared.model.ModelPart.{ModelPart}
use Rattle.eb_model.specs.declared.model.ModelPart.TheVariants as part
use Rattle.eb_typing.specs.declared.generated.Generated.{Generated}
use Rattle.eb_typing.specs.Numbering.{Numbered}
use Rattle.eb_typing.specs.Models as models
use Rattle.eb_typing.specs.steps.Generating.{demanded}
use Rattle.eb_typing.specs.steps.Demanding.{all_demanded, formula, assigned, becomes_equal, changed, action, event, one_part}

-- step by step it is the same as with all that the steps owe
folded : {X : Type 0} (asked : ℕ) (step : Generated → X → Generated) (owes : X → List Numbered) → ((g : Generated) (x : X) → step g x ≡ all_demanded asked g (owes x))
    → (g : Generated) (xs : List X) → fold step g xs ≡ all_demanded asked g (flat_map owes xs)
folded asked step owes e g [] = refl
folded asked step owes e g (x ∷ xs) =
    folded asked step owes e (step g x) xs
    ∙ (ap (λ h. all_demanded asked h (flat_map owes xs)) (e g x) ∙ sym (fold-append (λ h t. demanded asked t h) g (owes x) (flat_map owes xs)))

formulas_owed : (asked : ℕ) (g : Generated) (ls : List LabelledFormula) → fold (formula asked) g ls ≡ all_demanded asked g (map models.owed_by_formula ls)
formulas_owed asked g [] = refl
formulas_owed asked g (l ∷ ls) = formulas_owed asked (formula asked g l) ls

equal_owed : (asked : ℕ) (g : Generated) (xs es : List Resolved) → becomes_equal asked xs es g ≡ all_demanded asked g (models.becomes_equal xs es)
equal_owed asked g [] [] = refl
equal_owed asked g [] (e ∷ es) = refl
equal_owed asked g (x ∷ xs) [] = refl
equal_owed asked g (x ∷ xs) (e ∷ es) = equal_owed asked (assigned asked x e g) xs es

change_owed : (asked : ℕ) (g : Generated) (c : Change) → changed asked c g ≡ all_demanded asked g (models.owed_by_change c)
change_owed asked g (change.BecomesEqual xs es) = equal_owed asked g xs es
change_owed asked g (change.BecomesEqualAt f e v) = refl
change_owed asked g (change.BecomesMember x e) = refl
change_owed asked g (change.BecomesSuchThat xs p) = refl

action_owed : (asked : ℕ) (g : Generated) (a : ModelAction) → action asked g a ≡ all_demanded asked g (models.owed_by_action a)
action_owed asked g a = change_owed asked g a.change

event_owed : (asked : ℕ) (g : Generated) (e : ModelEvent) → event asked e g ≡ all_demanded asked g (models.owed_by_event e)
event_owed asked g e =
    let gs = map models.owed_by_formula e.guards in
    let acts = flat_map models.owed_by_action e.actions in
    ap (λ h. fold (action asked) h e.actions) (formulas_owed asked g e.guards)
    ∙ (folded asked (action asked) models.owed_by_action (action_owed asked) (all_demanded asked g gs) e.actions ∙ sym (fold-append (λ h t. demanded asked t h) g gs acts))

part_owed : (asked : ℕ) (g : Generated) (p : ModelPart) → one_part asked g p ≡ all_demanded asked g (models.owed_by_part p)
part_owed asked g (part.Carrier s x) = refl
part_owed asked g (part.Constant x) = refl
part_owed asked g (part.Variable x) = refl
part_owed asked g (part.Axiom l) = refl
part_owed asked g (part.Invariant l) = refl
part_owed asked g (part.Event e) = event_owed asked g e

pub parts_owed : (asked : ℕ) (g : Generated) (ps : List ModelPart) → fold (one_part asked) g ps ≡ all_demanded asked g (flat_map models.owed_by_part ps)
parts_owed asked g ps = folded asked (one_part asked) models.owed_by_part (part_owed asked) g ps
