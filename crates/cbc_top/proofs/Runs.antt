-- What is due after a run's parts, and what a run leaves.
use Rattle.std.proofs.Common.{◌≡◌, ◌∙◌, ◌⊎◌, sym, subst, ap, refl, ℕ, zero, suc, List, [], ◌∷◌, ◌++◌, take, drop, inl, inr, arith, Result}
use Rattle.std.specs.Prelude.{Option, Some, Ok, Err}
use Rattle.std.proofs.lemmas.List.{take-append-drop, length-drop}
use Rattle.cbc_outside.specs.Outside.{Files, IsWhole}
use Rattle.cbc_words.specs.declared.action.Action.{Action}
use Rattle.cbc_words.specs.declared.action.Action.TheVariants as action
use Rattle.cbc_words.specs.declared.action.Command.{Command}
use Rattle.model_text.specs.declared.asked.Asked.{Asked}
use Rattle.model_text.specs.declared.asked.Wanted.{Wanted}
use Rattle.model_text.specs.declared.asked.Wanted.TheVariants as wanted
use Rattle.cbc_answers.specs.declared.status.Status.{Status}
use Rattle.cbc_answers.specs.declared.status.Status.TheVariants as ended
use Rattle.cbc_answers.specs.declared.status.Status.TheVariants.{Refused, WriteFault, Memory}
use Rattle.model_text.specs.declared.refusal.Refusal.{Refusal}
use Rattle.cbc_top.specs.declared.stop.Stop.{Stop}
use Rattle.cbc_top.specs.declared.stop.Stop.TheVariants as stop
use Rattle.cbc_top.specs.ModelFiles.{IsNextOf}
use Rattle.cbc_top.specs.Opening.{HasRead}
use Rattle.cbc_answers.specs.Answers.{IsAnswer, AreAnswers, both_statuses, IsJudged}
use Rattle.model_text.specs.Refusals.{refusal_text}
use Rattle.cbc_top.specs.Run.{IsAnswered, OpensNext, IsNext, OnModel, IsSolved, IsWithoutTree, Completes, Ends, Begins, Ran}
use Rattle.cbc_top.specs.steps.Reads.{RefusesModel, ReadsModel, ReadsTree}
use Rattle.cbc_top.specs.steps.Due.{Reads, DueAt, Says}
use Rattle.cbc_top.proofs.Joins.{one_more, has_read_under, has_failed_under}

-- ---- no answer is a fault

both_answered : (s t : Status) → IsAnswered s → IsAnswered t → IsAnswered (both_statuses s t)
both_answered ended.Decided t a b = b
both_answered ended.NotHeld t a b = a
both_answered ended.Refused t a b = a
both_answered ended.Undecided t a b = a
both_answered ended.ReadFault t a b = a
both_answered ended.WriteFault t a b = a
both_answered ended.Memory t a b = a

answer_answered : (a : Asked) (budget : ℕ) (bytes : List ℕ) (status : Status) → IsAnswer a budget bytes status → IsAnswered status
answer_answered a budget bytes status (inl found) = subst IsAnswered (sym found.3) tt
answer_answered a budget bytes status (inr (inl refuted)) = subst IsAnswered (sym refuted.3) tt
answer_answered a budget bytes status (inr (inr undecided)) = subst IsAnswered (sym undecided.3) tt

pub all_answered : (a : Asked) (budget n : ℕ) (bytes : List ℕ) (status : Status) → AreAnswers a budget n bytes status → IsAnswered status
all_answered a budget zero bytes status are = subst IsAnswered (sym are.1) tt
all_answered a budget (suc n) bytes status are =
    let first = answer_answered a budget are.first are.first_status are.is_first in
    let rest = all_answered a budget n are.rest are.rest_status are.are_rest in
    subst IsAnswered (sym are.status_is) (both_answered are.first_status are.rest_status first rest)

-- ---- what is due on a model

refused_on : (w : Wanted) (P : Asked → List ℕ → Status → Type 0) (names contents : List (List ℕ)) (refusal : Refusal) → RefusesModel w names contents refusal
    → OnModel w P names contents (refusal_text refusal) Refused
refused_on w P names contents refusal (inl r) = inl (r.0, inr (refusal, r.1, (refl, refl)))
refused_on w P names contents refusal (inr r) = inr (r.0, (ap refusal_text r.1, refl))

pub solve_stops : (names : List (List ℕ)) (budget : ℕ) (files : Option Files) (old new : List (List ℕ)) (blamed : Option (List ℕ)) (e : Stop)
    → ReadsModel wanted.Any names files old new blamed (Err e) → DueAt (IsNextOf names) (Completes (action.Solve names) budget) files old new blamed (Err e)
solve_stops names budget files old new blamed (stop.Refused refusal) r = (r.0, r.1, refused_on wanted.Any (IsSolved budget) names r.0 refusal r.2)
solve_stops names budget files old new blamed stop.ReadFault r = r
solve_stops names budget files old new blamed stop.Memory r = (r.0, r.1, tt)

-- ---- a tree

at_model : (names : List (List ℕ)) (tree : List ℕ) (contents : List (List ℕ)) (name : List ℕ) → IsNextOf names contents name → OpensNext (action.Check names tree) contents name
at_model names tree contents name next = inl next

model_of_check : (names : List (List ℕ)) (tree : List ℕ) (files : Option Files) (old new contents : List (List ℕ)) → HasRead (IsNextOf names) files old new contents
    → HasRead (OpensNext (action.Check names tree)) files old new contents
model_of_check names tree files old new contents read = has_read_under (IsNextOf names) (OpensNext (action.Check names tree)) files (at_model names tree) old new contents read

pub check_stops : (names : List (List ℕ)) (tree : List ℕ) (budget : ℕ) (files : Option Files) (old new : List (List ℕ)) (blamed : Option (List ℕ)) (e : Stop)
    → ReadsModel wanted.One names files old new blamed (Err e) → DueAt (OpensNext (action.Check names tree)) (Completes (action.Check names tree) budget) files old new blamed (Err e)
check_stops names tree budget files old new blamed (stop.Refused refusal) r =
    (r.0, model_of_check names tree files old new r.0 r.1, inl (refused_on wanted.One IsWithoutTree names r.0 refusal r.2))
check_stops names tree budget files old new blamed stop.ReadFault r =
    has_failed_under (IsNextOf names) (OpensNext (action.Check names tree)) files (at_model names tree) old new blamed r
check_stops names tree budget files old new blamed stop.Memory r = (r.0, model_of_check names tree files old new r.0 r.1, tt)

-- the tree is opened behind the model
tree_read : (names : List (List ℕ)) (tree : List ℕ) (files : Option Files) (old mid new : List (List ℕ)) (blamed : Option (List ℕ)) (a : Asked) (text : List ℕ)
    → (r : ReadsModel wanted.One names files old mid blamed (Ok a)) → IsWhole files tree text → new ≡ mid ++ tree ∷ []
    → HasRead (OpensNext (action.Check names tree)) files old new (r.0 ++ text ∷ [])
tree_read names tree files old mid new blamed a text r whole opened =
    one_more (OpensNext (action.Check names tree)) files old mid new r.0 tree text (model_of_check names tree files old mid r.0 r.1) (inr ((a, (r.2, r.3)), refl)) whole opened

pub tree_stops : (names : List (List ℕ)) (tree : List ℕ) (budget : ℕ) (files : Option Files) (old mid new : List (List ℕ)) (was blamed : Option (List ℕ)) (a : Asked) (e : Stop)
    → ReadsModel wanted.One names files old mid was (Ok a) → ReadsTree files tree blamed (Err e) → new ≡ mid ++ tree ∷ []
    → DueAt (OpensNext (action.Check names tree)) (Completes (action.Check names tree) budget) files old new blamed (Err e)
tree_stops names tree budget files old mid new was blamed a (stop.Refused refusal) r s opened = (
  r.0 ++ s.0 ∷ [],
  tree_read names tree files old mid new was a s.0 r s.1 opened,
  inr (record { model = r.0; tree = s.0; behind = refl; asked = a; asks = (r.2, r.3); due = inr (s.2, (ap refusal_text s.3, refl)) }),
)
tree_stops names tree budget files old mid new was blamed a stop.ReadFault r s opened = record {
  before = mid;
  contents = r.0;
  read = model_of_check names tree files old mid r.0 r.1;
  name = tree;
  next = inr ((a, (r.2, r.3)), refl);
  opened = opened;
  is_blamed = s;
}
tree_stops names tree budget files old mid new was blamed a stop.Memory r s opened = (r.0 ++ s.0 ∷ [], tree_read names tree files old mid new was a s.0 r s.1 opened, tt)

pub check_breaks : (names : List (List ℕ)) (tree : List ℕ) (budget : ℕ) (files : Option Files) (old mid new : List (List ℕ)) (was blamed : Option (List ℕ)) (a : Asked) (text : List ℕ)
    → ReadsModel wanted.One names files old mid was (Ok a) → ReadsTree files tree blamed (Ok text) → new ≡ mid ++ tree ∷ []
    → DueAt (OpensNext (action.Check names tree)) (Completes (action.Check names tree) budget) files old new blamed (Err stop.Memory)
check_breaks names tree budget files old mid new was blamed a text r s opened = (r.0 ++ text ∷ [], tree_read names tree files old mid new was a text r s.0 opened, tt)

pub judges : (names : List (List ℕ)) (tree : List ℕ) (budget : ℕ) (files : Option Files) (old mid new : List (List ℕ)) (was blamed : Option (List ℕ)) (a : Asked) (text : List ℕ) (due : List ℕ × Status)
    → ReadsModel wanted.One names files old mid was (Ok a) → ReadsTree files tree blamed (Ok text) → new ≡ mid ++ tree ∷ [] → IsJudged a text due.0 due.1
    → DueAt (OpensNext (action.Check names tree)) (Completes (action.Check names tree) budget) files old new blamed (Ok due)
judges names tree budget files old mid new was blamed a text due r s opened judged = (
  r.0 ++ text ∷ [],
  tree_read names tree files old mid new was a text r s.0 opened,
  inr (record { model = r.0; tree = text; behind = refl; asked = a; asks = (r.2, r.3); due = inl (s.1, judged) }),
)

-- ---- what words ask for

pub due_at_action : (asked : Option Command) (command : Command) (a : Action) (files : Option Files) (old new : List (List ℕ)) (blamed : Option (List ℕ)) (result : Result (List ℕ × Status) Stop)
    → asked ≡ Some command → command.action ≡ a → DueAt (OpensNext a) (Completes a command.budget) files old new blamed result → DueAt (IsNext asked) (Ends asked) files old new blamed result
due_at_action asked command a files old new blamed result e is due =
    let here = subst (λ z. DueAt (OpensNext z) (Completes z command.budget) files old new blamed result) (sym is) due in
    subst (λ z. DueAt (IsNext z) (Ends z) files old new blamed result) (sym e) here

-- ---- what a run leaves that came to write

pub said_front : (command : Option Command) (files : Option Files) (old new : List (List ℕ)) (status result : Status) (bytes : List ℕ) (taken taken_now : Option (List ℕ)) (sink sink_now : ℕ) → IsAnswered status
    → Reads (IsNext command) files old new (λ contents. Ends command contents bytes status) → Says status bytes taken taken_now sink sink_now result → (result ≡ WriteFault) ⊎ (result ≡ Memory)
    → Ran command files old new taken taken_now (Begins command)
said_front command files old new status result bytes taken taken_now sink sink_now a due (inl s) (inl e) = absurd (subst IsAnswered (sym s.0 ∙ e) a)
said_front command files old new status result bytes taken taken_now sink sink_now a due (inl s) (inr e) = absurd (subst IsAnswered (sym s.0 ∙ e) a)
said_front command files old new status result bytes taken taken_now sink sink_now a due (inr s) e =
    let front = s.1 in
    let count = length-drop front.0 bytes in
    record {
      contents = due.0;
      read = due.1;
      bytes = take front.0 bytes;
      written = front.2;
      lawful = inr (drop front.0 bytes, omega (arith, count, front.1), status, subst (λ z. Ends command due.0 z status) (sym (take-append-drop front.0 bytes)) due.2);
    }
