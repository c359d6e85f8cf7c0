-- What is known of what is asked.
use Rattle.std.proofs.Common.{◌≡◌, ◌∙◌, None, ℕ, zero, suc, ◌<◌, ◌≤◌, ◌^◌, subst, refl, sym, List, [], length, arith, Some}
use Rattle.eb_term.specs.declared.problem.Problem.{Problem}
use Rattle.eb_meaning.specs.Problems.{AreDefinitionsNamed}
use Rattle.model_text.specs.declared.asked.Asked.{Asked}
use Rattle.model_text.specs.Asking.{IsLawful, IsFew, problem_for}
use Rattle.cbc_answers.specs.declared.status.Status.{Status}
use Rattle.cbc_answers.specs.declared.status.Status.TheVariants as ended
use Rattle.cbc_answers.specs.Answers.{problem_of, IsAnswer, AreAnswers, both_statuses}
use Rattle.cbc_answers.specs.steps.Repeating.{repeated}

-- a problem that is asked has few choices and facts
pub few_in : (a : Asked) → IsLawful a → a.problem ≡ Some (problem_of a) → (length (problem_of a).choices < 2 ^ 32) × (length (problem_of a).facts ≤ 2 ^ 62)
few_in a is some = subst IsFew some is.few

-- there are no definitions
pub none_named : (a : Asked) → AreDefinitionsNamed (problem_of a)
none_named a k less = absurd (omega (arith, less))

-- a problem that is asked is that of the axioms, and there is a query
pub asked_problem : (a : Asked) (p : Problem) → IsLawful a → a.problem ≡ Some p → p ≡ problem_of a
asked_problem a p is e = by_times a.times (problem_of a) p (sym is.problem) e where
  by_times : (n : ℕ) (q p : Problem) → problem_for n q ≡ a.problem → a.problem ≡ Some p → p ≡ q
  by_times zero q p f e = absurd cc
  by_times (suc n) q p f e = cc

-- where nothing is asked, there is no query
no_query : (n : ℕ) (q : Problem) → problem_for n q ≡ None → n ≡ 0
no_query zero q e = refl
no_query (suc n) q e = absurd cc

pub nothing_asked : (a : Asked) (budget : ℕ) → IsLawful a → a.problem ≡ None → AreAnswers a budget a.times [] ended.Decided
nothing_asked a budget is e = let none : a.times ≡ 0 = no_query a.times (problem_of a) (sym is.problem ∙ e) in subst (λ n. AreAnswers a budget n [] ended.Decided) (sym none) (refl, refl)

both_decided : (s : Status) → both_statuses s ended.Decided ≡ s
both_decided ended.Decided = refl
both_decided ended.NotHeld = refl
both_decided ended.Refused = refl
both_decided ended.Undecided = refl
both_decided ended.ReadFault = refl
both_decided ended.WriteFault = refl
both_decided ended.Memory = refl

both_same : (s : Status) → both_statuses s s ≡ s
both_same ended.Decided = refl
both_same ended.NotHeld = refl
both_same ended.Refused = refl
both_same ended.Undecided = refl
both_same ended.ReadFault = refl
both_same ended.WriteFault = refl
both_same ended.Memory = refl

-- one answer again and again
again : (a : Asked) (budget n : ℕ) (text : List ℕ) (s : Status) → IsAnswer a budget text s → AreAnswers a budget (suc n) (repeated (suc n) text) s
again a budget zero text s is = record { first = text; rest = []; first_status = s; rest_status = ended.Decided; is_first = is; are_rest = (refl, refl); bytes_are = refl; status_is = sym (both_decided s) }
again a budget (suc n) text s is = record { first = text; rest = repeated (suc n) text; first_status = s; rest_status = s; is_first = is; are_rest = again a budget n text s is; bytes_are = refl; status_is = sym (both_same s) }

pub all_answers : (a : Asked) (p : Problem) (budget : ℕ) (text : List ℕ) (s : Status) → IsLawful a → a.problem ≡ Some p → IsAnswer a budget text s → AreAnswers a budget a.times (repeated a.times text) s
all_answers a p budget text s is e answer = by_times a.times (problem_of a) (sym is.problem ∙ e) where
  by_times : (n : ℕ) (q : Problem) → problem_for n q ≡ Some p → AreAnswers a budget n (repeated n text) s
  by_times zero q f = absurd cc
  by_times (suc n) q f = again a budget n text s answer
