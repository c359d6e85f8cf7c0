-- What a search found, and its text, are an answer.
use Rattle.std.proofs.Common.{◌≡◌, ◌∙◌, ap, refl, subst, inl, inr, ℕ, ℤ, pos, negsuc, ◌≤ℤ◌, List, ◌++◌, codes, decimal, arith}
use Rattle.std.specs.List.{flat_map}
use Rattle.std.proofs.lemmas.Int.{ints}
use Rattle.eb_value.specs.declared.value.Value.{Value}
use Rattle.eb_term.specs.declared.problem.Problem.{Problem}
use Rattle.eb_meaning.specs.Problems.{IsSolution}
use Rattle.tree_form.specs.declared.line.Line.{Line}
use Rattle.branch_search.specs.declared.depth_first.Answer.TheVariants as answer
use Rattle.branch_search.specs.Search.{Answers, IsRefutation, IsUndecided}
use Rattle.cbc_query.specs.declared.note.Note.{Note}
use Rattle.cbc_query.specs.Notes.{axioms_notes}
use Rattle.cbc_query.specs.Parts.{carriers, constants}
use Rattle.model_text.specs.declared.asked.Asked.{Asked}
use Rattle.model_text.specs.Asking.{IsLawful}
use Rattle.cbc_answers.specs.declared.status.Status.TheVariants as ended
use Rattle.cbc_answers.specs.Answers.{problem_of, Witnesses, note_text, head_text, constants_text, tree_lines_text, IsAnswer}

-- ---- the scope of what is asked is one of the law of witnesses

low_wide : (lo : ℤ) → negsuc 32767 ≤ℤ lo → negsuc 4611686018427387903 ≤ℤ lo
low_wide lo least = omega (arith, ints)

high_wide : (hi : ℤ) → hi ≤ℤ pos 32767 → hi ≤ℤ pos 4611686018427387904
high_wide hi greatest = omega (arith, ints)

pub low_of : (a : Asked) → IsLawful a → negsuc 4611686018427387903 ≤ℤ a.scope.lo
low_of a is = low_wide a.scope.lo is.small.least

pub high_of : (a : Asked) → IsLawful a → a.scope.hi ≤ℤ pos 4611686018427387904
high_of a is = high_wide a.scope.hi is.small.greatest

-- ---- the answers

pub head_is : (a : Asked) (notes : List Note) (head : List ℕ) → notes ≡ axioms_notes a.scope a.model a.types → head ≡ codes "query axioms\n" ++ flat_map note_text notes → head ≡ head_text a
head_is a notes head e f = f ∙ ap (λ z. codes "query axioms\n" ++ flat_map note_text z) e

pub is_found : (a : Asked) → ((values : List Value) → IsSolution a.scope (problem_of a) values → Witnesses a values) → (budget : ℕ) (p : Problem) (values : List Value) (head bytes : List ℕ) (sets : List (List ℕ))
    → p ≡ problem_of a → Answers a.scope p budget (answer.Found values) → head ≡ head_text a → sets ≡ carriers a.model
    → bytes ≡ head ++ (codes "found\n" ++ (constants_text sets (constants a.model) values ++ codes "end\n")) → IsAnswer a budget bytes ended.Decided
is_found a law budget p values head bytes sets same solution headed named e = inl (
  values,
  law values (subst (λ q. IsSolution a.scope q values) same solution),
  e ∙ ap (λ z. z ++ (codes "found\n" ++ (constants_text sets (constants a.model) values ++ codes "end\n"))) headed
      ∙ ap (λ z. head_text a ++ (codes "found\n" ++ (constants_text z (constants a.model) values ++ codes "end\n"))) named,
  refl,
)

pub is_refuted : (a : Asked) (budget : ℕ) (p : Problem) (lines : List Line) (head bytes : List ℕ)
    → p ≡ problem_of a → Answers a.scope p budget (answer.Refuted lines) → head ≡ head_text a → bytes ≡ head ++ (codes "refuted\n" ++ tree_lines_text lines)
    → IsAnswer a budget bytes ended.Decided
is_refuted a budget p lines head bytes same found headed e = inr (inl (
  found.0,
  subst (λ q. IsRefutation a.scope q budget found.0) same found.1,
  e ∙ ap (λ z. z ++ (codes "refuted\n" ++ tree_lines_text lines)) headed ∙ ap (λ z. head_text a ++ (codes "refuted\n" ++ tree_lines_text z)) found.2,
  refl,
))

pub is_undecided : (a : Asked) (budget : ℕ) (p : Problem) (lines : List Line) (head bytes : List ℕ)
    → p ≡ problem_of a → Answers a.scope p budget (answer.Undecided lines) → head ≡ head_text a
    → bytes ≡ head ++ (codes "undecided " ++ (decimal budget ++ (codes "\n" ++ tree_lines_text lines))) → IsAnswer a budget bytes ended.Undecided
is_undecided a budget p lines head bytes same found headed e = inr (inr (
  found.0,
  subst (λ q. IsUndecided a.scope q budget found.0) same found.1,
  e ∙ ap (λ z. z ++ (codes "undecided " ++ (decimal budget ++ (codes "\n" ++ tree_lines_text lines)))) headed
      ∙ ap (λ z. head_text a ++ (codes "undecided " ++ (decimal budget ++ (codes "\n" ++ tree_lines_text z)))) found.2,
  refl,
))
