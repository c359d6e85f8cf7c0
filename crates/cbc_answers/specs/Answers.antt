-- What is lawfully printed for what a text asks: the answers to its queries, and the verdict on a tree.
use Rattle.std.specs.Prelude.{◌≡◌, ◌⊎◌, ℕ, zero, suc, true, List, [], ◌∷◌, ◌++◌, map, codes, decimal}
use Rattle.std.specs.List.{flat_map}
use Rattle.eb_value.specs.declared.value.Value.{Value}
use Rattle.eb_value.specs.Texts.{value_text}
use Rattle.eb_term.specs.declared.problem.Problem.{Problem}
use Rattle.numbered_names.specs.declared.entries.Entry.{Entry}
use Rattle.tree_form.specs.declared.line.Line.{Line}
use Rattle.tree_form.specs.Lines.{line_text}
use Rattle.tree_checker.specs.declared.verdict.Cause.{Cause}
use Rattle.tree_checker.specs.declared.verdict.Cause.TheVariants as cause
use Rattle.tree_checker.specs.declared.verdict.Verdict.{Verdict}
use Rattle.tree_checker.specs.declared.verdict.Verdict.TheVariants as verdict
use Rattle.tree_checker.specs.Trees.{Tree}
use Rattle.tree_checker.specs.Texts.{IsVerdict, joined, is_one_line, tree_text}
use Rattle.branch_search.specs.Search.{IsRefutation, IsUndecided}
use Rattle.cbc_query.specs.declared.note.Note.{Note}
use Rattle.cbc_query.specs.Parts.{carriers, constants}
use Rattle.cbc_query.specs.Problems.{axioms_problem, IsWitness}
use Rattle.cbc_query.specs.Notes.{axioms_notes}
use Rattle.model_text.specs.declared.asked.Asked.{Asked}
use Rattle.cbc_answers.specs.declared.status.Status.{Status}
use Rattle.cbc_answers.specs.declared.status.Status.TheVariants as ended

-- the problem of each query
abbrev pub problem_of : Asked → Problem
problem_of a = axioms_problem a.scope a.model a.types

-- the constants have values of their types in the scope, of which each axiom is True
abbrev pub Witnesses : Asked → List Value → Type 0
Witnesses a values = IsWitness a.scope a.model a.types values

-- neither the label of a note nor its identifier has a line feed
abbrev pub IsPlain : Note → Type 0
IsPlain n = (is_one_line n.label ≡ true) × (is_one_line n.identifier ≡ true)

abbrev pub note_text : Note → List ℕ
note_text n = codes "note scoped " ++ (n.label ++ (codes " " ++ (n.identifier ++ codes "\n")))

-- what stands before the answer to a query: the query, and its notes
abbrev pub head_text : Asked → List ℕ
head_text a = codes "query axioms\n" ++ flat_map note_text (axioms_notes a.scope a.model a.types)

-- carrier sets are printed by their names
abbrev pub constant_text : List (List ℕ) → Entry → Value → List ℕ
constant_text sets x v = codes "constant " ++ (x.name ++ (codes " = " ++ (value_text sets v ++ codes "\n")))

-- a line for each constant
abbrev pub constants_text : List (List ℕ) → List Entry → List Value → List ℕ
constants_text sets [] vs = []
constants_text sets (x ∷ xs) [] = []
constants_text sets (x ∷ xs) (v ∷ vs) = constant_text sets x v ++ constants_text sets xs vs

abbrev pub found_text : Asked → List Value → List ℕ
found_text a values = head_text a ++ (codes "found\n" ++ (constants_text (carriers a.model) (constants a.model) values ++ codes "end\n"))

-- the text of a tree with these lines
abbrev pub tree_lines_text : List Line → List ℕ
tree_lines_text lines = joined (codes "tree 1" ∷ (map line_text lines ++ (codes "end" ∷ [])))

abbrev pub refuted_text : Asked → Tree → List ℕ
refuted_text a tree = head_text a ++ (codes "refuted\n" ++ tree_text tree)

abbrev pub undecided_text : Asked → ℕ → Tree → List ℕ
undecided_text a budget tree = head_text a ++ (codes "undecided " ++ (decimal budget ++ (codes "\n" ++ tree_text tree)))

-- The answer to a query: a witness; a refutation; or a tree that leaves boxes open since the budget was spent.
abbrev pub IsAnswer : Asked → ℕ → List ℕ → Status → Type 0
IsAnswer a budget bytes status =
    ((values : List Value) × Witnesses a values × (bytes ≡ found_text a values) × (status ≡ ended.Decided))
    ⊎ ((tree : Tree) × IsRefutation a.scope (problem_of a) budget tree × (bytes ≡ refuted_text a tree) × (status ≡ ended.Decided))
    ⊎ ((tree : Tree) × IsUndecided a.scope (problem_of a) budget tree × (bytes ≡ undecided_text a budget tree) × (status ≡ ended.Undecided))

-- the status after two answers: each query is decided only where both are
abbrev pub both_statuses : Status → Status → Status
both_statuses ended.Decided t = t
both_statuses s t = s

-- An answer, and answers behind it.
pub record Join (First Rest : List ℕ → Status → Type 0) (bytes : List ℕ) (status : Status) : Type 0 where
  pub first : List ℕ
  pub rest : List ℕ
  pub first_status : Status
  pub rest_status : Status
  pub is_first : First first first_status
  pub are_rest : Rest rest rest_status
  pub bytes_are : bytes ≡ first ++ rest
  pub status_is : status ≡ both_statuses first_status rest_status

-- the answers to so many queries, one behind the other; without a query nothing is printed
abbrev pub AreAnswers : Asked → ℕ → ℕ → List ℕ → Status → Type 0
AreAnswers a budget zero bytes status = (bytes ≡ []) × (status ≡ ended.Decided)
AreAnswers a budget (suc n) bytes status = Join (IsAnswer a budget) (AreAnswers a budget n) bytes status

-- The verdict on a tree.

abbrev pub cause_text : Cause → List ℕ
cause_text cause.BadLine = codes "F1 BadLine"
cause_text cause.NoSuchOccurrence = codes "F2 NoSuchOccurrence"
cause_text cause.BadSplit = codes "F3 BadSplit"
cause_text cause.NoClash = codes "F4 NoClash"
cause_text cause.NotSingle = codes "F5 NotSingle"
cause_text cause.EvalTrue = codes "F6 EvalTrue"
cause_text cause.Unfinished = codes "F7 Unfinished"
cause_text cause.AfterEnd = codes "F8 AfterEnd"

abbrev pub verdict_text : Verdict → List ℕ
verdict_text verdict.Accepted = codes "accepted\n"
verdict_text (verdict.Partial count) = codes "partial " ++ (decimal count ++ codes "\n")
verdict_text (verdict.Refused n cause) = codes "refused " ++ (decimal n ++ (codes " " ++ (cause_text cause ++ codes "\n")))

abbrev pub status_of : Verdict → Status
status_of verdict.Accepted = ended.Decided
status_of (verdict.Partial count) = ended.NotHeld
status_of (verdict.Refused n cause) = ended.NotHeld

-- the verdict on a tree's text for the problem of a query
abbrev pub IsJudged : Asked → List ℕ → List ℕ → Status → Type 0
IsJudged a tree bytes status =
    (verdict : Verdict) × IsVerdict a.scope (problem_of a) tree verdict × (bytes ≡ verdict_text verdict) × (status ≡ status_of verdict)
