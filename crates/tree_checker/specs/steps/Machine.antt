-- The checker, line by line: a means of proof, which the laws of the crate tie to the definition of the
-- verdict.
use Rattle.std.specs.Prelude.{◌≡◌, ℕ, zero, suc, ◌+◌, Bool, true, false, cond, if◌then◌else◌, ◌==◌, List, [], ◌∷◌, ◌++◌, map, length, Option, Some, None, Result, Ok, Err}
use Rattle.eb_value.specs.declared.scope.Scope.{Scope}
use Rattle.eb_term.specs.declared.problem.Problem.{Problem}
use Rattle.tree_form.specs.declared.line.Line.{Line}
use Rattle.tree_form.specs.declared.line.Line.TheVariants as line
use Rattle.tree_form.specs.Lines.{IsLine, IsReading}
use Rattle.tree_checker.specs.declared.verdict.Cause.{Cause}
use Rattle.tree_checker.specs.declared.verdict.Cause.TheVariants.{Unfinished, AfterEnd}
use Rattle.tree_checker.specs.declared.verdict.Verdict.{Verdict}
use Rattle.tree_checker.specs.declared.verdict.Verdict.TheVariants as verdict
use Rattle.occ_store.specs.Stores.{Store}
use Rattle.tree_checker.specs.Trees.{Task, parts_of, is_open}
use Rattle.tree_checker.specs.Verdicts.{State, heading, within, ended, Reading, fault}
use Rattle.tree_checker.specs.Texts.{task_of}

abbrev pub after_heading : Task → Line → State
after_heading task line.Begin = within (task.first ∷ []) 0
after_heading task _ = heading

abbrev pub next : Task → State → Line → State
next task heading line = after_heading task line
next task (within [] count) line = ended count
next task (within (store ∷ stores) count) line = within (parts_of store line ++ stores) (count + cond (is_open line) 1 0)
next task (ended count) line = ended count

abbrev pub next_place : Task → State → Reading → State
next_place task place (Ok line) = next task place line
next_place task place (Err fault) = place

abbrev pub or_fault : {A : Type 0} → Option Cause → ℕ → Result A (ℕ × Cause) → Result A (ℕ × Cause)
or_fault None n r = r
or_fault (Some cause) n r = Err (n, cause)

-- the place after the lines, of which the first has number n
abbrev pub after : Task → ℕ → State → List Reading → Result State (ℕ × Cause)
after task n place [] = Ok place
after task n place (reading ∷ readings) = or_fault (fault task.facts place reading) n (after task (suc n) (next_place task place reading) readings)

-- where the text ends, before line n, between lines or within one
abbrev pub at_end : State → ℕ → Bool → Verdict
at_end (ended zero) n false = verdict.Accepted
at_end (ended (suc count)) n false = verdict.Partial (suc count)
at_end (ended count) n true = verdict.Refused n AfterEnd
at_end heading n cut = verdict.Refused n Unfinished
at_end (within stores count) n cut = verdict.Refused n Unfinished

abbrev pub verdict_from : Result State (ℕ × Cause) → ℕ → Bool → Verdict
verdict_from (Ok place) n cut = at_end place n cut
verdict_from (Err e) n cut = verdict.Refused e.0 e.1

-- the whole lines of a text, and the bytes after the last line feed
abbrev pub with_byte : ℕ → List (List ℕ) × List ℕ → List (List ℕ) × List ℕ
with_byte b ([], rest) = ([], b ∷ rest)
with_byte b (line ∷ lines, rest) = ((b ∷ line) ∷ lines, rest)

abbrev pub lines_and_rest : List ℕ → List (List ℕ) × List ℕ
lines_and_rest [] = ([], [])
lines_and_rest (b ∷ bytes) = if b == 10 then ([] ∷ (lines_and_rest bytes).0, (lines_and_rest bytes).1) else with_byte b (lines_and_rest bytes)

abbrev pub is_some_byte : List ℕ → Bool
is_some_byte [] = false
is_some_byte (b ∷ bytes) = true

-- What reads each text as the definition says.
pub record Reader (problem : Problem) : Type 0 where
  pub read : List ℕ → Reading
  pub is : (text : List ℕ) → IsReading problem text (read text)
  pub only : (text : List ℕ) (reading : Reading) → IsReading problem text reading → read text ≡ reading
  pub line : (text : List ℕ) (first second : Line) → IsLine text first → IsLine text second → first ≡ second

abbrev pub readings : (List ℕ → Reading) → List (List ℕ) → List Reading
readings read texts = map read texts

-- the verdict where the text from line n on is this, in this place
abbrev pub text_rest : (List ℕ → Reading) → Task → ℕ → State → List ℕ → Verdict
text_rest read task n place text = verdict_from (after task n place (readings read (lines_and_rest text).0)) (n + length (lines_and_rest text).0) (is_some_byte (lines_and_rest text).1)

abbrev pub text_verdict : (List ℕ → Reading) → Scope → Problem → Store → List ℕ → Verdict
text_verdict read scope problem first text = text_rest read (task_of scope problem first) 1 heading text

-- the first line without its line feed, and what comes after the line feed
abbrev pub onto_line : ℕ → Option (List ℕ × List ℕ) → Option (List ℕ × List ℕ)
onto_line b None = None
onto_line b (Some l) = Some (b ∷ l.0, l.1)

abbrev pub first_line : List ℕ → Option (List ℕ × List ℕ)
first_line [] = None
first_line (b ∷ bytes) = if b == 10 then Some ([], bytes) else onto_line b (first_line bytes)
