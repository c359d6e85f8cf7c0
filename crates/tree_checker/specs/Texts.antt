-- The verdict on any text.
use Rattle.std.specs.Prelude.{◌≡◌, ⊤, ◌⊎◌, ℕ, suc, ◌<◌, Bool, true, not, ◌==◌, List, [], ◌∷◌, ◌++◌, length, Some, ◌&&◌, map, codes}
use Rattle.std.specs.List.{list_all}
use Rattle.eb_value.specs.declared.scope.Scope.{Scope}
use Rattle.eb_term.specs.declared.problem.Problem.{Problem}
use Rattle.tree_form.specs.declared.line.Line.{Line}
use Rattle.tree_form.specs.Lines.{line_text, is_header, has_small_numbers, IsLine, IsReading}
use Rattle.tree_checker.specs.declared.verdict.Cause.{Cause}
use Rattle.tree_checker.specs.declared.verdict.Cause.TheVariants.{Unfinished, AfterEnd}
use Rattle.tree_checker.specs.declared.verdict.Verdict.{Verdict}
use Rattle.tree_checker.specs.declared.verdict.Verdict.TheVariants as verdict
use Rattle.occ_store.specs.Stores.{Store, IsFirst}
use Rattle.tree_checker.specs.Trees.{Task, facts_of, Tree, Holds, lines_of, opens, IsWhole}
use Rattle.tree_checker.specs.Verdicts.{State, Reading, IsPlace, fault}

-- each line with its line feed
abbrev pub joined : List (List ℕ) → List ℕ
joined [] = []
joined (line ∷ lines) = line ++ (10 ∷ joined lines)

-- without a line feed
abbrev pub is_one_line : List ℕ → Bool
is_one_line bytes = list_all (λ b. not (b == 10)) bytes

-- the text is these whole lines, and bytes after the last line feed
pub record IsText (text : List ℕ) (texts : List (List ℕ)) (rest : List ℕ) : Type 0 where
  pub whole : text ≡ joined texts ++ rest
  pub each : list_all is_one_line texts ≡ true
  pub last : is_one_line rest ≡ true

-- each text is one of its line
abbrev pub AreLines : List (List ℕ) → List Line → Type 0
AreLines [] [] = ⊤
AreLines [] (line ∷ lines) = ⊥
AreLines (text ∷ texts) [] = ⊥
AreLines (text ∷ texts) (line ∷ lines) = IsLine text line × AreLines texts lines

-- The text is that of a tree which holds and has this number of open boxes.
pub record IsWholeText (task : Task) (text : List ℕ) (count : ℕ) : Type 0 where
  pub texts : List (List ℕ)
  pub each : list_all is_one_line texts ≡ true
  pub joins : text ≡ joined texts
  pub lines : List Line
  pub are_lines : AreLines texts lines
  pub whole : IsWhole task lines count

-- some text that begins with these lines is that of such a tree
abbrev pub IsViableText : Task → List (List ℕ) → Type 0
IsViableText task texts = (more : List ℕ) × (count : ℕ) × IsWholeText task (joined texts ++ more) count

-- The line after these is the first at fault, and this is its cause: the first that applies to what it
-- is read as, in its place.
pub record IsFault (problem : Problem) (task : Task) (before : List (List ℕ)) (text : List ℕ) (cause : Cause) : Type 0 where
  pub viable : IsViableText task before
  pub none : IsViableText task (before ++ (text ∷ [])) → ⊥
  pub lines : List Line
  pub are_lines : AreLines before lines
  pub place : State
  pub is_place : IsPlace task lines place
  pub reading : Reading
  pub is_reading : IsReading problem text reading
  pub is_first : fault task.facts place reading ≡ Some cause

-- The lines are without fault, and the text ends too early, or within a line.
pub record IsShort (task : Task) (texts : List (List ℕ)) (rest : List ℕ) (cause : Cause) : Type 0 where
  pub viable : IsViableText task texts
  pub ends : ((count : ℕ) × IsWholeText task (joined texts) count × (0 < length rest) × (cause ≡ AfterEnd))
      ⊎ (((count : ℕ) → IsWholeText task (joined texts) count → ⊥) × (cause ≡ Unfinished))

abbrev pub IsVerdictFor : Problem → Task → List ℕ → Verdict → Type 0
IsVerdictFor problem task text verdict.Accepted = IsWholeText task text 0
IsVerdictFor problem task text (verdict.Partial count) = (0 < count) × IsWholeText task text count
IsVerdictFor problem task text (verdict.Refused n cause) = (texts : List (List ℕ)) × (rest : List ℕ) × IsText text texts rest ×
    (((before : List (List ℕ)) × (line : List ℕ) × (after : List (List ℕ)) × (texts ≡ before ++ (line ∷ after)) × (n ≡ suc (length before)) × IsFault problem task before line cause)
    ⊎ ((n ≡ suc (length texts)) × IsShort task texts rest cause))

abbrev pub task_of : Scope → Problem → Store → Task
task_of scope problem first = record { facts = facts_of scope problem; first = first }

-- The verdict on a text: a tree without open boxes that holds from the first store; one with open
-- boxes; or the first line at fault, with its cause.
abbrev pub IsVerdict : Scope → Problem → List ℕ → Verdict → Type 0
IsVerdict scope problem text verdict = (first : Store) × IsFirst scope problem.choices first × IsVerdictFor problem (task_of scope problem first) text verdict

-- The text is that of a refutation of the problem.
abbrev pub IsAccepted : Scope → Problem → List ℕ → Type 0
IsAccepted scope problem text = IsVerdict scope problem text verdict.Accepted

-- The text of a tree, from its beginning to its end.
abbrev pub tree_text : Tree → List ℕ
tree_text tree = joined (codes "tree 1" ∷ (map line_text (lines_of tree) ++ (codes "end" ∷ [])))

-- a line that may stand before a tree, without its line feed
abbrev pub is_header_line : List ℕ → Bool
is_header_line text = is_header text && is_one_line text

-- The text is that of a tree which holds and has this number of open boxes, behind lines that may
-- stand before it; its numbers lie within -2^62 .. 2^62.
pub record IsPrinted (task : Task) (text : List ℕ) (count : ℕ) : Type 0 where
  pub headers : List (List ℕ)
  pub are_headers : list_all is_header_line headers ≡ true
  pub tree : Tree
  pub holds : Holds task.facts task.first tree
  pub small : list_all has_small_numbers (lines_of tree) ≡ true
  pub printed : text ≡ joined headers ++ tree_text tree
  pub open_lines : count ≡ opens (lines_of tree)
