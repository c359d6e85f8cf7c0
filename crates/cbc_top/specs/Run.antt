-- What a run reads and writes, and how it ends.
use Rattle.std.specs.Prelude.{◌≡◌, ◌⊎◌, ⊤, ℕ, ◌<◌, ◌≤◌, List, [], ◌∷◌, ◌++◌, length, Option, Some, None}
use Rattle.std.specs.Io.KnownBytes.{Appends}
use Rattle.cbc_outside.specs.Outside.{Files, Rose}
use Rattle.cbc_answers.specs.declared.status.Status.{Status}
use Rattle.cbc_answers.specs.declared.status.Status.TheVariants.{Refused, ReadFault, WriteFault, Memory}
use Rattle.model_text.specs.declared.refusal.Refusal.{Refusal}
use Rattle.model_text.specs.declared.refusal.Refusal.TheVariants.{Words, TooLong, NotYet}
use Rattle.cbc_words.specs.declared.action.Action.{Action}
use Rattle.cbc_words.specs.declared.action.Action.TheVariants as action
use Rattle.cbc_words.specs.declared.action.Command.{Command}
use Rattle.model_text.specs.declared.asked.Asked.{Asked}
use Rattle.model_text.specs.declared.asked.Wanted.{Wanted}
use Rattle.model_text.specs.declared.asked.Wanted.TheVariants as wanted
use Rattle.model_text.specs.Texts.{IsText, RefusesText}
use Rattle.model_text.specs.Refusals.{refusal_text}
use Rattle.cbc_top.specs.ModelFiles.{joined, IsNextOf, AreAll, AreTooLong}
use Rattle.cbc_top.specs.Opening.{HasRead}
use Rattle.cbc_answers.specs.Answers.{AreAnswers, IsJudged}

-- no fault and no want of memory ended the run
abbrev pub IsAnswered : Status → Type 0
IsAnswered ReadFault = ⊥
IsAnswered WriteFault = ⊥
IsAnswered Memory = ⊥
IsAnswered _ = ⊤

-- the line of this refusal
abbrev pub IsRefusal : Refusal → List ℕ → Status → Type 0
IsRefusal refusal bytes status = (bytes ≡ refusal_text refusal) × (status ≡ Refused)

-- ---- which files are opened

-- all files of the model were read, and they ask this by just one query
abbrev pub AsksOne : List (List ℕ) → List (List ℕ) → Asked → Type 0
AsksOne names contents a = AreAll names contents × IsText wanted.One (joined contents) a

-- The action opens the file with this name next, behind these contents: the files of the model in their order, and the
-- tree's once the model is read and has just one query, which is answered today. The actions that aren't built yet open none.
abbrev pub OpensNext : Action → List (List ℕ) → List ℕ → Type 0
OpensNext (action.Solve names) = IsNextOf names
OpensNext (action.Check names tree) = λ contents name. IsNextOf names contents name ⊎ (((a : Asked) × AsksOne names contents a) × (name ≡ tree))
OpensNext (action.Cover names) = λ contents name. ⊥
OpensNext (action.Replay names test) = λ contents name. ⊥
OpensNext (action.Gen number) = λ contents name. ⊥

-- and words that are no command open none
abbrev pub IsNext : Option Command → List (List ℕ) → List ℕ → Type 0
IsNext None = λ contents name. ⊥
IsNext (Some command) = OpensNext command.action

-- ---- what is lawful

-- the text asks something by so many queries as are wanted, and what is due on it; or the text's refusal
abbrev pub OnText : Wanted → (Asked → List ℕ → Status → Type 0) → List ℕ → List ℕ → Status → Type 0
OnText wanted Due text bytes status =
    ((a : Asked) × IsText wanted text a × Due a bytes status)
    ⊎ ((refusal : Refusal) × RefusesText wanted text refusal × IsRefusal refusal bytes status)

-- where the files of a model were read, and no other: what is due on their text, or that they are too long
abbrev pub OnModel : Wanted → (Asked → List ℕ → Status → Type 0) → List (List ℕ) → List (List ℕ) → List ℕ → Status → Type 0
OnModel wanted Due names contents bytes status =
    (AreAll names contents × OnText wanted Due (joined contents) bytes status)
    ⊎ (AreTooLong names contents × IsRefusal TooLong bytes status)

-- the answers to the queries of a text
abbrev pub IsSolved : ℕ → Asked → List ℕ → Status → Type 0
IsSolved budget a bytes status = AreAnswers a budget a.times bytes status

-- where a query is asked, the tree's file is read
abbrev pub IsWithoutTree : Asked → List ℕ → Status → Type 0
IsWithoutTree a bytes status = ⊥

-- The tree was read behind the model. It is judged if it has at most 16 MiB.
pub record OnTree (names contents : List (List ℕ)) (bytes : List ℕ) (status : Status) : Type 0 where
  pub model : List (List ℕ)
  pub tree : List ℕ
  pub behind : contents ≡ model ++ tree ∷ []
  pub asked : Asked
  pub asks : AsksOne names model asked
  pub due : ((length tree ≤ 16777216) × IsJudged asked tree bytes status) ⊎ ((16777216 < length tree) × IsRefusal NotYet bytes status)

-- These bytes and this status are lawful where the action has read these contents and opens no further file. Some actions
-- aren't built yet.
abbrev pub Completes : Action → ℕ → List (List ℕ) → List ℕ → Status → Type 0
Completes (action.Solve names) budget contents bytes status = OnModel wanted.Any (IsSolved budget) names contents bytes status
Completes (action.Check names tree) budget contents bytes status = OnModel wanted.One IsWithoutTree names contents bytes status ⊎ OnTree names contents bytes status
Completes (action.Cover names) budget contents bytes status = IsRefusal NotYet bytes status
Completes (action.Replay names test) budget contents bytes status = IsRefusal NotYet bytes status
Completes (action.Gen number) budget contents bytes status = IsRefusal NotYet bytes status

-- and words that are no command are refused, with no file opened
abbrev pub Ends : Option Command → List (List ℕ) → List ℕ → Status → Type 0
Ends None = λ contents. IsRefusal Words
Ends (Some command) = Completes command.action command.budget

-- nothing, or a proper front of bytes that are lawful
abbrev pub Begins : Option Command → List (List ℕ) → List ℕ → Type 0
Begins command contents bytes = (bytes ≡ []) ⊎ ((more : List ℕ) × (0 < length more) × (status : Status) × Ends command contents (bytes ++ more) status)

-- ---- a run

-- What a run read and what it wrote have P: the files that it opened are those that the command opens, in its order, and the
-- bytes are those that the sink took, where it tells them.
pub record Ran (command : Option Command) (files : Option Files) (old new : List (List ℕ)) (taken taken_now : Option (List ℕ)) (P : List (List ℕ) → List ℕ → Type 0) : Type 0 where
  pub contents : List (List ℕ)
  pub read : HasRead (IsNext command) files old new contents
  pub bytes : List ℕ
  pub written : Appends taken taken_now bytes
  pub lawful : P contents bytes

-- The status says which calls failed: some of the source's, then some of the sink's, or none. The counts are the source's
-- before and after the run, and the sink's.
abbrev pub AreFaultsOf : Status → ℕ → ℕ → ℕ → ℕ → Type 0
AreFaultsOf ReadFault source source_now sink sink_now = Rose source source_now × (sink_now ≡ sink)
AreFaultsOf WriteFault source source_now sink sink_now = (source_now ≡ source) × Rose sink sink_now
AreFaultsOf _ source source_now sink sink_now = (source_now ≡ source) × (sink_now ≡ sink)
