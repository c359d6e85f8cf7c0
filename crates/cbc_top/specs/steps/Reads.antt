-- What reading the files of a model, or a tree's file, gives. No public clause names this.
use Rattle.std.specs.Prelude.{◌≡◌, ◌⊎◌, ℕ, ◌≤◌, ◌<◌, ◌==◌, if◌then◌else◌, List, [], ◌∷◌, ◌++◌, length, Option, Some, Result, Ok, Err}
use Rattle.cbc_outside.specs.Outside.{Files, IsWhole, Rose}
use Rattle.cbc_outside.specs.declared.streams.ReadStop.{ReadStop}
use Rattle.cbc_outside.specs.declared.streams.ReadStop.TheVariants as reading
use Rattle.model_text.specs.declared.refusal.Refusal.{Refusal}
use Rattle.model_text.specs.declared.refusal.Refusal.TheVariants.{TooLong, NotYet}
use Rattle.cbc_top.specs.declared.stop.Stop.{Stop}
use Rattle.cbc_top.specs.declared.stop.Stop.TheVariants as stop
use Rattle.model_text.specs.declared.asked.Asked.{Asked}
use Rattle.model_text.specs.declared.asked.Wanted.{Wanted}
use Rattle.model_text.specs.Texts.{IsText, RefusesText}
use Rattle.cbc_top.specs.ModelFiles.{joined, IsNextOf, AreAll, AreTooLong}
use Rattle.cbc_top.specs.Opening.{HasRead, HasFailed}

-- bytes with what stands before the file at a place: a line feed, if it isn't the first
abbrev pub separated : ℕ → List ℕ → List ℕ
separated place bytes = if place == 0 then bytes else bytes ++ 10 ∷ []

-- one file's bytes behind others: they fit, or not
abbrev pub Adds : Option Files → List ℕ → List ℕ → List ℕ → Option (List ℕ) → Result Unit ReadStop → Type 0
Adds files name before now blamed (Ok done) = (bytes : List ℕ) × IsWhole files name bytes × (now ≡ before ++ bytes) × (length now ≤ 4194304)
Adds files name before now blamed (Err reading.TooLong) = (bytes : List ℕ) × IsWhole files name bytes × (4194304 < length (before ++ bytes))
Adds files name before now blamed (Err reading.Failed) = blamed ≡ Some name
Adds files name before now blamed (Err reading.Memory) = (bytes : List ℕ) × IsWhole files name bytes

-- some files of a model were read, and no other
abbrev pub ReadsSome : List (List ℕ) → Option Files → List (List ℕ) → List (List ℕ) → Type 0
ReadsSome names files old new = (contents : List (List ℕ)) × HasRead (IsNextOf names) files old new contents

-- so many files of a model were read, and these are their bytes
pub record HasJoined (names : List (List ℕ)) (files : Option Files) (old new : List (List ℕ)) (count : ℕ) (bytes : List ℕ) : Type 0 where
  pub contents : List (List ℕ)
  pub read : HasRead (IsNextOf names) files old new contents
  pub number : length contents ≡ count
  pub are : bytes ≡ joined contents
  pub fit : length bytes ≤ 4194304

-- the bytes of a model's files, or why they aren't had
abbrev pub Joins : List (List ℕ) → Option Files → List (List ℕ) → List (List ℕ) → Option (List ℕ) → Result (List ℕ) ReadStop → Type 0
Joins names files old new blamed (Ok bytes) = HasJoined names files old new (length names) bytes
Joins names files old new blamed (Err reading.TooLong) = (contents : List (List ℕ)) × HasRead (IsNextOf names) files old new contents × AreTooLong names contents
Joins names files old new blamed (Err reading.Failed) = HasFailed (IsNextOf names) files old new blamed
Joins names files old new blamed (Err reading.Memory) = ReadsSome names files old new

-- why a model is refused
abbrev pub RefusesModel : Wanted → List (List ℕ) → List (List ℕ) → Refusal → Type 0
RefusesModel wanted names contents refusal = (AreAll names contents × RefusesText wanted (joined contents) refusal) ⊎ (AreTooLong names contents × (refusal ≡ TooLong))

-- what the files of a model ask, or why it isn't had
abbrev pub ReadsModel : Wanted → List (List ℕ) → Option Files → List (List ℕ) → List (List ℕ) → Option (List ℕ) → Result Asked Stop → Type 0
ReadsModel wanted names files old new blamed (Ok a) = (contents : List (List ℕ)) × HasRead (IsNextOf names) files old new contents × AreAll names contents × IsText wanted (joined contents) a
ReadsModel wanted names files old new blamed (Err (stop.Refused refusal)) = (contents : List (List ℕ)) × HasRead (IsNextOf names) files old new contents × RefusesModel wanted names contents refusal
ReadsModel wanted names files old new blamed (Err stop.ReadFault) = HasFailed (IsNextOf names) files old new blamed
ReadsModel wanted names files old new blamed (Err stop.Memory) = ReadsSome names files old new

-- the text of a tree's file, or why it isn't had
abbrev pub ReadsTree : Option Files → List ℕ → Option (List ℕ) → Result (List ℕ) Stop → Type 0
ReadsTree files name blamed (Ok tree) = IsWhole files name tree × (length tree ≤ 16777216)
ReadsTree files name blamed (Err (stop.Refused refusal)) = (tree : List ℕ) × IsWhole files name tree × (16777216 < length tree) × (refusal ≡ NotYet)
ReadsTree files name blamed (Err stop.ReadFault) = blamed ≡ Some name
ReadsTree files name blamed (Err stop.Memory) = (tree : List ℕ) × IsWhole files name tree

-- a file that can't be read is a fault of the source, and nothing else is
abbrev pub IsFaultOfReading : {T : Type 0} → Result T ReadStop → ℕ → ℕ → Type 0
IsFaultOfReading (Err reading.Failed) old new = Rose old new
IsFaultOfReading (Err reading.TooLong) old new = new ≡ old
IsFaultOfReading (Err reading.Memory) old new = new ≡ old
IsFaultOfReading (Ok v) old new = new ≡ old

abbrev pub IsFaultOf : {T : Type 0} → Result T Stop → ℕ → ℕ → Type 0
IsFaultOf (Err stop.ReadFault) old new = Rose old new
IsFaultOf (Err (stop.Refused refusal)) old new = new ≡ old
IsFaultOf (Err stop.Memory) old new = new ≡ old
IsFaultOf (Ok v) old new = new ≡ old
