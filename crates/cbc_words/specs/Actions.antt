-- The actions, with what each takes of the words behind it.
use Rattle.std.specs.Prelude.{◌≡◌, ◌≢◌, ◌⊎◌, ℕ, ◌-◌, ◌<◌, ◌≤◌, Bool, true, false, ◌&&◌, if◌then◌else◌, nat_le, List, [], ◌∷◌, ◌++◌, length, take, slice_get, codes}
use Rattle.std.specs.Prelude.{Option, Some, None, option_and_then, option_map}
use Rattle.std.specs.Option.{option_map_or}
use Rattle.std.specs.Str.{bytes_eq, all_ascii_digits}
use Rattle.std.specs.Str.Parse.{digits_value}
use Rattle.cbc_words.specs.declared.action.Action.{Action}
use Rattle.cbc_words.specs.declared.action.Action.TheVariants.{Solve, Check, Cover, Replay, Gen}

abbrev pub Text : Type 0
Text = List ℕ

-- one or more ASCII digits
abbrev pub is_decimal : Text → Bool
is_decimal text = nat_le 1 (length text) && all_ascii_digits text

-- ---- the table

-- the text is one or more ASCII digits of this number, which is 1,000,000 at most
abbrev pub IsSmallNumber : Text → ℕ → Type 0
IsSmallNumber text number = (is_decimal text ≡ true) × (digits_value 10 text ≡ number) × (number ≤ 1000000)

-- the action that ACTION and REST stand for: files are one or more, and a tree, a test or a number is one word
abbrev pub IsAction : Text → List Text → Action → Type 0
IsAction word rest (Solve files) = (word ≡ codes "solve") × (rest ≡ files) × (files ≢ [])
IsAction word rest (Check files tree) = (word ≡ codes "check") × (rest ≡ files ++ tree ∷ []) × (files ≢ [])
IsAction word rest (Cover files) = (word ≡ codes "cover") × (rest ≡ files) × (files ≢ [])
IsAction word rest (Replay files test) = (word ≡ codes "replay") × (rest ≡ files ++ test ∷ []) × (files ≢ [])
IsAction word rest (Gen number) = (word ≡ codes "gen") × ((text : Text) × (rest ≡ text ∷ []) × IsSmallNumber text number)

-- the budget that the text behind `--budget` stands for, and 100,000 where there is none
abbrev pub IsBudget : Option Text → ℕ → Type 0
IsBudget (Some text) budget = IsSmallNumber text budget
IsBudget None budget = budget ≡ 100000

-- ---- what isn't in it

-- no digit, another character than a digit, or a number above 1,000,000
abbrev pub IsOutOfForm : Text → Type 0
IsOutOfForm text = (is_decimal text ≡ false) ⊎ (1000000 < digits_value 10 text)

abbrev pub IsUnknown : Text → Type 0
IsUnknown word =
    (word ≢ codes "solve")
    × (word ≢ codes "check")
    × (word ≢ codes "cover")
    × (word ≢ codes "replay")
    × (word ≢ codes "gen")

-- too few words for the action, or for `gen` not one word or none in form
abbrev pub IsWrongRest : Text → List Text → Type 0
IsWrongRest word rest =
    (((word ≡ codes "solve") ⊎ (word ≡ codes "cover")) × (length rest < 1))
    ⊎ ((((word ≡ codes "check") ⊎ (word ≡ codes "replay")) × (length rest < 2))
    ⊎ ((word ≡ codes "gen") × ((length rest ≢ 1) ⊎ ((text : Text) × (rest ≡ text ∷ []) × IsOutOfForm text))))

-- the text behind `--budget` is none in form
abbrev pub IsWrongBudget : Option Text → Type 0
IsWrongBudget text = (t : Text) × (text ≡ Some t) × IsOutOfForm t

-- ---- the table as functions

infixl 10 ◌>>=◌
abbrev pub ◌>>=◌ : {A B : Type 0} → Option A → (A → Option B) → Option B
o >>= f = option_and_then f o

abbrev pub small_number : Text → Option ℕ
small_number text = if is_decimal text && nat_le (digits_value 10 text) 1000000 then Some (digits_value 10 text) else None

abbrev pub some_files : List Text → Option (List Text)
some_files [] = None
some_files (file ∷ files) = Some (file ∷ files)

abbrev pub files_and_last : List Text → Option (List Text × Text)
files_and_last rest = do
  last ← slice_get rest (length rest - 1)
  files ← some_files (take (length rest - 1) rest)
  Some (files, last)

abbrev pub only_number : List Text → Option ℕ
only_number (text ∷ []) = small_number text
only_number _ = None

abbrev pub action_of : Text → List Text → Option Action
action_of word rest =
    if bytes_eq word (codes "solve") then option_map (λ files. Solve files) (some_files rest)
    else (if bytes_eq word (codes "check") then option_map (λ x. Check x.0 x.1) (files_and_last rest)
    else (if bytes_eq word (codes "cover") then option_map (λ files. Cover files) (some_files rest)
    else (if bytes_eq word (codes "replay") then option_map (λ x. Replay x.0 x.1) (files_and_last rest)
    else (if bytes_eq word (codes "gen") then option_map (λ number. Gen number) (only_number rest)
    else None))))

abbrev pub budget_of : Option Text → Option ℕ
budget_of text = option_map_or small_number text (Some 100000)
