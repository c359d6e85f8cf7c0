-- The files of a model, and the text that they are together.
use Rattle.std.specs.Prelude.{◌≡◌, ℕ, ◌≤◌, ◌<◌, List, [], ◌∷◌, ◌++◌, length, slice_get, Some}

-- bytes behind a line feed, one after another
abbrev pub lines_on : List (List ℕ) → List ℕ
lines_on [] = []
lines_on (bytes ∷ contents) = 10 ∷ (bytes ++ lines_on contents)

-- the bytes of some files, with one line feed between two
abbrev pub joined : List (List ℕ) → List ℕ
joined [] = []
joined (bytes ∷ contents) = bytes ++ lines_on contents

-- they are at most 4 MiB
abbrev pub Fit : List (List ℕ) → Type 0
Fit contents = length (joined contents) ≤ 4194304

-- The files with these names are opened in their order: where those that were read fit, the next is the one whose
-- place is their number.
abbrev pub IsNextOf : List (List ℕ) → List (List ℕ) → List ℕ → Type 0
IsNextOf names contents name = Fit contents × (slice_get names (length contents) ≡ Some name)

-- all of the files were read, and they fit
abbrev pub AreAll : List (List ℕ) → List (List ℕ) → Type 0
AreAll names contents = (length contents ≡ length names) × Fit contents

-- Some of the files were read, or all, and they don't fit. Since none is opened behind such files, it is the last one
-- that passes the limit.
abbrev pub AreTooLong : List (List ℕ) → List (List ℕ) → Type 0
AreTooLong names contents = (length contents ≤ length names) × (4194304 < length (joined contents))
