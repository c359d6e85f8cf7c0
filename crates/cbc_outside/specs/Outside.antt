-- What a source or a sink tells of its calls.
use Rattle.std.specs.Prelude.{◌≡◌, ℕ, ◌+◌, ◌-◌, ◌^◌, ◌≤◌, ◌<◌, length, take, min, if◌then◌else◌, List, [], ◌∷◌, Option, Some, None, Result, OnOk, OnErr, MatchResult, ⊤}
use Rattle.std.specs.Str.{bytes_eq}
use Rattle.std.specs.Io.KnownBytes.{Appends}

-- files as pairs of a name and its bytes
abbrev pub Files : Type 0
Files = List (List ℕ × List ℕ)

-- the bytes under a name; of a repeated name the first pair counts
abbrev pub lookup : Files → List ℕ → Option (List ℕ)
lookup [] name = None
lookup (file ∷ files) name = if bytes_eq file.0 name then Some file.1 else lookup files name

-- a count after one more; at its type's end it stands still
abbrev pub count_up : ℕ → ℕ
count_up n = min (n + 1) (2 ^ 64 - 1)

-- the count rose, or stands at its last value
abbrev pub Rose : ℕ → ℕ → Type 0
Rose before now = count_up before ≤ now

-- a call fails only where the count of faults rose in it, and one that doesn't fail leaves the count
pub record HasCause {T E : Type 0} (before now : ℕ) (result : Result T E) : Type 0 where
  pub later : before ≤ now
  pub failed : OnErr result (Rose before now)
  pub kept : OnOk result (now ≡ before)

-- a call that fails makes the fault name that of the file it tried, and one that doesn't fail leaves it
abbrev pub Blames : {T E : Type 0} → Option (List ℕ) → Option (List ℕ) → Option (List ℕ) → Result T E → Type 0
Blames tried before now result = MatchResult result (λ _. now ≡ before) (λ _. now ≡ tried)

-- an opened file is one of the files, and all its bytes are left to read; where the files are told
abbrev pub Opens : Option Files → List ℕ → Option (List ℕ) → Type 0
Opens None name rest = ⊤
Opens (Some files) name None = ⊥
Opens (Some files) name (Some bytes) = lookup files name ≡ Some bytes

-- these are the bytes of the file with this name; where the files are told
abbrev pub IsWhole : Option Files → List ℕ → List ℕ → Type 0
IsWhole None name bytes = ⊤
IsWhole (Some files) name bytes = lookup files name ≡ Some bytes

-- the bytes taken grew by a front of the piece that isn't all of it; where they are told
abbrev pub AppendsFront : Option (List ℕ) → Option (List ℕ) → List ℕ → Type 0
AppendsFront old new piece = (n : ℕ) × (n < length piece) × Appends old new (take n piece)
