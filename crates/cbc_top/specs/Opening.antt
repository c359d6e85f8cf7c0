-- The files that are opened, one after another, and what is read in them.
use Rattle.std.specs.Prelude.{◌≡◌, ⊤, ℕ, List, [], ◌∷◌, ◌++◌, Option, Some}
use Rattle.cbc_outside.specs.Outside.{Files, IsWhole}

-- Each name was opened where it is the next one behind the contents of the files before it, and its own content is the
-- file's bytes, where the source tells its files. For a source that tells nothing, it is just some bytes.
abbrev pub AreRead : (List (List ℕ) → List ℕ → Type 0) → Option Files → List (List ℕ) → List (List ℕ) → List (List ℕ) → Type 0
AreRead IsNext files before [] [] = ⊤
AreRead IsNext files before (name ∷ names) (bytes ∷ contents) =
    IsNext before name × IsWhole files name bytes × AreRead IsNext files (before ++ bytes ∷ []) names contents
AreRead IsNext files before (name ∷ names) [] = ⊥
AreRead IsNext files before [] (bytes ∷ contents) = ⊥

-- These contents were read, and no other file was opened: `old` are the names that were opened before, `new` those now.
pub record HasRead (IsNext : List (List ℕ) → List ℕ → Type 0) (files : Option Files) (old new contents : List (List ℕ)) : Type 0 where
  pub names : List (List ℕ)
  pub opened : new ≡ old ++ names
  pub read : AreRead IsNext files [] names contents

-- The file that was opened last, and was the next one, could not be read. It is the one that is blamed.
pub record HasFailed (IsNext : List (List ℕ) → List ℕ → Type 0) (files : Option Files) (old new : List (List ℕ)) (blamed : Option (List ℕ)) : Type 0 where
  pub before : List (List ℕ)
  pub contents : List (List ℕ)
  pub read : HasRead IsNext files old before contents
  pub name : List ℕ
  pub next : IsNext contents name
  pub opened : new ≡ before ++ name ∷ []
  pub is_blamed : blamed ≡ Some name
