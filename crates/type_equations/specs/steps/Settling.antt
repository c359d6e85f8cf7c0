-- How the numbers are settled, parts first.
use Rattle.std.specs.Prelude.{◌≡◌, ⊤, ℕ, ◌+◌, ◌*◌, ◌<◌, ◌≤◌, Bool, true, false, cond, Option, Some, None, List, [], ◌∷◌, length, get_or, ◌⊎◌}
use Rattle.eb_value.specs.declared.types.EbType.{EbType}
use Rattle.eb_value.specs.Types.{integer, boolean}
use Rattle.type_equations.specs.declared.store.Entry.{Entry}
use Rattle.type_equations.specs.declared.store.Entry.TheVariants as entry
use Rattle.type_equations.specs.declared.marks.Mark.{Mark}
use Rattle.type_equations.specs.declared.marks.Mark.TheVariants.{Fresh, Begun, Fixed, Loose}
use Rattle.type_equations.specs.Stores.{Agrees}
use Rattle.type_equations.specs.Solutions.{written, type_at, AreSolved}
use Rattle.type_equations.specs.steps.Sizes.{weight}

-- the number's mark
abbrev pub mark_at : List Mark → ℕ → Mark
mark_at marks number = get_or marks number Fresh

abbrev pub is_settled : Mark → Bool
is_settled Fresh = false
is_settled Begun = false
is_settled Fixed = true
is_settled Loose = true

abbrev pub fresh_of : Mark → ℕ
fresh_of Fresh = 1
fresh_of Begun = 0
fresh_of Fixed = 0
fresh_of Loose = 0

abbrev pub settled_of : Mark → ℕ
settled_of Fresh = 0
settled_of Begun = 0
settled_of Fixed = 1
settled_of Loose = 1

abbrev pub total_of : (Mark → ℕ) → List Mark → ℕ
total_of f [] = 0
total_of f (m ∷ ms) = f m + total_of f ms

-- how many are fresh
abbrev pub fresh_count : List Mark → ℕ
fresh_count marks = total_of fresh_of marks

-- how many are settled
abbrev pub settled_count : List Mark → ℕ
settled_count marks = total_of settled_of marks

-- the part, where it isn't settled
abbrev pub pending : List Mark → ℕ → Option ℕ
pending marks part = cond (is_settled (mark_at marks part)) None (Some part)

abbrev pub or_else : Option ℕ → Option ℕ → Option ℕ
or_else None other = other
or_else (Some part) other = Some part

-- the first part of the entry that isn't settled
abbrev pub unsettled : List Mark → Entry → Option ℕ
unsettled marks (entry.Link other) = pending marks other
unsettled marks (entry.Product first second) = or_else (pending marks first) (pending marks second)
unsettled marks (entry.Power members) = pending marks members
unsettled marks _ = None

abbrev pub both : Mark → Mark → Mark
both Fixed Fixed = Fixed
both first second = Loose

-- the mark of a number with the entry, by those of its parts
abbrev pub mark_of : List Mark → Entry → Mark
mark_of marks entry.Free = Loose
mark_of marks (entry.Link other) = mark_at marks other
mark_of marks (entry.Product first second) = both (mark_at marks first) (mark_at marks second)
mark_of marks (entry.Power members) = mark_at marks members
mark_of marks _ = Fixed

-- the number's type is the same from so many levels on
abbrev pub IsStable : EbType → List Entry → ℕ → ℕ → Type 0
IsStable u entries n number = (m : ℕ) → n ≤ m → written u entries m number ≡ written u entries n number

-- the number is on the path
abbrev pub IsOn : List ℕ → ℕ → Type 0
IsOn [] y = ⊥
IsOn (x ∷ xs) y = (y ≡ x) ⊎ IsOn xs y

-- each number on the path weighs more than those behind it
abbrev pub Falls : (ℕ → ℕ) → List ℕ → Type 0
Falls size [] = ⊤
Falls size (x ∷ xs) = ((y : ℕ) → IsOn xs y → size y < size x) × Falls size xs

-- What is so of a settled number: fixed ones have one type, loose ones have several.
pub record Knows (entries : List Entry) (marks : List Mark) : Type 0 where
  pub fixed : (number : ℕ) → mark_at marks number ≡ Fixed → (σ : ℕ → EbType) → Agrees σ entries → σ number ≡ type_at integer entries number
  pub loose : (number : ℕ) → mark_at marks number ≡ Loose → type_at integer entries number ≡ type_at boolean entries number → ⊥

-- What is so on the way: begun numbers are on the path, where each weighs less than the one before it in all types that
-- agree, and what is settled stays so.
pub record IsOnWay (entries : List Entry) (marks : List Mark) (path : List ℕ) : Type 0 where
  pub count : length marks ≡ length entries
  pub begun : (number : ℕ) → mark_at marks number ≡ Begun → IsOn path number
  pub within : (number : ℕ) → IsOn path number → number < length entries
  pub falls : (σ : ℕ → EbType) → Agrees σ entries → Falls (weight σ (length entries)) path
  pub stable : (number : ℕ) → is_settled (mark_at marks number) ≡ true → (u : EbType) → IsStable u entries (settled_count marks) number
  pub knows : Knows entries marks

-- no number is fresh again
abbrev pub KeepsBegun : List Mark → List Mark → Type 0
KeepsBegun before after = (number : ℕ) → mark_at after number ≡ Fresh → mark_at before number ≡ Fresh

-- a step on the way
pub record Goes (entries : List Entry) (marks : List Mark) (path : List ℕ) (after : List Mark) (path_after : List ℕ) : Type 0 where
  pub way : IsOnWay entries after path_after
  pub keeps : KeepsBegun marks after
  pub fewer : 2 * fresh_count after + length path_after < 2 * fresh_count marks + (length path + 1)

-- each number is settled
pub record AreSettled (entries : List Entry) (marks : List Mark) : Type 0 where
  pub solved : (u : EbType) → AreSolved u entries
  pub knows : Knows entries marks
  pub each : (number : ℕ) → number < length entries → (mark_at marks number ≡ Fixed → ⊥) → mark_at marks number ≡ Loose

-- there are so many marks, and all are fresh
pub record AreFresh (total : ℕ) (marks : List Mark) : Type 0 where
  pub count : length marks ≡ total
  pub fresh : (number : ℕ) → mark_at marks number ≡ Fresh

-- no types agree with the entries
abbrev pub Circular : List Entry → Type 0
Circular entries = (σ : ℕ → EbType) → Agrees σ entries → ⊥

-- the number isn't fresh any more, and no others are fresh again
pub record Settles (entries : List Entry) (number : ℕ) (marks after : List Mark) (path : List ℕ) : Type 0 where
  pub way : IsOnWay entries after path
  pub idle : path ≡ []
  pub keeps : KeepsBegun marks after
  pub begun : mark_at after number ≡ Fresh → ⊥

-- the numbers below that many are fixed
abbrev pub AreFixed : ℕ → List Mark → Type 0
AreFixed asked marks = (number : ℕ) → number < asked → mark_at marks number ≡ Fixed

-- the number is below that many, and isn't fixed
pub record IsLoose (asked : ℕ) (marks : List Mark) (number : ℕ) : Type 0 where
  pub below : number < asked
  pub loose : mark_at marks number ≡ Fixed → ⊥
