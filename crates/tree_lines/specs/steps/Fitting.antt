-- What the parts of a line are, for a problem: a means of proof.
use Rattle.std.specs.Prelude.{◌≡◌, ◌↔◌, ⊤, true, false, if◌then◌else◌, ℕ, List, Option, Some, None, Result, Ok, Err}
use Rattle.eb_value.specs.declared.scope.Scope.{Scope}
use Rattle.eb_value.specs.declared.types.EbType.{EbType}
use Rattle.eb_value.specs.declared.value.Value.{Value}
use Rattle.eb_value.specs.Texts.{values_text}
use Rattle.eb_value.specs.Typing.{AreOfTypes}
use Rattle.eb_term.specs.declared.problem.Problem.{Problem}
use Rattle.occ_domains.specs.declared.tests.Test.{Test}
use Rattle.occurrences.specs.declared.place.Place.{Place}
use Rattle.occurrences.specs.declared.place.Occurrence.{Occurrence}
use Rattle.occurrences.specs.Occurrences.{Occurs}
use Rattle.tree_lines.specs.declared.line.Line.{Line}
use Rattle.tree_lines.specs.declared.line.LineFault.{LineFault}
use Rattle.tree_lines.specs.declared.line.LineFault.TheVariants.{BadLine, NoSuchOccurrence, BadTest, Memory}
use Rattle.tree_lines.specs.Words.{test_text}
use Rattle.tree_lines.specs.Written.{Asked, Written, asked_text, written_text}
use Rattle.tree_lines.specs.Lines.{Reader, IsLine, has_small_test, is_plain_type, has_small_numbers, IsThere, NamesWhatIsThere, fits_type, HasFittingTest, IsNowhere, NamesNothing, HasNoFittingTest}

-- An occurrence at the place has one value of each of these types in brackets; where there are no types, none is there.
abbrev pub HasBinders : Problem → Place → Option (List EbType) → Type 0
HasBinders p at None = (scope : Scope) (bound : List Value) → Occurs scope p at bound → ⊥
HasBinders p at (Some types) = (scope : Scope) (bound : List Value) → Occurs scope p at bound ↔ AreOfTypes scope bound types

-- the occurrence that is written so
abbrev pub IsOccurrence : Reader → Place → List ℕ → Result Occurrence LineFault → Type 0
IsOccurrence r at inside (Ok occ) = (occ.place ≡ at) × (values_text r.names occ.bound ≡ inside) × IsThere r occ
IsOccurrence r at inside (Err NoSuchOccurrence) = IsNowhere r at inside
IsOccurrence r at inside (Err Memory) = ⊤
IsOccurrence r at inside (Err BadLine) = ⊥
IsOccurrence r at inside (Err BadTest) = ⊥

-- the type, if its values are those of BOOL or of a carrier set
abbrev pub plain : Option EbType → Option EbType
plain None = None
plain (Some t) = if is_plain_type t then Some t else None

-- the test that is written so, and fits the type
abbrev pub IsTest : Scope → List (List ℕ) → Option EbType → Asked → Result Test LineFault → Type 0
IsTest scope names ty asked (Ok t) = (test_text names t ≡ asked_text asked) × (has_small_test t ≡ true) × (fits_type scope ty t ≡ true)
IsTest scope names ty asked (Err BadTest) = (t : Test) → test_text names t ≡ asked_text asked → fits_type scope ty t ≡ false
IsTest scope names ty asked (Err Memory) = ⊤
IsTest scope names ty asked (Err BadLine) = ⊥
IsTest scope names ty asked (Err NoSuchOccurrence) = ⊥

-- the line that is written so, and fits the problem
abbrev pub IsFitted : Reader → Written → Result Line LineFault → Type 0
IsFitted r w (Ok line) = IsLine r.names (written_text w) line × (has_small_numbers line ≡ true) × NamesWhatIsThere r line × HasFittingTest r line
IsFitted r w (Err NoSuchOccurrence) = NamesNothing r w
IsFitted r w (Err BadTest) = HasNoFittingTest r w
IsFitted r w (Err Memory) = ⊤
IsFitted r w (Err BadLine) = ⊥
