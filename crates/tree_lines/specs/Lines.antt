-- How a text is read as a line, for a problem in a scope.
use Rattle.std.specs.Prelude.{◌≡◌, ⊤, ℕ, ◌<◌, ◌≤◌, Bool, true, false, ◌&&◌, List, length, Option, Some, None, Result, Ok, Err}
use Rattle.eb_value.specs.declared.scope.Scope.{Scope}
use Rattle.eb_value.specs.declared.types.EbType.{EbType, out-EbType}
use Rattle.eb_value.specs.declared.types.Shape.{Shape, Shape-F, out-Shape}
use Rattle.eb_value.specs.declared.types.Shape.TheOpen as ty
use Rattle.eb_value.specs.declared.value.Value.{Value}
use Rattle.eb_value.specs.Texts.{values_text}
use Rattle.eb_value.specs.Typing.{in_range, has_type}
use Rattle.eb_term.specs.declared.problem.Problem.{Problem}
use Rattle.eb_term.specs.Typed.{part_type_at}
use Rattle.occ_domains.specs.declared.tests.Test.{Test}
use Rattle.occ_domains.specs.declared.tests.Test.TheVariants as test
use Rattle.occurrences.specs.declared.place.Place.{Place}
use Rattle.occurrences.specs.declared.place.Place.TheVariants as place
use Rattle.occurrences.specs.declared.place.Occurrence.{Occurrence}
use Rattle.occurrences.specs.Occurrences.{Occurs}
use Rattle.occurrences.specs.Targets.{target}
use Rattle.occurrences.specs.Typed.{type_there}
use Rattle.tree_lines.specs.declared.line.Line.{Line}
use Rattle.tree_lines.specs.declared.line.Line.TheVariants as line
use Rattle.tree_lines.specs.declared.line.LineFault.{LineFault}
use Rattle.tree_lines.specs.declared.line.LineFault.TheVariants.{BadLine, NoSuchOccurrence, BadTest, Memory}
use Rattle.tree_lines.specs.Words.{line_text, test_text, is_header}
use Rattle.tree_lines.specs.Written.{Written, narrow, split, clash, eval, asked_text, written_text, is_small, is_written}

-- What a line is read by: the scope, the problem, and the names of the carrier sets.
pub record Reader : Type 0 where
  pub scope : Scope
  pub problem : Problem
  pub names : List (List ℕ)

abbrev pub reader : Scope → Problem → List (List ℕ) → Reader
reader scope problem names = record { scope = scope; problem = problem; names = names }

-- The text is one of the line: a header has many, any other line just its own.
abbrev pub IsLine : List (List ℕ) → List ℕ → Line → Type 0
IsLine names text line.Header = is_header text ≡ true
IsLine names text line = text ≡ line_text names line

abbrev pub place_number : Place → ℕ
place_number (place.Choice k) = k
place_number (place.Definition k) = k
place_number (place.Node k) = k

abbrev pub has_small_test : Test → Bool
has_small_test (test.AtMost path n) = in_range n
has_small_test _ = true

-- its numbers lie within -2^62..2^62
abbrev pub has_small_numbers : Line → Bool
has_small_numbers (line.Narrow rule occ) = is_small (place_number occ.place)
has_small_numbers (line.Split occ t) = is_small (place_number occ.place) && has_small_test t
has_small_numbers (line.Clash occ) = is_small (place_number occ.place)
has_small_numbers (line.Eval k) = is_small k
has_small_numbers _ = true

-- ---- what fits

-- the problem has the occurrence
abbrev pub IsThere : Reader → Occurrence → Type 0
IsThere r occ = Occurs r.scope r.problem occ.place occ.bound

-- what the line names is there, and the rule fits the occurrence
abbrev pub NamesWhatIsThere : Reader → Line → Type 0
NamesWhatIsThere r (line.Narrow rule occ) = IsThere r occ × ((to : Place) × (target r.problem rule occ.place ≡ Some to))
NamesWhatIsThere r (line.Split occ t) = IsThere r occ
NamesWhatIsThere r (line.Clash occ) = IsThere r occ
NamesWhatIsThere r (line.Eval k) = k < length r.problem.facts
NamesWhatIsThere r _ = ⊤

abbrev pub is_integer_shape : Shape-F Shape EbType → Bool
is_integer_shape ty.Integer = true
is_integer_shape _ = false

abbrev pub is_plain_shape : Shape-F Shape EbType → Bool
is_plain_shape ty.Bool = true
is_plain_shape (ty.Carrier place) = true
is_plain_shape _ = false

abbrev pub is_integer_type : Option EbType → Bool
is_integer_type None = false
is_integer_type (Some t) = is_integer_shape (out-Shape (out-EbType t).shape)

abbrev pub is_plain_type : EbType → Bool
is_plain_type t = is_plain_shape (out-Shape (out-EbType t).shape)

-- the value is one of BOOL or of a carrier set, and of this type
abbrev pub is_plain_value : Scope → Value → Option EbType → Bool
is_plain_value scope v None = false
is_plain_value scope v (Some t) = is_plain_type t && has_type scope v t

-- Tests of values fit expressions, and those with a path what stands there: integers, or values of BOOL and carrier sets. Tests of
-- truths fit predicates.
abbrev pub fits_type : Scope → Option EbType → Test → Bool
fits_type scope (Some t) (test.AtMost path n) = is_integer_type (part_type_at path t)
fits_type scope (Some t) (test.Is path v) = is_plain_value scope v (part_type_at path t)
fits_type scope (Some t) test.Defined = true
fits_type scope None test.True = true
fits_type scope None test.False = true
fits_type scope None test.Undefined = true
fits_type scope _ _ = false

-- the test fits the type of what stands at the place
abbrev pub fits_place : Reader → Place → Test → Bool
fits_place r at t = fits_type r.scope (type_there r.problem at) t

abbrev pub HasFittingTest : Reader → Line → Type 0
HasFittingTest r (line.Split occ t) = fits_place r occ.place t ≡ true
HasFittingTest r _ = ⊤

-- ---- readings

-- no occurrence of the problem stands at the place with these values in brackets
abbrev pub IsNowhere : Reader → Place → List ℕ → Type 0
IsNowhere r at inside = (bound : List Value) → Occurs r.scope r.problem at bound → values_text r.names bound ≡ inside → ⊥

-- what the line names isn't there, or the rule doesn't fit it
abbrev pub NamesNothing : Reader → Written → Type 0
NamesNothing r (narrow rule at inside) = (bound : List Value) → Occurs r.scope r.problem at bound → values_text r.names bound ≡ inside → target r.problem rule at ≡ None
NamesNothing r (split at inside asked) = IsNowhere r at inside
NamesNothing r (clash at inside) = IsNowhere r at inside
NamesNothing r (eval k) = length r.problem.facts ≤ k
NamesNothing r _ = ⊥

-- the occurrence is there, and no test that is written so fits it
abbrev pub HasNoFittingTest : Reader → Written → Type 0
HasNoFittingTest r (split at inside asked) = ((bound : List Value) × Occurs r.scope r.problem at bound × (values_text r.names bound ≡ inside))
    × ((t : Test) → test_text r.names t ≡ asked_text asked → fits_place r at t ≡ false)
HasNoFittingTest r _ = ⊥

-- The text is written in this form.
abbrev pub IsOf : List ℕ → Written → Type 0
IsOf text w = (text ≡ written_text w) × (is_written w ≡ true)

-- What a text is read as: a line whose text it is, that names what is there and fits it; else its first fault. Want of
-- memory says nothing.
abbrev pub IsReading : Reader → List ℕ → Result Line LineFault → Type 0
IsReading r text (Ok line) = ((w : Written) × IsOf text w) × IsLine r.names text line × (has_small_numbers line ≡ true) × NamesWhatIsThere r line × HasFittingTest r line
IsReading r text (Err BadLine) = (w : Written) → IsOf text w → ⊥
IsReading r text (Err NoSuchOccurrence) = (w : Written) × IsOf text w × NamesNothing r w
IsReading r text (Err BadTest) = (w : Written) × IsOf text w × HasNoFittingTest r w
IsReading r text (Err Memory) = ⊤
