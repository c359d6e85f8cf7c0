-- Lines of a refutation tree, their texts, and how a text is read.
use Rattle.std.specs.Prelude.{◌≡◌, ℕ, Bool, true, false, ◌&&◌, ◌||◌, nat_le, nat_lt, nat_eq, List, ◌++◌, length, codes, decimal, Result, Ok, Err}
use Rattle.std.specs.List.{starts_with}
use Rattle.std.specs.Fmt.{signed_decimal}
use Rattle.std.specs.Str.{bytes_eq}
use Rattle.eb_value.specs.declared.types.EbType.{EbType, out-EbType}
use Rattle.eb_value.specs.declared.types.Shape.{Shape, Shape-F, out-Shape}
use Rattle.eb_value.specs.declared.types.Shape.TheOpen as ty
use Rattle.eb_value.specs.Typing.{in_range}
use Rattle.eb_term.specs.declared.problem.Choice.{Choice}
use Rattle.eb_term.specs.declared.problem.Problem.{Problem}
use Rattle.tree_form.specs.declared.line.Line.{Line}
use Rattle.tree_form.specs.declared.line.Line.TheVariants as line
use Rattle.tree_form.specs.declared.line.LineFault.{LineFault}
use Rattle.tree_form.specs.declared.line.LineFault.TheVariants.{BadLine, NoSuchOccurrence, BadTest}
use Rattle.occ_store.specs.Places.{has_at}

abbrev pub line_text : Line → List ℕ
line_text (line.Split k n) = codes "s c" ++ (decimal k ++ (codes " le - " ++ signed_decimal n))
line_text (line.Clash k) = codes "x c" ++ decimal k
line_text (line.Eval k) = codes "e " ++ decimal k
line_text line.Open = codes "o"
line_text line.Header = codes "refuted"
line_text line.Begin = codes "tree 1"
line_text line.End = codes "end"

-- a text that may stand before the tree
abbrev pub is_header : List ℕ → Bool
is_header text = bytes_eq text (codes "refuted") || starts_with nat_eq text (codes "query ")
    || starts_with nat_eq text (codes "note ") || starts_with nat_eq text (codes "undecided ")

-- at most 2^62
abbrev pub is_small : ℕ → Bool
is_small k = nat_le k 4611686018427387904

-- its numbers lie within -2^62 .. 2^62
abbrev pub has_small_numbers : Line → Bool
has_small_numbers (line.Split k n) = is_small k && in_range n
has_small_numbers (line.Clash k) = is_small k
has_small_numbers (line.Eval k) = is_small k
has_small_numbers _ = true

-- The text is one of the line: a header has many, any other line just its own.
abbrev pub IsLine : List ℕ → Line → Type 0
IsLine text line.Header = is_header text ≡ true
IsLine text line = (text ≡ line_text line) × (has_small_numbers line ≡ true)

-- the choice or the fact that the line names is one of the problem
abbrev pub is_there : Problem → Line → Bool
is_there problem (line.Split k n) = nat_lt k (length problem.choices)
is_there problem (line.Clash k) = nat_lt k (length problem.choices)
is_there problem (line.Eval k) = nat_lt k (length problem.facts)
is_there problem _ = true

abbrev pub is_integer_shape : Shape-F Shape EbType → Bool
is_integer_shape ty.Integer = true
is_integer_shape _ = false

-- its values are integers
abbrev pub has_integers : Choice → Bool
has_integers choice = is_integer_shape (out-Shape (out-EbType choice.ty).shape)

-- the test fits the type of its choice
abbrev pub fits_type : Problem → Line → Bool
fits_type problem (line.Split k n) = has_at has_integers k problem.choices
fits_type problem _ = true

-- What a text is read as, for a problem: a line that names what is there and fits it, else its first
-- fault.
abbrev pub IsReading : Problem → List ℕ → Result Line LineFault → Type 0
IsReading problem text (Ok line) = IsLine text line × (is_there problem line ≡ true) × (fits_type problem line ≡ true)
IsReading problem text (Err BadLine) = (line : Line) → IsLine text line → ⊥
IsReading problem text (Err NoSuchOccurrence) = (line : Line) × IsLine text line × (is_there problem line ≡ false)
IsReading problem text (Err BadTest) = (line : Line) × IsLine text line × (is_there problem line ≡ true) × (fits_type problem line ≡ false)
