-- The texts of lines: places, occurrences, paths and tests.
use Rattle.std.specs.Prelude.{ℕ, Bool, ◌||◌, nat_eq, List, [], ◌∷◌, ◌++◌, codes, decimal}
use Rattle.std.specs.List.{starts_with}
use Rattle.std.specs.Fmt.{signed_decimal}
use Rattle.std.specs.Str.{bytes_eq}
use Rattle.eb_value.specs.declared.value.Value.{Value}
use Rattle.eb_value.specs.Texts.{value_text, values_text}
use Rattle.eb_term.specs.declared.operators.Side.{Side}
use Rattle.eb_term.specs.declared.operators.Side.TheVariants as side
use Rattle.occ_domains.specs.declared.tests.Test.{Test}
use Rattle.occ_domains.specs.declared.tests.Test.TheVariants as test
use Rattle.occurrences.specs.declared.place.Place.{Place}
use Rattle.occurrences.specs.declared.place.Place.TheVariants as place
use Rattle.occurrences.specs.declared.place.Rule.{Rule}
use Rattle.occurrences.specs.declared.place.Rule.TheVariants as rule
use Rattle.tree_lines.specs.declared.line.Line.{Line}
use Rattle.tree_lines.specs.declared.line.Line.TheVariants as line

abbrev pub rule_text : Rule → List ℕ
rule_text rule.Up = codes "u "
rule_text rule.Down = codes "d "
rule_text rule.Refer = codes "r "

abbrev pub place_text : Place → List ℕ
place_text (place.Choice k) = codes "c" ++ decimal k
place_text (place.Definition k) = codes "d" ++ decimal k
place_text (place.Node k) = codes "p" ++ decimal k

-- nothing, or a text in brackets
abbrev pub bracketed : List ℕ → List ℕ
bracketed [] = []
bracketed (b ∷ bs) = codes "[" ++ ((b ∷ bs) ++ codes "]")

-- a place with what stands in brackets behind it: c0, d1, p7, p7[1,S#2]
abbrev pub located : Place → List ℕ → List ℕ
located at inside = place_text at ++ bracketed inside

abbrev pub side_letter : Side → ℕ
side_letter side.First = 49
side_letter side.Second = 50

abbrev pub letters : List Side → List ℕ
letters [] = []
letters (s ∷ path) = side_letter s ∷ letters path

-- a path into pairs as a word of `1` and `2`, or `-` for none
abbrev pub path_text : List Side → List ℕ
path_text [] = codes "-"
path_text (s ∷ path) = letters (s ∷ path)

abbrev pub test_text : List (List ℕ) → Test → List ℕ
test_text names (test.AtMost path n) = codes "le " ++ (path_text path ++ (codes " " ++ signed_decimal n))
test_text names (test.Is path v) = codes "is " ++ (path_text path ++ (codes " " ++ value_text names v))
test_text names test.Defined = codes "def"
test_text names test.True = codes "true"
test_text names test.False = codes "false"
test_text names test.Undefined = codes "undef"

-- a place with the values of the binders around it
abbrev pub occurrence_text : List (List ℕ) → Place → List Value → List ℕ
occurrence_text names at bound = located at (values_text names bound)

-- the text of a line, by the names of the carrier sets; a header's is `refuted`
abbrev pub line_text : List (List ℕ) → Line → List ℕ
line_text names (line.Narrow rule occ) = rule_text rule ++ occurrence_text names occ.place occ.bound
line_text names (line.Split occ t) = codes "s " ++ (occurrence_text names occ.place occ.bound ++ (codes " " ++ test_text names t))
line_text names (line.Clash occ) = codes "x " ++ occurrence_text names occ.place occ.bound
line_text names (line.Eval k) = codes "e " ++ decimal k
line_text names line.Open = codes "o"
line_text names line.Header = codes "refuted"
line_text names line.Begin = codes "tree 1"
line_text names line.End = codes "end"

-- a text that may stand before the tree
abbrev pub is_header : List ℕ → Bool
is_header text = bytes_eq text (codes "refuted") || starts_with nat_eq text (codes "query ")
    || starts_with nat_eq text (codes "note ") || starts_with nat_eq text (codes "undecided ")
