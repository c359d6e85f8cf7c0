-- The text of a value, and of values in a row.
use Rattle.std.specs.Prelude.{◌≢◌, ℕ, Bool, true, false, List, [], ◌++◌, map, codes, unwrap_or, slice_get, slice_index, All}
use Rattle.std.specs.List.{join_with_byte}
use Rattle.std.specs.Fmt.{decimal, signed_decimal}
use Rattle.eb_value.specs.declared.value.Value.{Value}
use Rattle.eb_value.specs.declared.value.Form.{Form-F}
use Rattle.eb_value.specs.declared.value.Form.TheOpen as val
use Rattle.eb_value.specs.Values.{by_parts}

abbrev pub truth_text : Bool → List ℕ
truth_text true = codes "TRUE"
truth_text false = codes "FALSE"

-- the name of a carrier set, empty where it has none
abbrev pub name_at : List (List ℕ) → ℕ → List ℕ
name_at names place = unwrap_or (slice_get names place) []

abbrev pub atom_text : List (List ℕ) → ℕ → ℕ → List ℕ
atom_text names place number = name_at names place ++ (codes "#" ++ decimal number)

abbrev pub text_step : List (List ℕ) → Form-F (List ℕ) (List ℕ) → List ℕ
text_step names (val.Int n) = signed_decimal n
text_step names (val.Bool b) = truth_text b
text_step names (val.Atom place k) = atom_text names place k
text_step names (val.Pair a b) = codes "(" ++ (a ++ (codes "|->" ++ (b ++ codes ")")))
text_step names (val.Set members) = codes "{" ++ (join_with_byte 44 members ++ codes "}")

-- no name begins with a closing brace, with which a set ends
abbrev pub AreReadable : List (List ℕ) → Type 0
AreReadable names = All (λ name. slice_index name 0 ≢ 125) names

-- 5, TRUE, S#1, (1|->TRUE), {1,2}
abbrev pub value_text : List (List ℕ) → Value → List ℕ
value_text names = by_parts (List ℕ) (text_step names)

-- the values' texts, a comma between two
abbrev pub values_text : List (List ℕ) → List Value → List ℕ
values_text names vs = join_with_byte 44 (map (value_text names) vs)

-- neither a line feed nor a space nor a closing bracket
abbrev pub StaysInRow : ℕ → Type 0
StaysInRow byte = (byte ≢ 10) × (byte ≢ 32) × (byte ≢ 93)
