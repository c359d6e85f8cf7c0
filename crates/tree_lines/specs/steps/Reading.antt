-- The form that a text has, read step by step: a means of proof, which the laws of the crate tie to the forms of lines.
use Rattle.std.specs.Prelude.{ℕ, ◌-◌, Bool, not, ◌&&◌, ◌||◌, ◌==◌, if◌then◌else◌, List, [], ◌∷◌, map, take, drop, length, codes, ℤ, pos, negsuc, Option, Some, None, option_and_then, option_map}
use Rattle.std.specs.List.{prefix_len, list_all}
use Rattle.std.specs.Fmt.{signed_decimal}
use Rattle.std.specs.Str.{bytes_eq}
use Rattle.std.specs.Str.Parse.{signed_digits_value}
use Rattle.eb_value.specs.Typing.{in_range}
use Rattle.eb_term.specs.declared.operators.Side.{Side}
use Rattle.eb_term.specs.declared.operators.Side.TheVariants as side
use Rattle.occurrences.specs.declared.place.Place.{Place}
use Rattle.occurrences.specs.declared.place.Place.TheVariants as place
use Rattle.occurrences.specs.declared.place.Rule.{Rule}
use Rattle.occurrences.specs.declared.place.Rule.TheVariants as rule
use Rattle.tree_lines.specs.Words.{is_header}
use Rattle.tree_lines.specs.Written.{Asked, at_most, is, has, card, says_defined, says_true, says_false, says_undefined, Written, narrow, split, clash, eval, left_open, header, begins, ends, is_word, is_none}

-- ---- numbers

-- the number, where it is in range and the text is its printed form
abbrev pub printed : ℤ → List ℕ → Option ℤ
printed n text = if in_range n && bytes_eq (signed_decimal n) text then Some n else None

abbrev pub integer_of : List ℕ → Option ℤ
integer_of text = printed (signed_digits_value 10 text) text

abbrev pub natural : ℤ → Option ℕ
natural (pos k) = Some k
natural (negsuc k) = None

abbrev pub natural_of : List ℕ → Option ℕ
natural_of text = option_and_then natural (integer_of text)

-- ---- parts of texts

-- what follows the prefix, where the text begins with it
abbrev pub stripped : List ℕ → List ℕ → Option (List ℕ)
stripped prefix text = if bytes_eq (take (length prefix) text) prefix then Some (drop (length prefix) text) else None

-- what stands before the ending, where the text ends with it
abbrev pub unended : List ℕ → List ℕ → Option (List ℕ)
unended ending text = if bytes_eq (drop (length text - length ending) text) ending then Some (take (length text - length ending) text) else None

-- how many bytes stand before the first space
abbrev pub word_length : List ℕ → ℕ
word_length text = prefix_len (λ b. not (b == 32)) text

-- how many bytes stand before the first bracket
abbrev pub number_length : List ℕ → ℕ
number_length text = prefix_len (λ b. not (b == 91)) text

-- a function of the rest where there is one, else the other result
abbrev pub by_rest : {A : Type 0} → Option (List ℕ) → (List ℕ → Option A) → Option A → Option A
by_rest None f other = other
by_rest (Some rest) f other = f rest

-- ---- places

abbrev pub some_word : List ℕ → Option (List ℕ)
some_word text = if not (is_none text) && is_word text then Some text else None

-- what stands in brackets, behind a node's number
abbrev pub inside_of : List ℕ → Option (List ℕ)
inside_of [] = Some []
inside_of (b ∷ bs) = option_and_then some_word (option_and_then (unended (codes "]")) (stripped (codes "[") (b ∷ bs)))

abbrev pub node_with : Option ℕ → Option (List ℕ) → Option (Place × List ℕ)
node_with None inside = None
node_with (Some k) None = None
node_with (Some k) (Some inside) = Some (place.Node k, inside)

-- after `p`
abbrev pub node_of : List ℕ → Option (Place × List ℕ)
node_of text = node_with (natural_of (take (number_length text) text)) (inside_of (drop (number_length text) text))

-- after `c` and after `d`
abbrev pub choice_of : List ℕ → Option (Place × List ℕ)
choice_of text = option_map (λ k. (place.Choice k, [])) (natural_of text)

abbrev pub definition_of : List ℕ → Option (Place × List ℕ)
definition_of text = option_map (λ k. (place.Definition k, [])) (natural_of text)

-- a place and what stands in brackets behind it
abbrev pub located_of : List ℕ → Option (Place × List ℕ)
located_of text = by_rest (stripped (codes "c") text) choice_of (by_rest (stripped (codes "d") text) definition_of (by_rest (stripped (codes "p") text) node_of None))

-- ---- tests

abbrev pub is_of_sides : List ℕ → Bool
is_of_sides word = list_all (λ b. (b == 49) || (b == 50)) word

-- a word of `1` and `2`, or `-`
abbrev pub is_path : List ℕ → Bool
is_path word = bytes_eq word (codes "-") || (not (is_none word) && is_of_sides word)

abbrev pub side_of : ℕ → Side
side_of b = if b == 49 then side.First else side.Second

-- the path of such a word
abbrev pub sides : List ℕ → List Side
sides word = if bytes_eq word (codes "-") then [] else map side_of word

abbrev pub path_with : List ℕ → Option (List ℕ) → Option (List ℕ × List ℕ)
path_with word None = None
path_with word (Some rest) = if is_path word then Some (word, rest) else None

-- a path's word and what stands behind it and a space
abbrev pub path_of : List ℕ → Option (List ℕ × List ℕ)
path_of text = path_with (take (word_length text) text) (stripped (codes " ") (drop (word_length text) text))

-- a path's word and a number
abbrev pub numbered_of : List ℕ → Option (List ℕ × ℤ)
numbered_of text = option_and_then (λ x. option_map (λ n. (x.0, n)) (integer_of x.1)) (path_of text)

-- a path's word and a word
abbrev pub worded_of : List ℕ → Option (List ℕ × List ℕ)
worded_of text = option_and_then (λ x. if is_word x.1 then Some (x.0, x.1) else None) (path_of text)

abbrev pub numbered : (List Side → ℤ → Asked) → List ℕ → Option Asked
numbered make text = option_map (λ x. make (sides x.0) x.1) (numbered_of text)

abbrev pub worded : (List Side → List ℕ → Asked) → List ℕ → Option Asked
worded make text = option_map (λ x. make (sides x.0) x.1) (worded_of text)

abbrev pub value_test_of : List ℕ → Option Asked
value_test_of text = by_rest (stripped (codes "le ") text) (numbered at_most) (by_rest (stripped (codes "is ") text) (worded is)
    (by_rest (stripped (codes "has ") text) (worded has) (by_rest (stripped (codes "card ") text) (numbered card) None)))

abbrev pub test_of : List ℕ → Option Asked
test_of text = if bytes_eq text (codes "def") then Some says_defined
    else if bytes_eq text (codes "true") then Some says_true
    else if bytes_eq text (codes "false") then Some says_false
    else if bytes_eq text (codes "undef") then Some says_undefined
    else value_test_of text

-- ---- lines

abbrev pub split_with : Option (Place × List ℕ) → Option Asked → Option Written
split_with None asked = None
split_with (Some x) None = None
split_with (Some x) (Some asked) = Some (split x.0 x.1 asked)

-- after `s `
abbrev pub split_of : List ℕ → Option Written
split_of text = split_with (located_of (take (word_length text) text)) (option_and_then test_of (stripped (codes " ") (drop (word_length text) text)))

-- after `x `
abbrev pub clash_of : List ℕ → Option Written
clash_of text = option_map (λ x. clash x.0 x.1) (located_of text)

-- after `e `
abbrev pub eval_of : List ℕ → Option Written
eval_of text = option_map eval (natural_of text)

-- after a rule's letter and a space
abbrev pub narrowed_of : Rule → List ℕ → Option Written
narrowed_of rule text = option_map (λ x. narrow rule x.0 x.1) (located_of text)

abbrev pub narrow_of : List ℕ → Option Written
narrow_of text = by_rest (stripped (codes "u ") text) (narrowed_of rule.Up) (by_rest (stripped (codes "d ") text) (narrowed_of rule.Down)
    (by_rest (stripped (codes "r ") text) (narrowed_of rule.Refer) None))

-- lines without numbers
abbrev pub word_of : List ℕ → Option Written
word_of text = if is_header text then Some (header text)
    else if bytes_eq text (codes "tree 1") then Some begins
    else if bytes_eq text (codes "end") then Some ends
    else if bytes_eq text (codes "o") then Some left_open
    else None

abbrev pub by_prefix : List ℕ → Option Written
by_prefix text = by_rest (stripped (codes "s ") text) split_of (by_rest (stripped (codes "x ") text) clash_of (by_rest (stripped (codes "e ") text) eval_of (narrow_of text)))

abbrev pub or_written : Option Written → Option Written → Option Written
or_written (Some w) other = Some w
or_written None other = other

-- the form that the text has
abbrev pub written_of : List ℕ → Option Written
written_of text = or_written (word_of text) (by_prefix text)
