-- A text, read step by step: a means of proof, which the laws of the crate tie to the definition of a
-- reading.
use Rattle.std.specs.Prelude.{ℕ, not, ◌&&◌, ◌==◌, if◌then◌else◌, List, take, drop, length, codes, ℤ, pos, negsuc, Option, Some, None, option_and_then, Result, Ok, Err}
use Rattle.std.specs.List.{prefix_len}
use Rattle.std.specs.Fmt.{signed_decimal}
use Rattle.std.specs.Str.{bytes_eq}
use Rattle.std.specs.Str.Parse.{signed_digits_value}
use Rattle.eb_value.specs.Typing.{in_range}
use Rattle.eb_term.specs.declared.problem.Problem.{Problem}
use Rattle.tree_form.specs.declared.line.Line.{Line}
use Rattle.tree_form.specs.declared.line.Line.TheVariants as line
use Rattle.tree_form.specs.declared.line.LineFault.{LineFault}
use Rattle.tree_form.specs.declared.line.LineFault.TheVariants.{BadLine, NoSuchOccurrence, BadTest}
use Rattle.tree_form.specs.Lines.{is_header, is_there, fits_type}

-- the number, where it is in range and the text is its printed form
abbrev pub printed : ℤ → List ℕ → Option ℤ
printed n text = if in_range n && bytes_eq (signed_decimal n) text then Some n else None

abbrev pub integer_of : List ℕ → Option ℤ
integer_of text = printed (signed_digits_value 10 text) text

abbrev pub natural : ℤ → Option ℕ
natural (pos k) = Some k
natural (negsuc k) = None

abbrev pub natural_of : List ℕ → Option ℕ
natural_of text = option_and_then natural (integer_of text)

-- what follows the prefix, where the text begins with it
abbrev pub stripped : List ℕ → List ℕ → Option (List ℕ)
stripped prefix text = if bytes_eq (take (length prefix) text) prefix then Some (drop (length prefix) text) else None

-- how many bytes stand before the first space
abbrev pub word_length : List ℕ → ℕ
word_length text = prefix_len (λ b. not (b == 32)) text

abbrev pub split_with : Option ℕ → Option ℤ → Option Line
split_with None n = None
split_with (Some k) None = None
split_with (Some k) (Some n) = Some (line.Split k n)

-- after `s c`
abbrev pub split_of : List ℕ → Option Line
split_of text = split_with (natural_of (take (word_length text) text)) (option_and_then integer_of (stripped (codes " le - ") (drop (word_length text) text)))

-- after `x c`
abbrev pub clash_of : List ℕ → Option Line
clash_of text = option_and_then (λ k. Some (line.Clash k)) (natural_of text)

-- after `e `
abbrev pub eval_of : List ℕ → Option Line
eval_of text = option_and_then (λ k. Some (line.Eval k)) (natural_of text)

-- lines without numbers
abbrev pub word_of : List ℕ → Option Line
word_of text = if is_header text then Some line.Header
    else if bytes_eq text (codes "tree 1") then Some line.Begin
    else if bytes_eq text (codes "end") then Some line.End
    else if bytes_eq text (codes "o") then Some line.Open
    else None

-- a function of the rest where there is one, else the other line
abbrev pub by_rest : Option (List ℕ) → (List ℕ → Option Line) → Option Line → Option Line
by_rest None f other = other
by_rest (Some rest) f other = f rest

abbrev pub by_prefix : List ℕ → Option Line
by_prefix text = by_rest (stripped (codes "s c") text) split_of (by_rest (stripped (codes "x c") text) clash_of (by_rest (stripped (codes "e ") text) eval_of None))

abbrev pub or_line : Option Line → Option Line → Option Line
or_line (Some line) other = Some line
or_line None other = other

-- the line of which the text is
abbrev pub line_of : List ℕ → Option Line
line_of text = or_line (word_of text) (by_prefix text)

-- the line, or its first fault for the problem
abbrev pub judged : Problem → Option Line → Result Line LineFault
judged problem None = Err BadLine
judged problem (Some line) = if is_there problem line then (if fits_type problem line then Ok line else Err BadTest) else Err NoSuchOccurrence

abbrev pub reading : Problem → List ℕ → Result Line LineFault
reading problem text = judged problem (line_of text)
