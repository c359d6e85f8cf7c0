-- A line is read of its text, which is one line.
use Rattle.std.proofs.Common.{◌≡◌, ◌∙◌, refl, sym, ap, subst, arith, ℕ, zero, suc, ◌<◌, ◌==◌, length, get_or, List, [], ◌∷◌, ◌++◌, Bool, true, false, not, ◌&&◌, Ok}
use Rattle.std.specs.Prelude.{◌≢◌, All, codes, decimal}
use Rattle.std.specs.List.{list_all}
use Rattle.std.specs.Fmt.{signed_decimal}
use Rattle.eb_value.specs.declared.value.Value.{Value}
use Rattle.eb_value.specs.Texts.{value_text, values_text, StaysInRow}
use Rattle.eb_term.specs.declared.operators.Side.{Side}
use Rattle.eb_term.specs.declared.operators.Side.TheVariants as side
use Rattle.occ_domains.specs.declared.tests.Test.{Test}
use Rattle.occ_domains.specs.declared.tests.Test.TheVariants as test
use Rattle.occurrences.specs.declared.place.Place.{Place}
use Rattle.occurrences.specs.declared.place.Place.TheVariants as place
use Rattle.occurrences.specs.declared.place.Rule.TheVariants as rule
use Rattle.occurrences.specs.Occurrences.{Occurs}
use Rattle.tree_lines.specs.declared.line.Line.{Line}
use Rattle.tree_lines.specs.declared.line.Line.TheVariants as line
use Rattle.tree_lines.specs.Words.{place_text, bracketed, located, letters, path_text, test_text, line_text}
use Rattle.tree_lines.specs.Written.{Asked, Written, asked_text, written_text, is_word, is_small, is_located, is_asked, is_written}
use Rattle.tree_lines.specs.Written as form
use Rattle.tree_lines.specs.Lines.{Reader, place_number, has_small_test, has_small_numbers, NamesWhatIsThere, HasFittingTest, IsLine, IsReading}
use Rattle.tree_lines.proofs.NumberLaws.{both_true}
use Rattle.tree_lines.proofs.FormParts.{all_append, number_is_word, integer_is_word}
use Rattle.tree_lines.proofs.OccursLaws.{choice_is, definition_is}

-- ---- words

-- the texts of values are words
abbrev pub AreWords : List (List ℕ) → Type 0
AreWords names = (vs : List Value) → is_word (values_text names vs) ≡ true

word_byte : (b : ℕ) → StaysInRow b → not (b == 32) && not (b == 10) ≡ true
word_byte b h = by (b == 32) (b == 10) refl refl where
  by : (space feed : Bool) → b == 32 ≡ space → b == 10 ≡ feed → not space && not feed ≡ true
  by true feed e f = absurd (h.1 (let same : b ≡ 32 = grind arith in same))
  by false true e f = absurd (h.0 (let same : b ≡ 10 = grind arith in same))
  by false false e f = refl

pub all_word : (xs : List ℕ) → All StaysInRow xs → is_word xs ≡ true
all_word [] h = refl
all_word (b ∷ bs) h = rw (word_byte b (h 0 b (omega arith))) (all_word bs (λ k d within. h (suc k) d (omega arith)))

-- ---- the form of a line

abbrev as_asked : List (List ℕ) → Test → Asked
as_asked names (test.AtMost p n) = form.at_most p n
as_asked names (test.Is p v) = form.is p (value_text names v)
as_asked names test.Defined = form.says_defined
as_asked names test.True = form.says_true
as_asked names test.False = form.says_false
as_asked names test.Undefined = form.says_undefined

abbrev as_written : List (List ℕ) → Line → Written
as_written names (line.Narrow u occ) = form.narrow u occ.place (values_text names occ.bound)
as_written names (line.Split occ t) = form.split occ.place (values_text names occ.bound) (as_asked names t)
as_written names (line.Clash occ) = form.clash occ.place (values_text names occ.bound)
as_written names (line.Eval k) = form.eval k
as_written names line.Open = form.left_open
as_written names line.Header = form.header (codes "refuted")
as_written names line.Begin = form.begins
as_written names line.End = form.ends

test_has_text : (names : List (List ℕ)) (t : Test) → test_text names t ≡ asked_text (as_asked names t)
test_has_text names (test.AtMost p n) = refl
test_has_text names (test.Is p v) = refl
test_has_text names test.Defined = refl
test_has_text names test.True = refl
test_has_text names test.False = refl
test_has_text names test.Undefined = refl

line_has_text : (names : List (List ℕ)) (l : Line) → line_text names l ≡ written_text (as_written names l)
line_has_text names (line.Narrow u occ) = refl
line_has_text names (line.Split occ t) = ap (λ x. codes "s " ++ (located occ.place (values_text names occ.bound) ++ (codes " " ++ x))) (test_has_text names t)
line_has_text names (line.Clash occ) = refl
line_has_text names (line.Eval k) = refl
line_has_text names line.Open = refl
line_has_text names line.Header = refl
line_has_text names line.Begin = refl
line_has_text names line.End = refl

is_there : (r : Reader) → AreWords r.names → (at : Place) (bound : List Value) → is_small (place_number at) ≡ true → Occurs r.scope r.problem at bound → is_located at (values_text r.names bound) ≡ true
is_there r words (place.Choice k) bound small there =
    subst (λ b. is_located (place.Choice k) (values_text r.names b) ≡ true) (sym (choice_is r.scope r.problem k bound there).1) (rw small refl)
is_there r words (place.Definition k) bound small there =
    subst (λ b. is_located (place.Definition k) (values_text r.names b) ≡ true) (sym (definition_is r.scope r.problem k bound there).1) (rw small refl)
is_there r words (place.Node k) bound small there = rw (small, words bound) refl

asked_small : (names : List (List ℕ)) → AreWords names → (t : Test) → has_small_test t ≡ true → is_asked (as_asked names t) ≡ true
asked_small names words (test.AtMost p n) h = h
asked_small names words (test.Is p v) h = words (v ∷ [])
asked_small names words test.Defined h = refl
asked_small names words test.True h = refl
asked_small names words test.False h = refl
asked_small names words test.Undefined h = refl

has_form : (r : Reader) → AreWords r.names → (l : Line) → has_small_numbers l ≡ true → NamesWhatIsThere r l → is_written (as_written r.names l) ≡ true
has_form r words (line.Narrow u occ) small there = is_there r words occ.place occ.bound small there.0
has_form r words (line.Split occ t) small there =
    let both = both_true (is_small (place_number occ.place)) (has_small_test t) small in
    rw (is_there r words occ.place occ.bound both.0 there, asked_small r.names words t both.1) refl
has_form r words (line.Clash occ) small there = is_there r words occ.place occ.bound small there
has_form r words (line.Eval k) small there = small
has_form r words line.Open small there = refl
has_form r words line.Header small there = refl
has_form r words line.Begin small there = refl
has_form r words line.End small there = refl

own_text : (names : List (List ℕ)) (l : Line) → IsLine names (line_text names l) l
own_text names (line.Narrow u occ) = refl
own_text names (line.Split occ t) = refl
own_text names (line.Clash occ) = refl
own_text names (line.Eval k) = refl
own_text names line.Open = refl
own_text names line.Header = refl
own_text names line.Begin = refl
own_text names line.End = refl

pub read_back : (r : Reader) → AreWords r.names → (l : Line) → has_small_numbers l ≡ true → NamesWhatIsThere r l → HasFittingTest r l → IsReading r (line_text r.names l) (Ok l)
read_back r words l small there fits = ((as_written r.names l, (line_has_text r.names l, has_form r words l small there)), own_text r.names l, small, there, fits)

-- ---- no line feed

abbrev no_feed : List ℕ → Bool
no_feed xs = list_all (λ b. not (b == 10)) xs

word_no_feed : (xs : List ℕ) → is_word xs ≡ true → no_feed xs ≡ true
word_no_feed [] h = refl
word_no_feed (b ∷ bs) h =
    let both = both_true (not (b == 32) && not (b == 10)) (is_word bs) h in
    let other : not (b == 10) ≡ true = (both_true (not (b == 32)) (not (b == 10)) both.0).1 in
    rw other (word_no_feed bs both.1)

feeds : (xs ys : List ℕ) → no_feed xs ≡ true → no_feed ys ≡ true → no_feed (xs ++ ys) ≡ true
feeds xs ys h k = all_append (λ b. not (b == 10)) xs ys h k

place_no_feed : (at : Place) → is_small (place_number at) ≡ true → no_feed (place_text at) ≡ true
place_no_feed (place.Choice k) h = word_no_feed (decimal k) (number_is_word k h)
place_no_feed (place.Definition k) h = word_no_feed (decimal k) (number_is_word k h)
place_no_feed (place.Node k) h = word_no_feed (decimal k) (number_is_word k h)

bracketed_no_feed : (xs : List ℕ) → no_feed xs ≡ true → no_feed (bracketed xs) ≡ true
bracketed_no_feed [] h = refl
bracketed_no_feed (b ∷ bs) h = feeds (b ∷ bs) (codes "]") h refl

located_no_feed : (at : Place) (xs : List ℕ) → is_small (place_number at) ≡ true → is_word xs ≡ true → no_feed (located at xs) ≡ true
located_no_feed at xs h k = feeds (place_text at) (bracketed xs) (place_no_feed at h) (bracketed_no_feed xs (word_no_feed xs k))

letters_no_feed : (p : List Side) → no_feed (letters p) ≡ true
letters_no_feed [] = refl
letters_no_feed (side.First ∷ p) = letters_no_feed p
letters_no_feed (side.Second ∷ p) = letters_no_feed p

path_no_feed : (p : List Side) → no_feed (path_text p) ≡ true
path_no_feed [] = refl
path_no_feed (s ∷ p) = letters_no_feed (s ∷ p)

test_no_feed : (names : List (List ℕ)) → AreWords names → (t : Test) → has_small_test t ≡ true → no_feed (test_text names t) ≡ true
test_no_feed names words (test.AtMost p n) h = feeds (path_text p) (32 ∷ signed_decimal n) (path_no_feed p) (word_no_feed (signed_decimal n) (integer_is_word n h))
test_no_feed names words (test.Is p v) h = feeds (path_text p) (32 ∷ value_text names v) (path_no_feed p) (word_no_feed (value_text names v) (words (v ∷ [])))
test_no_feed names words test.Defined h = refl
test_no_feed names words test.True h = refl
test_no_feed names words test.False h = refl
test_no_feed names words test.Undefined h = refl

pub one_line_long : (names : List (List ℕ)) → AreWords names → (l : Line) → has_small_numbers l ≡ true → no_feed (line_text names l) ≡ true
one_line_long names words (line.Narrow rule.Up occ) small = located_no_feed occ.place (values_text names occ.bound) small (words occ.bound)
one_line_long names words (line.Narrow rule.Down occ) small = located_no_feed occ.place (values_text names occ.bound) small (words occ.bound)
one_line_long names words (line.Narrow rule.Refer occ) small = located_no_feed occ.place (values_text names occ.bound) small (words occ.bound)
one_line_long names words (line.Split occ t) small =
    let both = both_true (is_small (place_number occ.place)) (has_small_test t) small in
    feeds (located occ.place (values_text names occ.bound)) (32 ∷ test_text names t) (located_no_feed occ.place (values_text names occ.bound) both.0 (words occ.bound)) (test_no_feed names words t both.1)
one_line_long names words (line.Clash occ) small = located_no_feed occ.place (values_text names occ.bound) small (words occ.bound)
one_line_long names words (line.Eval k) small = word_no_feed (decimal k) (number_is_word k small)
one_line_long names words line.Open small = refl
one_line_long names words line.Header small = refl
one_line_long names words line.Begin small = refl
one_line_long names words line.End small = refl

no_ten : (b : ℕ) → not (b == 10) ≡ true → b ≡ 10 → ⊥
no_ten b h e = let no : false ≡ true = sym (ap (λ x. not (x == 10)) e) ∙ h in absurd (cc)

each_by : (b : ℕ) (bs : List ℕ) → not (b == 10) ≡ true → All (λ byte. byte ≢ 10) bs → (k d : ℕ) → k < length (b ∷ bs) → get_or (b ∷ bs) k d ≢ 10
each_by b bs h more zero d within = no_ten b h
each_by b bs h more (suc k) d within = more k d (omega arith)

pub each_apart : (xs : List ℕ) → no_feed xs ≡ true → All (λ byte. byte ≢ 10) xs
each_apart [] h = λ k d within. absurd (omega arith)
each_apart (b ∷ bs) h =
    let both = both_true (not (b == 10)) (no_feed bs) h in
    each_by b bs both.0 (each_apart bs both.1)

-- ---- but for headers, a line has its own text alone

pub only_own : (names : List (List ℕ)) (text : List ℕ) (l : Line) → IsLine names text l → (l ≡ line.Header → ⊥) → text ≡ line_text names l
only_own names text (line.Narrow u occ) h other = h
only_own names text (line.Split occ t) h other = h
only_own names text (line.Clash occ) h other = h
only_own names text (line.Eval k) h other = h
only_own names text line.Open h other = h
only_own names text line.Header h other = absurd (other refl)
only_own names text line.Begin h other = h
only_own names text line.End h other = h
