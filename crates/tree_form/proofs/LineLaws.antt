-- A text is read as the line whose text it is.
use Rattle.std.proofs.Common.{◌≡◌, ◌∙◌, ℕ, zero, suc, List, [], ◌∷◌, ◌++◌, length, take, drop, Bool, true, false, cond, ap, ap₂, sym, subst, refl, arith, ℤ, Option, Some, None, Result, Ok, Err}
use Rattle.std.specs.Prelude.{codes, decimal, option_and_then, slice_get, nat_lt}
use Rattle.std.specs.Fmt.{signed_decimal}
use Rattle.std.specs.Str.{bytes_eq}
use Rattle.std.proofs.lemmas.List.{take-append-drop}
use Rattle.std.proofs.Math.Seq.{take-append_seam, drop-append_seam}
use Rattle.eb_value.specs.Typing.{in_range}
use Rattle.eb_term.specs.declared.problem.Problem.{Problem}
use Rattle.tree_form.specs.declared.line.Line.{Line}
use Rattle.tree_form.specs.declared.line.Line.TheVariants as line
use Rattle.tree_form.specs.declared.line.LineFault.{LineFault}
use Rattle.tree_form.specs.declared.line.LineFault.TheVariants.{BadLine, NoSuchOccurrence, BadTest}
use Rattle.tree_form.specs.Lines.{line_text, is_header, is_small, has_small_numbers, IsLine, is_there, fits_type, IsReading}
use Rattle.tree_form.specs.steps.Reading as spec
use Rattle.tree_form.proofs.NumberLaws.{both_true, same_bytes, integer_is, integer_printed, natural_is, natural_printed, word_before_space}

-- what follows a prefix
stripped_by : (prefix text rest : List ℕ) (b : Bool) → bytes_eq (take (length prefix) text) prefix ≡ b → cond b (Some (drop (length prefix) text)) None ≡ Some rest → text ≡ prefix ++ rest
stripped_by prefix text rest true e is =
    let front : take (length prefix) text ≡ prefix = same_bytes (take (length prefix) text) prefix e in
    let back : drop (length prefix) text ≡ rest = cc in
    sym (take-append-drop (length prefix) text) ∙ ap₂ (λ x y. x ++ y) front back
stripped_by prefix text rest false e is = absurd (cc)

stripped_is : (prefix text rest : List ℕ) → spec.stripped prefix text ≡ Some rest → text ≡ prefix ++ rest
stripped_is prefix text rest is = stripped_by prefix text rest (bytes_eq (take (length prefix) text) prefix) refl is

-- each kind of line
split_from : (text : List ℕ) (l : Line) (k : Option ℕ) (n : Option ℤ) (more : Option (List ℕ)) → spec.natural_of (take (spec.word_length text) text) ≡ k → spec.stripped (codes " le - ") (drop (spec.word_length text) text) ≡ more
    → option_and_then spec.integer_of more ≡ n → spec.split_with k n ≡ Some l → IsLine (codes "s c" ++ text) l
split_from text l None n more ek em en is = absurd (cc)
split_from text l (Some k) None more ek em en is = absurd (cc)
split_from text l (Some k) (Some n) None ek em en is = absurd (cc)
split_from text l (Some k) (Some n) (Some rest) ek em en is =
    let same : line.Split k n ≡ l = cc in
    let natural = natural_is (take (spec.word_length text) text) k ek in
    let after = stripped_is (codes " le - ") (drop (spec.word_length text) text) rest em in
    let integer = integer_is rest n en in
    let whole : text ≡ decimal k ++ (codes " le - " ++ signed_decimal n) =
    sym (take-append-drop (spec.word_length text) text) ∙ ap₂ (λ x y. x ++ y) natural.1 (after ∙ ap (λ x. codes " le - " ++ x) integer.1) in
    subst (IsLine (codes "s c" ++ text)) same (ap (λ x. codes "s c" ++ x) whole, rw natural.0 integer.0)

split_is : (text : List ℕ) (l : Line) → spec.split_of text ≡ Some l → IsLine (codes "s c" ++ text) l
split_is text l is = split_from text l (spec.natural_of (take (spec.word_length text) text)) (option_and_then spec.integer_of (spec.stripped (codes " le - ") (drop (spec.word_length text) text))) (spec.stripped (codes " le - ") (drop (spec.word_length text) text)) refl refl refl is

clash_from : (text : List ℕ) (l : Line) (k : Option ℕ) → spec.natural_of text ≡ k → option_and_then (λ k. Some (line.Clash k)) k ≡ Some l → IsLine (codes "x c" ++ text) l
clash_from text l None ek is = absurd (cc)
clash_from text l (Some k) ek is =
    let same : line.Clash k ≡ l = cc in
    let natural = natural_is text k ek in
    subst (IsLine (codes "x c" ++ text)) same (ap (λ x. codes "x c" ++ x) natural.1, natural.0)

eval_from : (text : List ℕ) (l : Line) (k : Option ℕ) → spec.natural_of text ≡ k → option_and_then (λ k. Some (line.Eval k)) k ≡ Some l → IsLine (codes "e " ++ text) l
eval_from text l None ek is = absurd (cc)
eval_from text l (Some k) ek is =
    let same : line.Eval k ≡ l = cc in
    let natural = natural_is text k ek in
    subst (IsLine (codes "e " ++ text)) same (ap (λ x. codes "e " ++ x) natural.1, natural.0)

word_by : (text : List ℕ) (l : Line) (a b c d : Bool) → is_header text ≡ a → bytes_eq text (codes "tree 1") ≡ b → bytes_eq text (codes "end") ≡ c → bytes_eq text (codes "o") ≡ d
    → cond a (Some line.Header) (cond b (Some line.Begin) (cond c (Some line.End) (cond d (Some line.Open) None))) ≡ Some l → IsLine text l
word_by text l true b c d ea eb ec ed is = let same : line.Header ≡ l = cc in subst (IsLine text) same ea
word_by text l false true c d ea eb ec ed is = let same : line.Begin ≡ l = cc in subst (IsLine text) same (same_bytes text (codes "tree 1") eb, refl)
word_by text l false false true d ea eb ec ed is = let same : line.End ≡ l = cc in subst (IsLine text) same (same_bytes text (codes "end") ec, refl)
word_by text l false false false true ea eb ec ed is = let same : line.Open ≡ l = cc in subst (IsLine text) same (same_bytes text (codes "o") ed, refl)
word_by text l false false false false ea eb ec ed is = absurd (cc)

word_is : (text : List ℕ) (l : Line) → spec.word_of text ≡ Some l → IsLine text l
word_is text l is = word_by text l (is_header text) (bytes_eq text (codes "tree 1")) (bytes_eq text (codes "end")) (bytes_eq text (codes "o")) refl refl refl refl is

prefix_by : (text : List ℕ) (l : Line) (s x e : Option (List ℕ)) → spec.stripped (codes "s c") text ≡ s → spec.stripped (codes "x c") text ≡ x → spec.stripped (codes "e ") text ≡ e
    → spec.by_rest s spec.split_of (spec.by_rest x spec.clash_of (spec.by_rest e spec.eval_of None)) ≡ Some l → IsLine text l
prefix_by text l (Some rest) x e es ex ee is = subst (λ t. IsLine t l) (sym (stripped_is (codes "s c") text rest es)) (split_is rest l is)
prefix_by text l None (Some rest) e es ex ee is = subst (λ t. IsLine t l) (sym (stripped_is (codes "x c") text rest ex)) (clash_from rest l (spec.natural_of rest) refl is)
prefix_by text l None None (Some rest) es ex ee is = subst (λ t. IsLine t l) (sym (stripped_is (codes "e ") text rest ee)) (eval_from rest l (spec.natural_of rest) refl is)
prefix_by text l None None None es ex ee is = absurd (cc)

line_by : (text : List ℕ) (l : Line) (w : Option Line) → spec.word_of text ≡ w → spec.or_line w (spec.by_prefix text) ≡ Some l → IsLine text l
line_by text l (Some word) e is = let same : word ≡ l = cc in subst (IsLine text) same (word_is text word e)
line_by text l None e is = prefix_by text l (spec.stripped (codes "s c") text) (spec.stripped (codes "x c") text) (spec.stripped (codes "e ") text) refl refl refl is

pub line_is : (text : List ℕ) (l : Line) → spec.line_of text ≡ Some l → IsLine text l
line_is text l is = line_by text l (spec.word_of text) refl is

-- a line without numbers suits each problem
word_suits : (problem : Problem) (l : Line) (a b c d : Bool) → cond a (Some line.Header) (cond b (Some line.Begin) (cond c (Some line.End) (cond d (Some line.Open) None))) ≡ Some l → spec.judged problem (Some l) ≡ Ok l
word_suits problem l true b c d is = let same : line.Header ≡ l = cc in subst (λ z. spec.judged problem (Some z) ≡ Ok z) same refl
word_suits problem l false true c d is = let same : line.Begin ≡ l = cc in subst (λ z. spec.judged problem (Some z) ≡ Ok z) same refl
word_suits problem l false false true d is = let same : line.End ≡ l = cc in subst (λ z. spec.judged problem (Some z) ≡ Ok z) same refl
word_suits problem l false false false true is = let same : line.Open ≡ l = cc in subst (λ z. spec.judged problem (Some z) ≡ Ok z) same refl
word_suits problem l false false false false is = absurd (cc)

pub word_read : (problem : Problem) (text : List ℕ) (l : Line) → spec.word_of text ≡ Some l → spec.reading problem text ≡ Ok l
word_read problem text l is = ap (λ o. spec.judged problem (spec.or_line o (spec.by_prefix text))) is
    ∙ word_suits problem l (is_header text) (bytes_eq text (codes "tree 1")) (bytes_eq text (codes "end")) (bytes_eq text (codes "o")) is

-- past the end of a list
pub beyond : {A : Type 0} (k : ℕ) (xs : List A) → slice_get xs k ≡ None → nat_lt k (length xs) ≡ false
beyond k [] e = grind arith
beyond zero (x ∷ xs) e = absurd (cc)
beyond (suc k) (x ∷ xs) e = let more = beyond k xs e in grind arith

-- and the other way
split_back : (k : ℕ) (n : ℤ) → is_small k ≡ true → in_range n ≡ true → spec.split_of (decimal k ++ (codes " le - " ++ signed_decimal n)) ≡ Some (line.Split k n)
split_back k n small range =
    let word : spec.word_length (decimal k ++ (codes " le - " ++ signed_decimal n)) ≡ length (decimal k) = word_before_space k small (codes "le - " ++ signed_decimal n) in
    let front : take (length (decimal k)) (decimal k ++ (codes " le - " ++ signed_decimal n)) ≡ decimal k = take-append_seam (decimal k) (codes " le - " ++ signed_decimal n) in
    let back : drop (length (decimal k)) (decimal k ++ (codes " le - " ++ signed_decimal n)) ≡ codes " le - " ++ signed_decimal n = drop-append_seam (decimal k) (codes " le - " ++ signed_decimal n) in
    rw (word, front, back, natural_printed k small) (ap (λ o. spec.split_with (Some k) o) (integer_printed n range))

header_back : (text : List ℕ) → is_header text ≡ true → spec.line_of text ≡ Some line.Header
header_back text e = rw e refl

own_back : (l : Line) → has_small_numbers l ≡ true → spec.line_of (line_text l) ≡ Some l
own_back (line.Split k n) small = let both = both_true (is_small k) (in_range n) small in split_back k n both.0 both.1
own_back (line.Clash k) small = ap (option_and_then (λ k. Some (line.Clash k))) (natural_printed k small)
own_back (line.Eval k) small = ap (option_and_then (λ k. Some (line.Eval k))) (natural_printed k small)
own_back line.Open small = refl
own_back line.Header small = refl
own_back line.Begin small = refl
own_back line.End small = refl

pub line_back : (text : List ℕ) (l : Line) → IsLine text l → spec.line_of text ≡ Some l
line_back text line.Header h = header_back text h
line_back text line.Open h = ap spec.line_of h.0 ∙ own_back line.Open h.1
line_back text line.Begin h = ap spec.line_of h.0 ∙ own_back line.Begin h.1
line_back text line.End h = ap spec.line_of h.0 ∙ own_back line.End h.1
line_back text (line.Split k n) h = ap spec.line_of h.0 ∙ own_back (line.Split k n) h.1
line_back text (line.Clash k) h = ap spec.line_of h.0 ∙ own_back (line.Clash k) h.1
line_back text (line.Eval k) h = ap spec.line_of h.0 ∙ own_back (line.Eval k) h.1

pub one_line : (text : List ℕ) (l m : Line) → IsLine text l → IsLine text m → l ≡ m
one_line text l m a b = let same : Some l ≡ Some m = sym (line_back text l a) ∙ line_back text m b in cc

-- the reading that the definition asks for
judged_by : (problem : Problem) (text : List ℕ) (l : Line) (there fits : Bool) → is_there problem l ≡ there → fits_type problem l ≡ fits → IsLine text l → IsReading problem text (cond there (cond fits (Ok l) (Err BadTest)) (Err NoSuchOccurrence))
judged_by problem text l true true et ef is = (is, et, ef)
judged_by problem text l true false et ef is = (l, is, et, ef)
judged_by problem text l false fits et ef is = (l, is, et)

reading_by : (problem : Problem) (text : List ℕ) (o : Option Line) → spec.line_of text ≡ o → IsReading problem text (spec.judged problem o)
reading_by problem text None e = λ l is. let same : None ≡ Some l = sym e ∙ line_back text l is in cc
reading_by problem text (Some l) e = judged_by problem text l (is_there problem l) (fits_type problem l) refl refl (line_is text l e)

pub reading_is : (problem : Problem) (text : List ℕ) → IsReading problem text (spec.reading problem text)
reading_is problem text = reading_by problem text (spec.line_of text) refl

-- and there is no other
pub reading_only : (problem : Problem) (text : List ℕ) (r : Result Line LineFault) → IsReading problem text r → spec.reading problem text ≡ r
reading_only problem text (Ok l) (is, there, fits) = rw (line_back text l is, there, fits) refl
reading_only problem text (Err BadLine) none = none_read (spec.line_of text) refl where
  none_read : (o : Option Line) → spec.line_of text ≡ o → spec.judged problem o ≡ Err BadLine
  none_read None e = refl
  none_read (Some l) e = absurd (none l (line_is text l e))
reading_only problem text (Err NoSuchOccurrence) (l, is, there) = rw (line_back text l is, there) refl
reading_only problem text (Err BadTest) (l, is, there, fits) = rw (line_back text l is, there, fits) refl
