-- The verdict of the checker is that of the definition, on any bytes.
use Rattle.std.proofs.Common.{◌≡◌, ℕ, zero, suc, ◌+◌, ◌<◌, inl, inr, List, [], ◌∷◌, ◌++◌, map, length, Bool, true, false, not, ◌&&◌, ◌==◌, ap, ap₂, sym, subst, refl, ◌∙◌, append_assoc, append-nil, arith, cond, Some, Result, Ok, Err, rules}
use Rattle.std.specs.Prelude.{⊤, nat_lt, codes}
use Rattle.std.specs.List.{list_all}
use Rattle.std.proofs.lemmas.List.Folds.{list_all-append}
use Rattle.std.proofs.lemmas.List.{length-map}
use Rattle.eb_value.specs.declared.types.EbType.{EbType, out-EbType, the_lemmas}
use Rattle.eb_value.specs.declared.types.Shape.{out-Shape}
use Rattle.eb_value.specs.Types.{integer}
use Rattle.eb_term.specs.declared.problem.Choice.{Choice}
use Rattle.eb_term.specs.declared.problem.Problem.{Problem}
use Rattle.int_dom.specs.Intervals.{is_empty, at_most, above, has_parts}
use Rattle.tree_form.specs.declared.line.Line.{Line}
use Rattle.tree_form.specs.declared.line.Line.TheVariants.{Header as header, Begin as begin, Split as split, Clash as clash, Eval as eval, Open as leave, End as finish}
use Rattle.occ_store.specs.Places.{has_at, changed_at}
use Rattle.tree_form.specs.Lines.{IsLine, IsReading, is_there, fits_type, has_integers, is_integer_shape}
use Rattle.tree_checker.specs.declared.verdict.Cause.{Cause}
use Rattle.tree_checker.specs.declared.verdict.Cause.TheVariants.{Unfinished, AfterEnd}
use Rattle.tree_checker.specs.declared.verdict.Verdict.TheVariants.{Refused as refused}
use Rattle.occ_store.specs.Stores.{Store, HaveIntegers}
use Rattle.tree_checker.specs.Trees.{Facts, Task, Tree, leaf, one, two, Fits, parts_of, Holds, lines_of, is_header, IsWhole, IsViable}
use Rattle.tree_checker.specs.Verdicts.{State, heading, within, ended, Reading, fault}
use Rattle.tree_checker.specs.Texts.{joined, is_one_line, IsText, AreLines, IsWholeText, IsViableText, IsVerdictFor}
use Rattle.tree_checker.specs.steps.Machine.{Reader, after, at_end, verdict_from, with_byte, lines_and_rest, is_some_byte, readings, text_rest}
use Rattle.tree_checker.proofs.Forests.{leaves}
use Rattle.tree_checker.proofs.Steps.{finished}
use Rattle.tree_checker.proofs.Runs.{read_as, are_lines, after_whole, whole_after, runs_out, stops, not_viable}
use Rattle.tree_checker.proofs.Places.{place_after}

pub both : (a b : Bool) → a && b ≡ true → (a ≡ true) × (b ≡ true)
both true b h = (refl, h)
both false b h = absurd (cc)

-- the first LF is in one place
first_end : (x y s t : List ℕ) → is_one_line x ≡ true → is_one_line y ≡ true → x ++ (10 ∷ s) ≡ y ++ (10 ∷ t) → (x ≡ y) × (s ≡ t)
first_end [] [] s t hx hy e = (refl, cc)
first_end [] (b ∷ y) s t hx hy e = let same : b ≡ 10 = cc in absurd (let h : not (b == 10) && is_one_line y ≡ true = hy in cc)
first_end (a ∷ x) [] s t hx hy e = let same : a ≡ 10 = cc in absurd (let h : not (a == 10) && is_one_line x ≡ true = hx in cc)
first_end (a ∷ x) (b ∷ y) s t hx hy e =
    let same : a ≡ b = cc in
    let cut : x ++ (10 ∷ s) ≡ y ++ (10 ∷ t) = cc in
    let rest : (x ≡ y) × (s ≡ t) = first_end x y s t (both _ _ hx).1 (both _ _ hy).1 cut in
    let tails : x ≡ y = rest.0 in
    (cc, rest.1)

no_end : (x s : List ℕ) (rest : List ℕ) → is_one_line rest ≡ true → rest ≡ x ++ (10 ∷ s) → ⊥
no_end [] s [] h e = cc
no_end [] s (b ∷ rest) h e = let same : b ≡ 10 = cc in let k : not (b == 10) && is_one_line rest ≡ true = h in cc
no_end (a ∷ x) s [] h e = cc
no_end (a ∷ x) s (b ∷ rest) h e = no_end x s rest (both _ _ h).1 (cc)

nothing_joins : (lines : List (List ℕ)) → [] ≡ joined lines → lines ≡ []
nothing_joins [] e = refl
nothing_joins (line ∷ lines) e = absurd (no_end line (joined lines) [] refl e)

-- lines that a text begins with are its first lines
begins_with : (lines all : List (List ℕ)) (more : List ℕ) → list_all is_one_line lines ≡ true → list_all is_one_line all ≡ true → joined lines ++ more ≡ joined all → (extra : List (List ℕ)) × (all ≡ lines ++ extra) × (more ≡ joined extra)
begins_with [] all more h k e = (all, refl, e)
begins_with (line ∷ lines) [] more h k e = absurd (no_end line (joined lines ++ more) [] refl (sym e ∙ append_assoc line (10 ∷ joined lines) more))
begins_with (line ∷ lines) (l ∷ all) more h k e =
    let hs = both _ _ h in
    let ks = both _ _ k in
    let first = first_end line l (joined lines ++ more) (joined all) hs.0 ks.0 (sym (append_assoc line (10 ∷ joined lines) more) ∙ e) in
    let later = begins_with lines all more hs.1 ks.1 first.1 in
    let a : line ≡ l = first.0 in
    let b : all ≡ lines ++ later.0 = later.1 in
    (later.0, cc, later.2)

-- how a text falls into lines
pub same_text : (l m : List (List ℕ)) (x y : List ℕ) → list_all is_one_line l ≡ true → list_all is_one_line m ≡ true → is_one_line x ≡ true → is_one_line y ≡ true → joined l ++ x ≡ joined m ++ y → (l ≡ m) × (x ≡ y)
same_text [] [] x y hl hm hx hy e = (refl, e)
same_text [] (b ∷ m) x y hl hm hx hy e = absurd (no_end b (joined m ++ y) x hx (e ∙ append_assoc b (10 ∷ joined m) y))
same_text (a ∷ l) [] x y hl hm hx hy e = absurd (no_end a (joined l ++ x) y hy (sym e ∙ append_assoc a (10 ∷ joined l) x))
same_text (a ∷ l) (b ∷ m) x y hl hm hx hy e =
    let f : (a ≡ b) × (joined l ++ x ≡ joined m ++ y) = first_end a b (joined l ++ x) (joined m ++ y) (both _ _ hl).0 (both _ _ hm).0 (sym (append_assoc a (10 ∷ joined l) x) ∙ e ∙ append_assoc b (10 ∷ joined m) y) in
    let r : (l ≡ m) × (x ≡ y) = same_text l m x y (both _ _ hl).1 (both _ _ hm).1 hx hy f.1 in
    let heads : a ≡ b = f.0 in
    let tails : l ≡ m = r.0 in
    (cc, r.1)

onto_first : (b : ℕ) (lines : List (List ℕ)) (rest bytes : List ℕ) → b == 10 ≡ false → IsText bytes lines rest → IsText (b ∷ bytes) (with_byte b (lines, rest)).0 (with_byte b (lines, rest)).1
onto_first b [] rest bytes other t = record { whole = ap (λ x. b ∷ x) t.whole; each = refl; last = rw other t.last }
onto_first b (line ∷ lines) rest bytes other t = record { whole = ap (λ x. b ∷ x) t.whole; each = rw other t.each; last = t.last }

byte_first : (b : ℕ) (lines : List (List ℕ)) (rest bytes : List ℕ) (is : Bool) → b == 10 ≡ is → IsText bytes lines rest → IsText (b ∷ bytes) (cond is ([] ∷ lines, rest) (with_byte b (lines, rest))).0 (cond is ([] ∷ lines, rest) (with_byte b (lines, rest))).1
byte_first b lines rest bytes true e t = let same : b ≡ 10 = grind arith in record { whole = (let w : bytes ≡ joined lines ++ rest = t.whole in cc); each = t.each; last = t.last }
byte_first b lines rest bytes false e t = onto_first b lines rest bytes e t

pub falls : (text : List ℕ) → IsText text (lines_and_rest text).0 (lines_and_rest text).1
falls [] = record { whole = refl; each = refl; last = refl }
falls (b ∷ bytes) = byte_first b (lines_and_rest bytes).0 (lines_and_rest bytes).1 bytes (b == 10) refl (falls bytes)

-- Where choices are integers and the store has a domain for each, the lines of a tree that holds are
-- read back.
pub record IsSuited (problem : Problem) (task : Task) : Type 0 where
  pub facts : task.facts.terms ≡ problem.facts
  pub integers : HaveIntegers problem.choices
  pub count : length task.first ≡ length problem.choices

pub at_within : {A : Type 0} (test : A → Bool) (k : ℕ) (xs : List A) → has_at test k xs ≡ true → k < length xs
at_within test k [] h = absurd (cc)
at_within test zero (x ∷ xs) h = omega arith
at_within test (suc k) (x ∷ xs) h = let more = at_within test k xs h in omega arith

is_below : (k n : ℕ) → k < n → nat_lt k n ≡ true
is_below k n h = grind arith

integer_has : is_integer_shape (out-Shape (out-EbType integer).shape) ≡ true
integer_has = search (rules, the_lemmas)

integer_there : (choices : List Choice) (k : ℕ) → HaveIntegers choices → k < length choices → has_at has_integers k choices ≡ true
integer_there [] k h less = absurd (omega arith)
integer_there (c ∷ choices) zero h less = ap (λ (ty : EbType). is_integer_shape (out-Shape (out-EbType ty).shape)) h.0 ∙ integer_has
integer_there (c ∷ choices) (suc k) h less = integer_there choices k h.1 (omega arith)

abbrev Suits : Problem → Line → Type 0
Suits problem line = (is_there problem line ≡ true) × (fits_type problem line ≡ true)

line_suits : (problem : Problem) (facts : Facts) (store : Store) (line : Line) → facts.terms ≡ problem.facts → HaveIntegers problem.choices → length store ≡ length problem.choices → Fits facts store line → Suits problem line
line_suits problem facts store (split k n) own h same fits =
    let there : k < length problem.choices = subst (λ l. k < l) same (at_within (has_parts n) k store fits) in
    (is_below k (length problem.choices) there, integer_there problem.choices k h there)
line_suits problem facts store (clash k) own h same fits = (is_below k (length problem.choices) (subst (λ l. k < l) same (at_within is_empty k store fits)), refl)
line_suits problem facts store (eval k) own h same fits = (is_below k (length problem.facts) (subst (λ n. k < n) (ap length own) (at_within _ k facts.terms fits.1)), refl)
line_suits problem facts store leave own h same fits = (refl, refl)
line_suits problem facts store header own h same fits = absurd fits
line_suits problem facts store begin own h same fits = absurd fits
line_suits problem facts store finish own h same fits = absurd fits

abbrev AllSuit : Problem → List Line → Type 0
AllSuit problem [] = ⊤
AllSuit problem (line ∷ lines) = Suits problem line × AllSuit problem lines

suit_append : (problem : Problem) (xs ys : List Line) → AllSuit problem xs → AllSuit problem ys → AllSuit problem (xs ++ ys)
suit_append problem [] ys h k = k
suit_append problem (x ∷ xs) ys h k = (h.0, suit_append problem xs ys h.1 k)

-- parts have as many domains
abbrev AllHave : ℕ → List Store → Type 0
AllHave n [] = ⊤
AllHave n (store ∷ stores) = (length store ≡ n) × AllHave n stores

pub length-changed : {A : Type 0} (f : A → A) (k : ℕ) (xs : List A) → length (changed_at f k xs) ≡ length xs
length-changed f k [] = refl
length-changed f zero (x ∷ xs) = refl
length-changed f (suc k) (x ∷ xs) = let more = length-changed f k xs in omega (arith, more)

parts_have : (store : Store) (line : Line) → AllHave (length store) (parts_of store line)
parts_have store (split k n) = (length-changed (at_most n) k store, (length-changed (above n) k store, tt))
parts_have store (clash k) = tt
parts_have store (eval k) = tt
parts_have store leave = tt
parts_have store header = tt
parts_have store begin = tt
parts_have store finish = tt

tree_suits : (problem : Problem) (facts : Facts) (tree : Tree) (store : Store) → facts.terms ≡ problem.facts → HaveIntegers problem.choices → length store ≡ length problem.choices → Holds facts store tree → AllSuit problem (lines_of tree)
tree_suits problem facts (leaf line) store own h same (fits, parts) = (line_suits problem facts store line own h same fits, tt)
tree_suits problem facts (one line tree) store own h same (a, fits, parts, holds) =
    let have = subst (AllHave (length store)) parts (parts_have store line) in
    (line_suits problem facts store line own h same fits, tree_suits problem facts tree a own h (have.0 ∙ same) holds)
tree_suits problem facts (two line first second) store own h same (a, b, fits, parts, holds, holds') =
    let have = subst (AllHave (length store)) parts (parts_have store line) in (
      line_suits problem facts store line own h same fits,
      suit_append problem (lines_of first) (lines_of second) (tree_suits problem facts first a own h (have.0 ∙ same) holds) (tree_suits problem facts second b own h (have.1.0 ∙ same) holds'),
    )

headers_suit : (problem : Problem) (headers : List Line) → list_all is_header headers ≡ true → AllSuit problem headers
headers_suit problem [] all = tt
headers_suit problem (header ∷ headers) all = ((refl, refl), headers_suit problem headers all)
headers_suit problem (_ ∷ headers) all = absurd (cc)

whole_suits : (problem : Problem) (task : Task) (lines : List Line) (count : ℕ) → IsSuited problem task → IsWhole task lines count → AllSuit problem lines
whole_suits problem task lines count s w =
    subst (AllSuit problem) (sym w.text)
    (suit_append problem w.headers (begin ∷ (lines_of w.tree ++ (finish ∷ []))) (headers_suit problem w.headers w.all)
    ((refl, refl), suit_append problem (lines_of w.tree) (finish ∷ []) (tree_suits problem task.facts w.tree task.first s.facts s.integers s.count w.holds) ((refl, refl), tt)))

-- texts that are those of lines are read as these
read_lines : (problem : Problem) (reader : Reader problem) (texts : List (List ℕ)) (lines : List Line) → AreLines texts lines → AllSuit problem lines → readings reader.read texts ≡ read_as lines
read_lines problem reader [] [] are suit = refl
read_lines problem reader [] (line ∷ lines) are suit = absurd are
read_lines problem reader (text ∷ texts) [] are suit = absurd are
read_lines problem reader (text ∷ texts) (line ∷ lines) are suit =
    ap₂ (λ x xs. x ∷ xs) (reader.only text (Ok line) (are.0, suit.0.0, suit.0.1)) (read_lines problem reader texts lines are.1 suit.1)

-- and texts that are read as lines are those of these
lines_read : (problem : Problem) (reader : Reader problem) (texts : List (List ℕ)) (lines : List Line) → readings reader.read texts ≡ read_as lines → AreLines texts lines
lines_read problem reader [] [] e = tt
lines_read problem reader [] (line ∷ lines) e = absurd (cc)
lines_read problem reader (text ∷ texts) [] e = absurd (cc)
lines_read problem reader (text ∷ texts) (line ∷ lines) e =
    let here : reader.read text ≡ Ok line = cc in
    let later : readings reader.read texts ≡ read_as lines = cc in
    ((subst (IsReading problem text) here (reader.is text)).0, lines_read problem reader texts lines later)

are_front : (texts more : List (List ℕ)) (lines : List Line) → AreLines (texts ++ more) lines → (front back : List Line) × (lines ≡ front ++ back) × AreLines texts front
are_front [] more lines are = ([], lines, refl, tt)
are_front (text ∷ texts) more [] are = absurd are
are_front (text ∷ texts) more (line ∷ lines) are =
    let rest = are_front texts more lines are.1 in
    (line ∷ rest.0, rest.1, ap (λ x. line ∷ x) rest.2, (are.0, rest.3))

are_append : (texts more : List (List ℕ)) (lines rest : List Line) → AreLines texts lines → AreLines more rest → AreLines (texts ++ more) (lines ++ rest)
are_append [] more [] rest are others = others
are_append [] more (line ∷ lines) rest are others = absurd are
are_append (text ∷ texts) more [] rest are others = absurd are
are_append (text ∷ texts) more (line ∷ lines) rest are others = (are.0, are_append texts more lines rest are.1 others)

-- whole as text and as lines
pub record WholeLines (problem : Problem) (reader : Reader problem) (task : Task) (texts : List (List ℕ)) (rest : List ℕ) (count : ℕ) : Type 0 where
  pub uncut : rest ≡ []
  pub lines : List Line
  pub read : readings reader.read texts ≡ read_as lines
  pub whole : IsWhole task lines count

pub whole_in : (problem : Problem) (reader : Reader problem) (task : Task) (text : List ℕ) (texts : List (List ℕ)) (rest : List ℕ) (count : ℕ) → IsSuited problem task → IsText text texts rest → IsWholeText task text count → WholeLines problem reader task texts rest count
whole_in problem reader task text texts rest count s t w =
    let same : (w.texts ≡ texts) × ([] ≡ rest) = same_text w.texts texts [] rest w.each t.each refl t.last (append-nil (joined w.texts) ∙ sym w.joins ∙ t.whole) in
    record {
      uncut = sym same.1;
      lines = w.lines;
      read = read_lines problem reader texts w.lines (subst (λ x. AreLines x w.lines) same.0 w.are_lines) (whole_suits problem task w.lines count s w.whole);
      whole = w.whole;
    }

joins : (text : List ℕ) (texts : List (List ℕ)) (rest : List ℕ) → IsText text texts rest → rest ≡ [] → text ≡ joined texts
joins text texts rest t none = t.whole ∙ ap (λ x. joined texts ++ x) none ∙ append-nil (joined texts)

whole_out : (problem : Problem) (reader : Reader problem) (task : Task) (text : List ℕ) (texts : List (List ℕ)) (rest : List ℕ) (lines : List Line) (count : ℕ) → IsText text texts rest → rest ≡ [] → readings reader.read texts ≡ read_as lines → IsWhole task lines count → IsWholeText task text count
whole_out problem reader task text texts rest lines count t none read w = record { texts = texts; each = t.each; joins = joins text texts rest t none; lines = lines; are_lines = lines_read problem reader texts lines read; whole = w }

pub joined_text : (texts : List (List ℕ)) → list_all is_one_line texts ≡ true → IsText (joined texts) texts []
joined_text texts each = record { whole = sym (append-nil (joined texts)); each = each; last = refl }

pub joined_append : (xs ys : List (List ℕ)) → joined (xs ++ ys) ≡ joined xs ++ joined ys
joined_append [] ys = refl
joined_append (x ∷ xs) ys = ap (λ z. x ++ (10 ∷ z)) (joined_append xs ys) ∙ sym (append_assoc x (10 ∷ joined xs) (joined ys))

pub map_append : {A B : Type 0} (f : A → B) (xs ys : List A) → map f (xs ++ ys) ≡ map f xs ++ map f ys
map_append f [] ys = refl
map_append f (x ∷ xs) ys = ap (λ z. f x ∷ z) (map_append f xs ys)

-- viable as text and as lines
pub viable_in : (problem : Problem) (reader : Reader problem) (task : Task) (texts : List (List ℕ)) → IsSuited problem task → list_all is_one_line texts ≡ true → IsViableText task texts → (lines : List Line) × (readings reader.read texts ≡ read_as lines) × IsViable task lines × AreLines texts lines
viable_in problem reader task texts s each (more, count, w) =
    let b = begins_with texts w.texts more each w.each w.joins in
    let f = are_front texts b.0 w.lines (subst (λ x. AreLines x w.lines) b.1 w.are_lines) in
    let whole : IsWhole task (f.0 ++ f.1) count = subst (λ x. IsWhole task x count) f.2 w.whole in
    let suit = suit_front problem f.0 f.1 (whole_suits problem task (f.0 ++ f.1) count s whole) in
    (f.0, read_lines problem reader texts f.0 f.3 suit, (f.1, count, whole), f.3) where
      suit_front : (problem : Problem) (xs ys : List Line) → AllSuit problem (xs ++ ys) → AllSuit problem xs
      suit_front problem [] ys h = tt
      suit_front problem (x ∷ xs) ys h = (h.0, suit_front problem xs ys h.1)

-- lines that have texts
record IsWritten (lines : List Line) : Type 0 where
  texts : List (List ℕ)
  each : list_all is_one_line texts ≡ true
  are_lines : AreLines texts lines

one_written : (text : List ℕ) (line : Line) (lines : List Line) → is_one_line text ≡ true → IsLine text line → IsWritten lines → IsWritten (line ∷ lines)
one_written text line lines uncut is w = record { texts = text ∷ w.texts; each = rw uncut w.each; are_lines = (is, w.are_lines) }

finish_written : IsWritten (finish ∷ [])
finish_written = one_written (codes "end") finish [] refl (refl, refl) (record { texts = []; each = refl; are_lines = tt })

leaves_written : (facts : Facts) (stores : List Store) → IsWritten ((leaves facts stores).0 ++ (finish ∷ []))
leaves_written facts [] = finish_written
leaves_written facts (store ∷ stores) = one_written (codes "o") leave ((leaves facts stores).0 ++ (finish ∷ [])) refl (refl, refl) (leaves_written facts stores)

finished_written : (task : Task) (at : State) → IsWritten (finished task at).0
finished_written task heading = one_written (codes "tree 1") begin (leave ∷ finish ∷ []) refl (refl, refl) (one_written (codes "o") leave (finish ∷ []) refl (refl, refl) finish_written)
finished_written task (within stores k) = leaves_written task.facts stores
finished_written task (ended k) = record { texts = []; each = refl; are_lines = tt }

viable_out : (problem : Problem) (reader : Reader problem) (task : Task) (texts : List (List ℕ)) (lines : List Line) (st : State) → list_all is_one_line texts ≡ true → readings reader.read texts ≡ read_as lines → after task 1 heading (read_as lines) ≡ Ok st → IsViableText task texts
viable_out problem reader task texts lines st each read come =
    let end = finished task st in
    let w = finished_written task st in (
      joined w.texts,
      end.1,
      record {
        texts = texts ++ w.texts;
        each = list_all-append is_one_line texts w.texts ∙ ap (λ x. x && list_all is_one_line w.texts) each ∙ w.each;
        joins = sym (joined_append texts w.texts);
        lines = lines ++ end.0;
        are_lines = are_append texts w.texts lines end.0 (lines_read problem reader texts lines read) w.are_lines;
        whole = runs_out task lines end.0 end.1 1 heading st come end.2;
      },
    )

-- a list of readings that falls into parts comes from texts that do
record Pieces (problem : Problem) (reader : Reader problem) (texts : List (List ℕ)) (before : List Reading) (r : Reading) : Type 0 where
  front : List (List ℕ)
  middle : List ℕ
  back : List (List ℕ)
  whole : texts ≡ front ++ (middle ∷ back)
  front_is : readings reader.read front ≡ before
  middle_is : reader.read middle ≡ r

pieces : (problem : Problem) (reader : Reader problem) (texts : List (List ℕ)) (before : List Reading) (r : Reading) (rest : List Reading) → readings reader.read texts ≡ before ++ (r ∷ rest) → Pieces problem reader texts before r
pieces problem reader [] [] r rest e = absurd (cc)
pieces problem reader [] (b ∷ before) r rest e = absurd (cc)
pieces problem reader (l ∷ texts) [] r rest e = record { front = []; middle = l; back = texts; whole = refl; front_is = refl; middle_is = cc }
pieces problem reader (l ∷ texts) (b ∷ before) r rest e =
    let p = pieces problem reader texts before r rest (cc) in
    let here : reader.read l ≡ b = cc in
    record { front = l ∷ p.front; middle = p.middle; back = p.back; whole = ap (λ x. l ∷ x) p.whole; front_is = ap₂ (λ x xs. x ∷ xs) here p.front_is; middle_is = p.middle_is }

pub each_front : (xs ys : List (List ℕ)) → list_all is_one_line (xs ++ ys) ≡ true → (list_all is_one_line xs ≡ true) × (list_all is_one_line ys ≡ true)
each_front xs ys e = both (list_all is_one_line xs) (list_all is_one_line ys) (sym (list_all-append is_one_line xs ys) ∙ e)

some_byte : (rest : List ℕ) → is_some_byte rest ≡ true → 0 < length rest
some_byte [] e = absurd (cc)
some_byte (b ∷ rest) e = omega arith

no_byte : (rest : List ℕ) → is_some_byte rest ≡ false → rest ≡ []
no_byte [] e = refl
no_byte (b ∷ rest) e = absurd (cc)

-- lines without a fault, that don't end
short : (problem : Problem) (reader : Reader problem) (task : Task) (text : List ℕ) (texts : List (List ℕ)) (rest : List ℕ) (lines : List Line) (st : State) → IsSuited problem task → IsText text texts rest → readings reader.read texts ≡ read_as lines → after task 1 heading (read_as lines) ≡ Ok st
    → ((k : ℕ) → st ≡ ended k → ⊥) → IsVerdictFor problem task text (refused (1 + length texts) Unfinished)
short problem reader task text texts rest lines st s t read come open_still = (
  texts,
  rest,
  t,
  inr (
    omega arith,
    record {
      viable = viable_out problem reader task texts lines st t.each read come;
      ends = inr ((λ k whole. not_ended k (whole_in problem reader task (joined texts) texts [] k s (joined_text texts t.each) whole)), refl);
    },
  ),
) where
  not_ended : (k : ℕ) → WholeLines problem reader task texts [] k → ⊥
  not_ended k w =
      let end : after task 1 heading (readings reader.read texts) ≡ Ok (ended k) = ap (after task 1 heading) w.read ∙ after_whole task w.lines k w.whole in
      let here : after task 1 heading (readings reader.read texts) ≡ Ok st = ap (after task 1 heading) read ∙ come in
      let both : Ok st ≡ Ok (ended k) = sym here ∙ end in
      open_still k (cc)

-- the text goes on after its end, within a line
cut_end : (problem : Problem) (reader : Reader problem) (task : Task) (text : List ℕ) (texts : List (List ℕ)) (rest : List ℕ) (lines : List Line) (k : ℕ) → IsText text texts rest → is_some_byte rest ≡ true → readings reader.read texts ≡ read_as lines → after task 1 heading (read_as lines) ≡ Ok (ended k)
    → IsVerdictFor problem task text (refused (1 + length texts) AfterEnd)
cut_end problem reader task text texts rest lines k t cut read come = (
  texts,
  rest,
  t,
  inr (
    omega arith,
    record {
      viable = viable_out problem reader task texts lines (ended k) t.each read come;
      ends = inl (k, whole_out problem reader task (joined texts) texts [] lines k (joined_text texts t.each) refl read (whole_after task lines k come), some_byte rest cut, refl);
    },
  ),
)

at_end_by : (problem : Problem) (reader : Reader problem) (task : Task) (text : List ℕ) (texts : List (List ℕ)) (rest : List ℕ) (lines : List Line) (st : State) (cut : Bool) → IsSuited problem task → IsText text texts rest → is_some_byte rest ≡ cut → readings reader.read texts ≡ read_as lines → after task 1 heading (read_as lines) ≡ Ok st
    → IsVerdictFor problem task text (at_end st (1 + length texts) cut)
at_end_by problem reader task text texts rest lines (ended zero) false s t e read come = whole_out problem reader task text texts rest lines 0 t (no_byte rest e) read (whole_after task lines 0 come)
at_end_by problem reader task text texts rest lines (ended (suc k)) false s t e read come = (omega arith, whole_out problem reader task text texts rest lines (suc k) t (no_byte rest e) read (whole_after task lines (suc k) come))
at_end_by problem reader task text texts rest lines (ended zero) true s t e read come = cut_end problem reader task text texts rest lines zero t e read come
at_end_by problem reader task text texts rest lines (ended (suc k)) true s t e read come = cut_end problem reader task text texts rest lines (suc k) t e read come
at_end_by problem reader task text texts rest lines heading cut s t e read come = short problem reader task text texts rest lines heading s t read come (λ k same. cc)
at_end_by problem reader task text texts rest lines (within stores k) cut s t e read come = short problem reader task text texts rest lines (within stores k) s t read come (λ j same. cc)

-- the first line at fault
at_fault : (problem : Problem) (reader : Reader problem) (task : Task) (text : List ℕ) (texts : List (List ℕ)) (rest : List ℕ) (n : ℕ) (cause : Cause) → IsSuited problem task → IsText text texts rest → after task 1 heading (readings reader.read texts) ≡ Err (n, cause) → IsVerdictFor problem task text (refused n cause)
at_fault problem reader task text texts rest n cause s t e =
    let stop = stops task (readings reader.read texts) 1 heading n cause e in
    let p = pieces problem reader texts stop.before stop.reading stop.rest stop.text in
    let each : list_all is_one_line (p.front ++ (p.middle ∷ p.back)) ≡ true = subst (λ x. list_all is_one_line x ≡ true) p.whole t.each in
    let split_each = each_front p.front (p.middle ∷ p.back) each in
    let before = are_lines task stop.before 1 heading stop.place stop.come in
    let front : readings reader.read p.front ≡ read_as before.0 = p.front_is ∙ before.1 in
    let come : after task 1 heading (read_as before.0) ≡ Ok stop.place = ap (after task 1 heading) (sym before.1) ∙ stop.come in
    let count : length stop.before ≡ length p.front = ap length (sym p.front_is) ∙ length-map p.front reader.read in (
      texts,
      rest,
      t,
      inl (
        p.front,
        p.middle,
        p.back,
        p.whole,
        (let m = stop.numbered in omega arith),
        record {
          viable = viable_out problem reader task p.front before.0 stop.place split_each.0 front come;
          none = λ v. none_viable stop.place stop.come stop.is_fault p.front p.middle p.front_is p.middle_is split_each.0 (both _ _ split_each.1).0 v;
          lines = before.0;
          are_lines = lines_read problem reader p.front before.0 front;
          place = stop.place;
          is_place = place_after task before.0 stop.place come;
          reading = reader.read p.middle;
          is_reading = reader.is p.middle;
          is_first = subst (λ x. fault task.facts stop.place x ≡ Some cause) (sym p.middle_is) stop.is_fault;
        },
      ),
    ) where
      none_viable : {before : List Reading} {r : Reading} (place : State) → after task 1 heading before ≡ Ok place → fault task.facts place r ≡ Some cause → (front : List (List ℕ)) (middle : List ℕ) → readings reader.read front ≡ before → reader.read middle ≡ r
          → list_all is_one_line front ≡ true → is_one_line middle ≡ true → IsViableText task (front ++ (middle ∷ [])) → ⊥
      none_viable {before} {r} place come is front middle front_is middle_is each uncut v =
          let one_each : list_all is_one_line (middle ∷ []) ≡ true = ap (λ x. x && true) uncut in
          let all : list_all is_one_line (front ++ (middle ∷ [])) ≡ true = list_all-append is_one_line front (middle ∷ []) ∙ ap (λ x. x && list_all is_one_line (middle ∷ [])) each ∙ one_each in
          let w = viable_in problem reader task (front ++ (middle ∷ [])) s all v in
          let same : before ++ (r ∷ []) ≡ read_as w.0 = ap₂ (λ x y. x ++ (y ∷ [])) (sym front_is) (sym middle_is) ∙ sym (map_append reader.read front (middle ∷ [])) ∙ w.1 in
          not_viable task before r place cause w.0 come is same w.2

exact_by : (problem : Problem) (reader : Reader problem) (task : Task) (text : List ℕ) (texts : List (List ℕ)) (rest : List ℕ) (r : Result State (ℕ × Cause)) → IsSuited problem task → IsText text texts rest → after task 1 heading (readings reader.read texts) ≡ r
    → IsVerdictFor problem task text (verdict_from r (1 + length texts) (is_some_byte rest))
exact_by problem reader task text texts rest (Ok st) s t e =
    let l = are_lines task (readings reader.read texts) 1 heading st e in
    at_end_by problem reader task text texts rest l.0 st (is_some_byte rest) s t refl l.1 (ap (after task 1 heading) (sym l.1) ∙ e)
exact_by problem reader task text texts rest (Err (n, cause)) s t e = at_fault problem reader task text texts rest n cause s t e

pub text_exact : (problem : Problem) (reader : Reader problem) (task : Task) (text : List ℕ) → IsSuited problem task → IsVerdictFor problem task text (text_rest reader.read task 1 heading text)
text_exact problem reader task text s = exact_by problem reader task text (lines_and_rest text).0 (lines_and_rest text).1 (after task 1 heading (readings reader.read (lines_and_rest text).0)) s (falls text) refl
