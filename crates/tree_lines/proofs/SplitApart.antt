-- The occurrence and the test of a split are told apart in its text, whatever the names of the carrier sets hold.
use Rattle.std.proofs.Common.{◌≡◌, ◌∙◌, refl, sym, ap, arith, ℕ, ◌==◌, List, [], ◌∷◌, ◌++◌, length, take, drop, append_assoc, length-append, Bool, true, false, not, ◌&&◌, ◌||◌}
use Rattle.std.specs.Prelude.{codes, decimal}
use Rattle.std.specs.List.{list_all}
use Rattle.std.specs.Fmt.{signed_decimal}
use Rattle.eb_term.specs.declared.operators.Side.{Side}
use Rattle.eb_term.specs.declared.operators.Side.TheVariants as side
use Rattle.occurrences.specs.declared.place.Place.{Place}
use Rattle.occurrences.specs.declared.place.Place.TheVariants as place
use Rattle.tree_lines.specs.Words.{place_text, located, letters, path_text}
use Rattle.tree_lines.specs.Written.{Asked, asked_text, is_word, is_small, is_asked}
use Rattle.tree_lines.specs.Written as form
use Rattle.tree_lines.specs.Lines.{place_number}
use Rattle.tree_lines.specs.steps.Reading as spec
use Rattle.tree_lines.proofs.NumberLaws.{both_true}
use Rattle.tree_lines.proofs.FormParts.{no_space, word_no_space, space_front, space_behind, all_append, number_is_word, integer_is_word}

-- ---- a closing bracket and a space behind it

abbrev has_pair : List ℕ → Bool
has_pair [] = false
has_pair (x ∷ []) = false
has_pair (x ∷ y ∷ ys) = ((x == 93) && (y == 32)) || has_pair (y ∷ ys)

or_true : (b : Bool) → b || true ≡ true
or_true true = refl
or_true false = refl

not_true : (b : Bool) → not b ≡ true → b ≡ false
not_true true e = absurd (cc)
not_true false e = refl

pair_within : (q r : List ℕ) → has_pair (q ++ (93 ∷ 32 ∷ r)) ≡ true
pair_within [] r = refl
pair_within (x ∷ []) r = or_true ((x == 93) && (93 == 32))
pair_within (x ∷ y ∷ q) r = ap (λ b. ((x == 93) && (y == 32)) || b) (pair_within (y ∷ q) r) ∙ or_true ((x == 93) && (y == 32))

neither : (a b c : Bool) → b ≡ false → c ≡ false → (a && b) || c ≡ false
neither true b c e f = rw (e, f) refl
neither false b c e f = f

no_pair_alone : (xs : List ℕ) → no_space xs ≡ true → has_pair xs ≡ false
no_pair_alone [] h = refl
no_pair_alone (x ∷ []) h = refl
no_pair_alone (x ∷ y ∷ ys) h =
    let both = both_true (not (x == 32)) (no_space (y ∷ ys)) h in
    let next = both_true (not (y == 32)) (no_space ys) both.1 in
    neither (x == 93) (y == 32) (has_pair (y ∷ ys)) (not_true (y == 32) next.0) (no_pair_alone (y ∷ ys) both.1)

not_first : (a b c : Bool) → not a ≡ true → c ≡ false → (a && b) || c ≡ false
not_first true b c e f = absurd (cc)
not_first false b c e f = f

no_pair_next : (x : ℕ) (zs : List ℕ) → not (x == 93) ≡ true → has_pair zs ≡ false → has_pair (x ∷ zs) ≡ false
no_pair_next x [] e g = refl
no_pair_next x (z ∷ zs) e g = not_first (x == 93) (z == 32) (has_pair (z ∷ zs)) e g

abbrev no_bracket : List ℕ → Bool
no_bracket xs = list_all (λ b. not (b == 93)) xs

no_pair_behind : (xs ys : List ℕ) → no_bracket xs ≡ true → has_pair ys ≡ false → has_pair (xs ++ ys) ≡ false
no_pair_behind [] ys h k = k
no_pair_behind (x ∷ xs) ys h k =
    let both = both_true (not (x == 93)) (no_bracket xs) h in
    no_pair_next x (xs ++ ys) both.0 (no_pair_behind xs ys both.1 k)

letters_no_bracket : (p : List Side) → no_bracket (letters p) ≡ true
letters_no_bracket [] = refl
letters_no_bracket (side.First ∷ p) = letters_no_bracket p
letters_no_bracket (side.Second ∷ p) = letters_no_bracket p

path_no_bracket : (p : List Side) → no_bracket (path_text p) ≡ true
path_no_bracket [] = refl
path_no_bracket (s ∷ p) = letters_no_bracket (s ∷ p)

no_pair_pathed : (front : List ℕ) (p : List Side) (word : List ℕ) → no_bracket front ≡ true → is_word word ≡ true → has_pair (front ++ (path_text p ++ (32 ∷ word))) ≡ false
no_pair_pathed front p word e h =
    no_pair_behind front (path_text p ++ (32 ∷ word)) e (no_pair_behind (path_text p) (32 ∷ word) (path_no_bracket p)
    (no_pair_next 32 word refl (no_pair_alone word (word_no_space word h))))

asked_no_pair : (asked : Asked) → is_asked asked ≡ true → has_pair (asked_text asked) ≡ false
asked_no_pair (form.at_most p n) h = no_pair_pathed (codes "le ") p (signed_decimal n) refl (integer_is_word n h)
asked_no_pair (form.is p w) h = no_pair_pathed (codes "is ") p w refl h
asked_no_pair (form.has p w) h = no_pair_pathed (codes "has ") p w refl h
asked_no_pair (form.card p n) h = no_pair_pathed (codes "card ") p (signed_decimal n) refl (integer_is_word n h)
asked_no_pair form.says_defined h = refl
asked_no_pair form.says_true h = refl
asked_no_pair form.says_false h = refl
asked_no_pair form.says_undefined h = refl

-- ---- the first space of a text

-- the text has a space, with this before and that behind the first
record Cut (xs : List ℕ) : Type 0 where
  pub front : List ℕ
  pub rest : List ℕ
  pub whole : xs ≡ front ++ (32 ∷ rest)
  pub spaceless : no_space front ≡ true

cut_by : (x : ℕ) (xs : List ℕ) (b : Bool) → x == 32 ≡ b → not b && no_space xs ≡ false → (no_space xs ≡ false → Cut xs) → Cut (x ∷ xs)
cut_by x xs true e h more = record { front = []; rest = xs; whole = ap (λ y. y ∷ xs) (let same : x ≡ 32 = grind arith in same); spaceless = refl }
cut_by x xs false e h more =
    let c = more h in
    record { front = x ∷ c.front; rest = c.rest; whole = ap (λ y. x ∷ y) c.whole; spaceless = rw e c.spaceless }

cut : (xs : List ℕ) → no_space xs ≡ false → Cut xs
cut [] h = absurd (cc)
cut (x ∷ xs) h = cut_by x xs (x == 32) refl h (cut xs)

abbrev first : List ℕ → ℕ
first [] = 0
first (b ∷ bs) = b

apart : (n m : ℕ) → n == m ≡ false → n ≡ m → ⊥
apart n m other same = grind arith

-- what stands behind a space ends as the whole does
ending : (p q u : List ℕ) → p ++ (32 ∷ q) ≡ u ++ (93 ∷ []) → (e : List ℕ) × (q ≡ e ++ (93 ∷ []))
ending [] q [] e = absurd (apart 32 93 refl (ap first e))
ending [] q (x ∷ u) e = (u, ap (drop 1) e)
ending (x ∷ p) q [] e = let long : length (p ++ (32 ∷ q)) ≡ 0 = ap (λ z. length (drop 1 z)) e in absurd (omega (arith, long, length-append p (32 ∷ q)))
ending (x ∷ p) q (y ∷ u) e = ending p q u (ap (drop 1) e)

-- ---- a split's text

joined : (a b c : List ℕ) → (a ++ b) ++ c ≡ a ++ (b ++ c)
joined a b c = rw append_assoc refl

behind_same : (xs ys a b : List ℕ) → no_space xs ≡ true → no_space ys ≡ true → xs ++ (32 ∷ a) ≡ ys ++ (32 ∷ b) → (xs ≡ ys) × (a ≡ b)
behind_same xs ys a b hx hy e = (
  sym (space_front xs a hx) ∙ ap (λ t. take (spec.word_length t) t) e ∙ space_front ys b hy,
  ap (drop 1) (sym (space_behind xs a hx) ∙ ap (λ t. drop (spec.word_length t) t) e ∙ space_behind ys b hy),
)

place_no_space : (at : Place) → is_small (place_number at) ≡ true → no_space (place_text at ++ []) ≡ true
place_no_space (place.Choice k) h = word_no_space (decimal k ++ []) (all_append (λ b. not (b == 32) && not (b == 10)) (decimal k) [] (number_is_word k h) refl)
place_no_space (place.Definition k) h = word_no_space (decimal k ++ []) (all_append (λ b. not (b == 32) && not (b == 10)) (decimal k) [] (number_is_word k h) refl)
place_no_space (place.Node k) h = word_no_space (decimal k ++ []) (all_append (λ b. not (b == 32) && not (b == 10)) (decimal k) [] (number_is_word k h) refl)

-- no part of what stands in brackets behind a place belongs to the test
not_cut : (to : Place) (ys w : List ℕ) (asked : Asked) (xs : List ℕ) → is_small (place_number to) ≡ true → no_space xs ≡ true → is_asked asked ≡ true
    → xs ++ (32 ∷ asked_text asked) ≡ located to ys ++ (32 ∷ w) → no_space (located to ys) ≡ false → ⊥
not_cut to [] w asked xs small hx ha e h = let no : true ≡ false = sym (place_no_space to small) ∙ h in cc
not_cut to (y ∷ ys) w asked xs small hx ha e h =
    let c = cut (located to (y ∷ ys)) h in
    let bracket : located to (y ∷ ys) ≡ (place_text to ++ (91 ∷ (y ∷ ys))) ++ (93 ∷ []) = sym (joined (place_text to) (91 ∷ (y ∷ ys)) (93 ∷ [])) in
    let ends = ending c.front c.rest (place_text to ++ (91 ∷ (y ∷ ys))) (sym c.whole ∙ bracket) in
    let whole : xs ++ (32 ∷ asked_text asked) ≡ c.front ++ (32 ∷ (c.rest ++ (32 ∷ w))) = e ∙ ap (λ z. z ++ (32 ∷ w)) c.whole ∙ joined (c.front) (32 ∷ c.rest) (32 ∷ w) in
    let test : asked_text asked ≡ c.rest ++ (32 ∷ w) = (behind_same xs c.front (asked_text asked) (c.rest ++ (32 ∷ w)) hx c.spaceless whole).1 in
    let pair : asked_text asked ≡ ends.0 ++ (93 ∷ 32 ∷ w) = test ∙ ap (λ z. z ++ (32 ∷ w)) ends.1 ∙ joined (ends.0) (93 ∷ []) (32 ∷ w) in
    let no : true ≡ false = sym (pair_within ends.0 w) ∙ sym (ap has_pair pair) ∙ asked_no_pair asked ha in cc

split_by : (to : Place) (ys w : List ℕ) (asked : Asked) (xs : List ℕ) (b : Bool) → no_space (located to ys) ≡ b → is_small (place_number to) ≡ true → no_space xs ≡ true → is_asked asked ≡ true
    → xs ++ (32 ∷ asked_text asked) ≡ located to ys ++ (32 ∷ w) → (xs ≡ located to ys) × (asked_text asked ≡ w)
split_by to ys w asked xs true h small hx ha e = behind_same xs (located to ys) (asked_text asked) w hx h e
split_by to ys w asked xs false h small hx ha e = absurd (not_cut to ys w asked xs small hx ha e h)

pub split_apart : (to : Place) (ys w : List ℕ) (asked : Asked) (xs : List ℕ) → is_small (place_number to) ≡ true → is_word xs ≡ true → is_asked asked ≡ true
    → xs ++ (32 ∷ asked_text asked) ≡ located to ys ++ (32 ∷ w) → (xs ≡ located to ys) × (asked_text asked ≡ w)
split_apart to ys w asked xs small hx ha e = split_by to ys w asked xs (no_space (located to ys)) refl small (word_no_space xs hx) ha e
