-- The tables by which signs are told apart are the table of signs.
use Rattle.std.proofs.Common.{◌≡◌, ◌∙◌, ℕ, ◌<◌, Bool, true, false, cond, not, ◌&&◌, ◌||◌, ◌==◌, List, [], ◌∷◌, ◌++◌, length, refl, sym, ap, arith}
use Rattle.std.specs.Prelude.{Option, Some, None, map}
use Rattle.std.specs.List.{list_all, list_any}
use Rattle.std.specs.Str.{bytes_eq}
use Rattle.std.proofs.lemmas.Slice.Eq.{bytes_eq-Decides}
use Rattle.std.proofs.lemmas.Bool.Decides.{nat_tests}
use Rattle.eb_signs.specs.declared.sign.Sign.{Sign}
use Rattle.eb_signs.specs.Signs.{signs, sign_of, spelled_among, begins_with_letter, reserved, symbol}
use Rattle.eb_signs.specs.steps.SignTables.{sign_in, words, one_signs, twos, threes, fours, fives, operator_words, formula_words, unit_words, event_words, ascii_ones, logic_ones, set_ones, relation_ones, symbol_in}
use Rattle.eb_signs.proofs.TableLaws.{or_in, sign_in_append}

both_true : (a b : Bool) → (a && b) ≡ true → (a ≡ true) × (b ≡ true)
both_true true b e = (refl, e)
both_true false b e = absurd cc

-- ---- the table of signs as a list of pairs

abbrev pairs_of : Sign → List (List ℕ) → List (List ℕ × Sign)
pairs_of s [] = []
pairs_of s (w ∷ ws) = (w, s) ∷ pairs_of s ws

abbrev flat : List (Sign × List (List ℕ)) → List (List ℕ × Sign)
flat [] = []
flat (row ∷ rows) = pairs_of row.0 row.1 ++ flat rows

any_first : (t a : Bool) (s : Sign) (o : Option Sign) → cond (t || a) (Some s) o ≡ cond t (Some s) (cond a (Some s) o)
any_first true a s o = refl
any_first false a s o = refl

flat_row : (w : List ℕ) (s : Sign) (ws : List (List ℕ)) (rest : List (List ℕ × Sign)) → sign_in w (pairs_of s ws ++ rest) ≡ cond (list_any (bytes_eq w) ws) (Some s) (sign_in w rest)
flat_row w s [] rest = refl
flat_row w s (v ∷ vs) rest = ap (cond (bytes_eq w v) (Some s)) (flat_row w s vs rest) ∙ sym (any_first (bytes_eq w v) (list_any (bytes_eq w) vs) s (sign_in w rest))

flat_same : (w : List ℕ) (rows : List (Sign × List (List ℕ))) → sign_in w (flat rows) ≡ spelled_among w rows
flat_same w [] = refl
flat_same w (row ∷ rows) = flat_row w row.0 row.1 (flat rows) ∙ ap (cond (list_any (bytes_eq w) row.1) (Some row.0)) (flat_same w rows)

-- ---- two tables that agree on each other's spellings

-- each spelling of the first table has its sign in the second
abbrev Within : List (List ℕ × Sign) → List (List ℕ × Sign) → Type 0
Within rows others = map (λ (row : List ℕ × Sign). sign_in row.0 others) rows ≡ map (λ (row : List ℕ × Sign). Some row.1) rows

carried_row : (t : Bool) (w v : List ℕ) (s u : Sign) (others : List (List ℕ × Sign)) (o : Option Sign) → bytes_eq w v ≡ t → sign_in v others ≡ Some u
    → (o ≡ Some s → sign_in w others ≡ Some s) → cond t (Some u) o ≡ Some s → sign_in w others ≡ Some s
carried_row true w v s u others o same here more e =
    let is : w ≡ v = (bytes_eq-Decides w v).0 same in
    ap (λ (z : List ℕ). sign_in z others) is ∙ here ∙ e
carried_row false w v s u others o same here more e = more e

carried : (rows others : List (List ℕ × Sign)) → Within rows others → (w : List ℕ) (s : Sign) → sign_in w rows ≡ Some s → sign_in w others ≡ Some s
carried [] others h w s e = absurd cc
carried (row ∷ rows) others h w s e =
    let here : sign_in row.0 others ≡ Some row.1 = cc in
    let more : Within rows others = cc in
    carried_row (bytes_eq w row.0) w row.0 s row.1 others (sign_in w rows) refl here (carried rows others more w s) e

agreed : (o p : Option Sign) → ((s : Sign) → o ≡ Some s → p ≡ Some s) → ((s : Sign) → p ≡ Some s → o ≡ Some s) → o ≡ p
agreed None None f g = refl
agreed None (Some s) f g = g s refl
agreed (Some s) p f g = sym (f s refl)

-- the signs that are no words, by their number of characters
unfoldable symbols : List (List ℕ × Sign)
symbols = one_signs ++ (twos ++ (threes ++ (fours ++ fives)))

unfoldable all_signs : List (List ℕ × Sign)
all_signs = words ++ symbols

signs_within : Within (flat signs) all_signs
unfolding signs all_signs symbols words one_signs twos threes fours fives operator_words formula_words unit_words event_words ascii_ones logic_ones set_ones relation_ones
signs_within = refl

all_within : Within all_signs (flat signs)
unfolding signs all_signs symbols words one_signs twos threes fours fives operator_words formula_words unit_words event_words ascii_ones logic_ones set_ones relation_ones
all_within = refl

sign_of_all : (w : List ℕ) → sign_of w ≡ sign_in w all_signs
unfolding sign_of
sign_of_all w = sym (flat_same w signs) ∙ agreed (sign_in w (flat signs)) (sign_in w all_signs) (carried (flat signs) all_signs signs_within w) (carried all_signs (flat signs) all_within w)

-- ---- words begin with letters, and other signs don't

words_begin : list_all (λ (row : List ℕ × Sign). begins_with_letter row.0) words ≡ true
unfolding words operator_words formula_words unit_words event_words
words_begin = refl

symbols_begin : list_all (λ (row : List ℕ × Sign). not (begins_with_letter row.0)) symbols ≡ true
unfolding symbols one_signs twos threes fours fives ascii_ones logic_ones set_ones relation_ones
symbols_begin = refl

absent_row : (t : Bool) (p : List ℕ → Bool) (w v : List ℕ) (u : Sign) (o : Option Sign) → bytes_eq w v ≡ t → p v ≡ true → p w ≡ false → o ≡ None → cond t (Some u) o ≡ None
absent_row true p w v u o same passes fails e = let is : w ≡ v = (bytes_eq-Decides w v).0 same in let f : p w ≡ true = ap p is ∙ passes in absurd cc
absent_row false p w v u o same passes fails e = e

-- a text that fails what all spellings pass is not among them
absent : (p : List ℕ → Bool) (rows : List (List ℕ × Sign)) (w : List ℕ) → list_all (λ (row : List ℕ × Sign). p row.0) rows ≡ true → p w ≡ false → sign_in w rows ≡ None
absent p [] w all fails = refl
absent p (row ∷ rows) w all fails =
    let parts = both_true (p row.0) (list_all (λ (r : List ℕ × Sign). p r.0) rows) all in
    absent_row (bytes_eq w row.0) p w row.0 row.1 (sign_in w rows) refl parts.0 fails (absent p rows w parts.1 fails)

or_none : (o : Option Sign) → or_in o None ≡ o
or_none None = refl
or_none (Some s) = refl

-- what begins with a letter or doesn't
parted : (w : List ℕ) → sign_of w ≡ or_in (sign_in w words) (sign_in w symbols)
unfolding all_signs
parted w = sign_of_all w ∙ sign_in_append w words symbols

reserved_at : (w : List ℕ) (t : Bool) → begins_with_letter w ≡ t → cond t (sign_of w) None ≡ sign_in w words
reserved_at w true h = parted w ∙ ap (or_in (sign_in w words)) (absent (λ v. not (begins_with_letter v)) symbols w symbols_begin (ap not h)) ∙ or_none (sign_in w words)
reserved_at w false h = sym (absent begins_with_letter words w words_begin h)

pub reserved_is : (w : List ℕ) → reserved w ≡ sign_in w words
unfolding reserved
reserved_is w = reserved_at w (begins_with_letter w) refl

symbol_at : (w : List ℕ) (t : Bool) → begins_with_letter w ≡ t → cond t None (sign_of w) ≡ sign_in w symbols
symbol_at w true h = sym (absent (λ v. not (begins_with_letter v)) symbols w symbols_begin (ap not h))
symbol_at w false h = parted w ∙ ap (λ (o : Option Sign). or_in o (sign_in w symbols)) (absent begins_with_letter words w words_begin h)

-- ---- other signs by their number of characters

abbrev HasLength : ℕ → List (List ℕ × Sign) → Type 0
HasLength k rows = list_all (λ (row : List ℕ × Sign). length row.0 == k) rows ≡ true

ones_length : HasLength 1 one_signs
unfolding one_signs ascii_ones logic_ones set_ones relation_ones
ones_length = refl

twos_length : HasLength 2 twos
unfolding twos
twos_length = refl

threes_length : HasLength 3 threes
unfolding threes
threes_length = refl

fours_length : HasLength 4 fours
unfolding fours
fours_length = refl

fives_length : HasLength 5 fives
unfolding fives
fives_length = refl

differs : (n k : ℕ) → k < n → (n == k) ≡ false
differs n k h = grind (arith, nat_tests)

-- the tables one by one
in_symbols : (w : List ℕ) → sign_in w symbols ≡ or_in (sign_in w one_signs) (or_in (sign_in w twos) (or_in (sign_in w threes) (or_in (sign_in w fours) (sign_in w fives))))
unfolding symbols
in_symbols w =
    sign_in_append w one_signs (twos ++ (threes ++ (fours ++ fives)))
    ∙ ap (or_in (sign_in w one_signs)) (sign_in_append w twos (threes ++ (fours ++ fives))
    ∙ ap (or_in (sign_in w twos)) (sign_in_append w threes (fours ++ fives)
    ∙ ap (or_in (sign_in w threes)) (sign_in_append w fours fives)))

abbrev no_sign : (k : ℕ) (rows : List (List ℕ × Sign)) → HasLength k rows → (w : List ℕ) → (length w == k) ≡ false → sign_in w rows ≡ None
no_sign k rows h w e = absent (λ v. length v == k) rows w h e

empty_is : sign_in [] symbols ≡ None
unfolding symbols one_signs twos threes fours fives ascii_ones logic_ones set_ones relation_ones
empty_is = refl

one_is : (a : ℕ) → sign_in (a ∷ []) symbols ≡ sign_in (a ∷ []) one_signs
one_is a =
    let w : List ℕ = a ∷ [] in
    let e2 : sign_in w twos ≡ None = no_sign 2 twos twos_length w refl in
    let e3 : sign_in w threes ≡ None = no_sign 3 threes threes_length w refl in
    let e4 : sign_in w fours ≡ None = no_sign 4 fours fours_length w refl in
    let e5 : sign_in w fives ≡ None = no_sign 5 fives fives_length w refl in
    in_symbols w ∙ rw (e2, e3, e4, e5) (or_none (sign_in w one_signs))

two_is : (a b : ℕ) → sign_in (a ∷ b ∷ []) symbols ≡ sign_in (a ∷ b ∷ []) twos
two_is a b =
    let w : List ℕ = a ∷ b ∷ [] in
    let e1 : sign_in w one_signs ≡ None = no_sign 1 one_signs ones_length w refl in
    let e3 : sign_in w threes ≡ None = no_sign 3 threes threes_length w refl in
    let e4 : sign_in w fours ≡ None = no_sign 4 fours fours_length w refl in
    let e5 : sign_in w fives ≡ None = no_sign 5 fives fives_length w refl in
    in_symbols w ∙ rw (e1, e3, e4, e5) (or_none (sign_in w twos))

three_is : (a b c : ℕ) → sign_in (a ∷ b ∷ c ∷ []) symbols ≡ sign_in (a ∷ b ∷ c ∷ []) threes
three_is a b c =
    let w : List ℕ = a ∷ b ∷ c ∷ [] in
    let e1 : sign_in w one_signs ≡ None = no_sign 1 one_signs ones_length w refl in
    let e2 : sign_in w twos ≡ None = no_sign 2 twos twos_length w refl in
    let e4 : sign_in w fours ≡ None = no_sign 4 fours fours_length w refl in
    let e5 : sign_in w fives ≡ None = no_sign 5 fives fives_length w refl in
    in_symbols w ∙ rw (e1, e2, e4, e5) (or_none (sign_in w threes))

four_is : (a b c d : ℕ) → sign_in (a ∷ b ∷ c ∷ d ∷ []) symbols ≡ sign_in (a ∷ b ∷ c ∷ d ∷ []) fours
four_is a b c d =
    let w : List ℕ = a ∷ b ∷ c ∷ d ∷ [] in
    let e1 : sign_in w one_signs ≡ None = no_sign 1 one_signs ones_length w refl in
    let e2 : sign_in w twos ≡ None = no_sign 2 twos twos_length w refl in
    let e3 : sign_in w threes ≡ None = no_sign 3 threes threes_length w refl in
    let e5 : sign_in w fives ≡ None = no_sign 5 fives fives_length w refl in
    in_symbols w ∙ rw (e1, e2, e3, e5) (or_none (sign_in w fours))

five_is : (a b c d e : ℕ) → sign_in (a ∷ b ∷ c ∷ d ∷ e ∷ []) symbols ≡ sign_in (a ∷ b ∷ c ∷ d ∷ e ∷ []) fives
five_is a b c d e =
    let w : List ℕ = a ∷ b ∷ c ∷ d ∷ e ∷ [] in
    let e1 : sign_in w one_signs ≡ None = no_sign 1 one_signs ones_length w refl in
    let e2 : sign_in w twos ≡ None = no_sign 2 twos twos_length w refl in
    let e3 : sign_in w threes ≡ None = no_sign 3 threes threes_length w refl in
    let e4 : sign_in w fours ≡ None = no_sign 4 fours fours_length w refl in
    in_symbols w ∙ rw (e1, e2, e3, e4) refl

none_longer : (a : ℕ) (cs : List ℕ) → 5 < length (a ∷ cs) → sign_in (a ∷ cs) symbols ≡ None
none_longer a cs l =
    let w : List ℕ = a ∷ cs in
    let e1 : sign_in w one_signs ≡ None = no_sign 1 one_signs ones_length w (differs (length w) 1 (omega arith)) in
    let e2 : sign_in w twos ≡ None = no_sign 2 twos twos_length w (differs (length w) 2 (omega arith)) in
    let e3 : sign_in w threes ≡ None = no_sign 3 threes threes_length w (differs (length w) 3 (omega arith)) in
    let e4 : sign_in w fours ≡ None = no_sign 4 fours fours_length w (differs (length w) 4 (omega arith)) in
    let e5 : sign_in w fives ≡ None = no_sign 5 fives fives_length w (differs (length w) 5 (omega arith)) in
    in_symbols w ∙ rw (e1, e2, e3, e4, e5) refl

by_length : (w : List ℕ) → sign_in w symbols ≡ symbol_in w
unfolding symbol_in
by_length [] = empty_is
by_length (a ∷ []) = one_is a
by_length (a ∷ b ∷ []) = two_is a b
by_length (a ∷ b ∷ c ∷ []) = three_is a b c
by_length (a ∷ b ∷ c ∷ d ∷ []) = four_is a b c d
by_length (a ∷ b ∷ c ∷ d ∷ e ∷ []) = five_is a b c d e
by_length (a ∷ b ∷ c ∷ d ∷ e ∷ f ∷ more) = none_longer a (b ∷ c ∷ d ∷ e ∷ f ∷ more) (omega arith)

pub symbol_is : (w : List ℕ) → symbol w ≡ symbol_in w
unfolding symbol
symbol_is w = symbol_at w (begins_with_letter w) refl ∙ by_length w
