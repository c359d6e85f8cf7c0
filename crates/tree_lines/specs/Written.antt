-- The forms that a text may have before a problem is asked: what stands in brackets and the value of a test are any words.
use Rattle.std.specs.Prelude.{ℕ, ℤ, Bool, true, false, not, ◌&&◌, ◌==◌, nat_le, List, [], ◌∷◌, ◌++◌, codes, decimal}
use Rattle.std.specs.List.{list_all}
use Rattle.std.specs.Fmt.{signed_decimal}
use Rattle.eb_value.specs.Typing.{in_range}
use Rattle.eb_term.specs.declared.operators.Side.{Side}
use Rattle.occurrences.specs.declared.place.Place.{Place}
use Rattle.occurrences.specs.declared.place.Place.TheVariants as place
use Rattle.occurrences.specs.declared.place.Rule.{Rule}
use Rattle.tree_lines.specs.Words.{rule_text, located, path_text, is_header}

-- A test as it is written. Those of sets fit no domain yet.
pub data Asked : Type 0 where
  at_most : List Side → ℤ → Asked
  is : List Side → List ℕ → Asked
  has : List Side → List ℕ → Asked
  card : List Side → ℤ → Asked
  says_defined : Asked
  says_true : Asked
  says_false : Asked
  says_undefined : Asked

-- A line as it is written: a place is followed by what stands in brackets, where it has any.
pub data Written : Type 0 where
  narrow : Rule → Place → List ℕ → Written
  split : Place → List ℕ → Asked → Written
  clash : Place → List ℕ → Written
  eval : ℕ → Written
  left_open : Written
  header : List ℕ → Written
  begins : Written
  ends : Written

abbrev pub asked_text : Asked → List ℕ
asked_text (at_most path n) = codes "le " ++ (path_text path ++ (codes " " ++ signed_decimal n))
asked_text (is path word) = codes "is " ++ (path_text path ++ (codes " " ++ word))
asked_text (has path word) = codes "has " ++ (path_text path ++ (codes " " ++ word))
asked_text (card path n) = codes "card " ++ (path_text path ++ (codes " " ++ signed_decimal n))
asked_text says_defined = codes "def"
asked_text says_true = codes "true"
asked_text says_false = codes "false"
asked_text says_undefined = codes "undef"

abbrev pub written_text : Written → List ℕ
written_text (narrow rule at inside) = rule_text rule ++ located at inside
written_text (split at inside asked) = codes "s " ++ (located at inside ++ (codes " " ++ asked_text asked))
written_text (clash at inside) = codes "x " ++ located at inside
written_text (eval k) = codes "e " ++ decimal k
written_text left_open = codes "o"
written_text (header text) = text
written_text begins = codes "tree 1"
written_text ends = codes "end"

-- no space and no line feed
abbrev pub is_word : List ℕ → Bool
is_word text = list_all (λ b. not (b == 32) && not (b == 10)) text

-- at most 2^62
abbrev pub is_small : ℕ → Bool
is_small k = nat_le k 4611686018427387904

abbrev pub is_none : List ℕ → Bool
is_none [] = true
is_none (b ∷ bs) = false

-- its number is small, and only what stands behind a node's number is in brackets
abbrev pub is_located : Place → List ℕ → Bool
is_located (place.Choice k) inside = is_small k && is_none inside
is_located (place.Definition k) inside = is_small k && is_none inside
is_located (place.Node k) inside = is_small k && is_word inside

abbrev pub is_asked : Asked → Bool
is_asked (at_most path n) = in_range n
is_asked (is path word) = is_word word
is_asked (has path word) = is_word word
is_asked (card path n) = in_range n
is_asked _ = true

-- its numbers lie within -2^62..2^62, and its words are words
abbrev pub is_written : Written → Bool
is_written (narrow rule at inside) = is_located at inside
is_written (split at inside asked) = is_located at inside && is_asked asked
is_written (clash at inside) = is_located at inside
is_written (eval k) = is_small k
is_written (header text) = is_header text
is_written _ = true
