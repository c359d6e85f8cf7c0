-- A row's text has no line feed, no space and no closing bracket.
use Rattle.std.proofs.Common.{◌≡◌, ℕ, zero, suc, ◌/◌, ◌%◌, ◌<◌, Bool, true, false, nat_lt, not, ◌&&◌, ◌==◌, if◌then◌else◌, ℤ, pos, negsuc, List, [], ◌∷◌, ◌++◌, map, refl, sym, subst, arith}
use Rattle.std.specs.Prelude.{codes, All}
use Rattle.std.specs.List.{AllByRecursion, join_with_byte, list_all}
use Rattle.std.specs.Cmp.{first_so, second_so}
use Rattle.std.specs.Fmt.{digits, digits_onto, digit_glyph, decimal, signed_decimal}
use Rattle.std.proofs.lemmas.Bool.Decides.{nat_tests}
use Rattle.std.proofs.lemmas.List.Elements.{All-nil, All-cons, All-head, All-tail, All-append}
use Rattle.eb_value.specs.declared.value.Value.{Value}
use Rattle.eb_value.specs.Texts.{StaysInRow, truth_text, name_at, atom_text, value_text, values_text}
use Rattle.eb_value.proofs.Induction.{ind_value}
use Rattle.eb_value.proofs.TextLaws.{value_text-int, value_text-truth, value_text-atom, value_text-pair, value_text-set}

abbrev Stay : List ℕ → Type 0
Stay = All StaysInRow

-- ---- texts that are written out

abbrev is_plain : ℕ → Bool
is_plain b = nat_lt 32 b && not (b == 93)

stays : (b : ℕ) → nat_lt 32 b ≡ true → not (b == 93) ≡ true → StaysInRow b
stays b h k = grind (arith, nat_tests)

plain : (s : List ℕ) → list_all is_plain s ≡ true → Stay s
plain [] h = All-nil StaysInRow
plain (b ∷ s) h =
    let first = first_so (is_plain b) (list_all is_plain s) h in
    All-cons StaysInRow b s (stays b (first_so (nat_lt 32 b) (not (b == 93)) first) (second_so (nat_lt 32 b) (not (b == 93)) first))
    (plain s (second_so (is_plain b) (list_all is_plain s) h))

-- ---- numbers

glyph_stays : (d : ℕ) → d < 10 → StaysInRow (digit_glyph false d)
glyph_stays d h = let e : nat_lt d 10 ≡ true = grind (arith, nat_tests) in rw e (omega arith, omega arith, omega arith)

either : (b : Bool) (s t : List ℕ) → Stay s → Stay t → Stay (if b then s else t)
either true s t h k = h
either false s t h k = k

onto_stays : (k n : ℕ) (s : List ℕ) → Stay s → Stay (digits_onto k 10 false n s)
onto_stays zero n s h = h
onto_stays (suc k) n s h =
    let longer : Stay (digit_glyph false (n % 10) ∷ s) = All-cons StaysInRow (digit_glyph false (n % 10)) s (glyph_stays (n % 10) (omega arith)) h in
    either (n / 10 == 0) (digit_glyph false (n % 10) ∷ s) (digits_onto k 10 false (n / 10) (digit_glyph false (n % 10) ∷ s)) longer
    (onto_stays k (n / 10) (digit_glyph false (n % 10) ∷ s) longer)

decimal_stays : (n : ℕ) → Stay (decimal n)
unfolding digits
decimal_stays n = onto_stays 64 n [] (All-nil StaysInRow)

integer_stays : (n : ℤ) → Stay (signed_decimal n)
integer_stays (pos n) = decimal_stays n
integer_stays (negsuc n) = All-cons StaysInRow 45 (decimal (suc n)) (omega arith, omega arith, omega arith) (decimal_stays (suc n))

truth_stays : (b : Bool) → Stay (truth_text b)
truth_stays true = plain (codes "TRUE") refl
truth_stays false = plain (codes "FALSE") refl

-- ---- names and values

name_stays : (names : List (List ℕ)) → All Stay names → (place : ℕ) → Stay (name_at names place)
name_stays [] h place = All-nil StaysInRow
name_stays (name ∷ names) h zero = All-head Stay name names h
name_stays (name ∷ names) h (suc place) = name_stays names (All-tail Stay name names h) place

-- texts in a row: each part stays in it
both : (s t : List ℕ) → Stay s → Stay t → Stay (s ++ t)
both = All-append StaysInRow

joined_stays : (f : Value → List ℕ) (vs : List Value) → AllByRecursion (λ v. Stay (f v)) vs → Stay (join_with_byte 44 (map f vs))
joined_stays f [] h = All-nil StaysInRow
joined_stays f (v ∷ []) h = h.0
joined_stays f (v ∷ w ∷ vs) h = both (f v) (44 ∷ join_with_byte 44 (map f (w ∷ vs))) h.0
    (All-cons StaysInRow 44 (join_with_byte 44 (map f (w ∷ vs))) (omega arith, omega arith, omega arith) (joined_stays f (w ∷ vs) h.1))

module _ (names : List (List ℕ)) (named : All Stay names) where
  abbrev Prints : Value → Type 0
  Prints v = Stay (value_text names v)

  atom_stays : (place k : ℕ) → Stay (atom_text names place k)
  atom_stays place k = both (name_at names place) (codes "#" ++ decimal k) (name_stays names named place) (both (codes "#") (decimal k) (plain (codes "#") refl) (decimal_stays k))

  pair_stays : (s t : List ℕ) → Stay s → Stay t → Stay (codes "(" ++ (s ++ (codes "|->" ++ (t ++ codes ")"))))
  pair_stays s t h k =
      both (codes "(") (s ++ (codes "|->" ++ (t ++ codes ")"))) (plain (codes "(") refl)
      (both s (codes "|->" ++ (t ++ codes ")")) h (both (codes "|->") (t ++ codes ")") (plain (codes "|->") refl) (both t (codes ")") k (plain (codes ")") refl))))

  set_stays : (s : List ℕ) → Stay s → Stay (codes "{" ++ (s ++ codes "}"))
  set_stays s h = both (codes "{") (s ++ codes "}") (plain (codes "{") refl) (both s (codes "}") h (plain (codes "}") refl))

  value_stays : (v : Value) → Prints v
  value_stays = ind_value Prints (record {
    int = λ n. subst Stay (sym (value_text-int names n)) (integer_stays n);
    truth = λ b. subst Stay (sym (value_text-truth names b)) (truth_stays b);
    atom = λ place k. subst Stay (sym (value_text-atom names place k)) (atom_stays place k);
    pair = λ a b h k. subst Stay (sym (value_text-pair names a b)) (pair_stays (value_text names a) (value_text names b) h k);
    set = λ vs h. subst Stay (sym (value_text-set names vs)) (set_stays (join_with_byte 44 (map (value_text names) vs)) (joined_stays (value_text names) vs h));
  })

  each_stays : (vs : List Value) → AllByRecursion Prints vs
  each_stays [] = tt
  each_stays (v ∷ vs) = (value_stays v, each_stays vs)

  pub values_stay : (vs : List Value) → Stay (values_text names vs)
  values_stay vs = joined_stays (value_text names) vs (each_stays vs)
