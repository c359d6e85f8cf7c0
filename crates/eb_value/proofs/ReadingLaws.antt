-- What is printed of a value of a type is read as that value.
use Rattle.std.proofs.Common.{◌≡◌, ◌≢◌, ◌∙◌, ℕ, zero, suc, ◌+◌, ◌-◌, ◌*◌, ◌/◌, ◌%◌, ◌^◌, ◌<◌, ◌≤◌, min, Bool, true, false, not, ◌&&◌, ◌==◌, nat_eq, nat_le, if◌then◌else◌, ℤ, pos, negsuc, neg_ℤ, List, [], ◌∷◌, ◌++◌, map, length, Option, Some, None, Result, Ok, Err, IfOk, refl, sym, ap, subst, arith, rules, append_assoc, append-nil, length-append}
use Rattle.std.specs.Prelude.{codes, slice_index, All}
use Rattle.std.specs.List.{Contains, list_all, join_with_byte}
use Rattle.std.specs.Fmt.{decimal, signed_decimal}
use Rattle.std.specs.Char.{is_ascii_digit}
use Rattle.std.specs.Cmp.{first_so, second_so}
use Rattle.std.specs.Cmp.Lexicographic.{pointwise, nat_list_eq_equiv}
use Rattle.std.proofs.lemmas.Fmt.{decimal_by_steps}
use Rattle.std.proofs.lemmas.Bool.Decides.{nat_tests}
use Rattle.std.proofs.lemmas.List.Elements.{All-head, All-tail}
use Rattle.eb_value.specs.declared.read.ValueFault.{ValueFault}
use Rattle.eb_value.specs.declared.read.ValueFault.TheVariants as fault
use Rattle.eb_value.specs.declared.scope.Scope.{Scope}
use Rattle.eb_value.specs.declared.types.EbType.{EbType, the_lemmas}
use Rattle.eb_value.specs.declared.value.Value.{Value}
use Rattle.eb_value.specs.Types.{integer, boolean, carrier, product, power}
use Rattle.eb_value.specs.Values.{int, truth, atom, pair, set, is_ascending}
use Rattle.eb_value.specs.Typing.{size_of, in_range, has_type}
use Rattle.eb_value.specs.Texts.{AreReadable, name_at, truth_text, atom_text, value_text}
use Rattle.eb_value.specs.steps.Reading
use Rattle.eb_value.specs.steps.Reading.{◌>>=◌}
use Rattle.eb_value.proofs.Induction.{as_int, as_truth, as_atom, as_pair, as_set}
use Rattle.eb_value.proofs.TypeInduction.{ind_type}
use Rattle.eb_value.proofs.Members.{contains_here, contains_there}
use Rattle.eb_value.proofs.TypingLaws
use Rattle.eb_value.proofs.TextLaws.{value_text-int, value_text-truth, value_text-atom, value_text-pair, value_text-set}
use Rattle.eb_value.proofs.Completeness.{passed_atom}

-- ---- digits

-- no digit stands at the front
abbrev pub ends : List ℕ → Bool
ends [] = true
ends (c ∷ cs) = not (is_ascii_digit c)

digits_end : (n : ℕ) (rest : List ℕ) → ends rest ≡ true → Reading.digits_at n rest ≡ (n, rest)
digits_end n [] h = refl
digits_end n (c ∷ cs) h = let e : is_ascii_digit c ≡ false = not_so (is_ascii_digit c) h in rw e refl where
  not_so : (b : Bool) → not b ≡ true → b ≡ false
  not_so true k = cc
  not_so false k = refl

digit_so : (n : ℕ) → n < 10 → is_ascii_digit (48 + n) ≡ true
digit_so n h = grind (arith, nat_tests)

digit_step : (m n : ℕ) (rest : List ℕ) → n < 10 → m * 10 + n < 2 ^ 64 → Reading.digits_at m ((48 + n) ∷ rest) ≡ Reading.digits_at (m * 10 + n) rest
digit_step m n rest h b =
    let e : Reading.with_digit m (48 + n) ≡ m * 10 + n = omega arith in
    rw (digit_so n h, e) refl

abbrev Front : ℕ → List ℕ → Type 0
Front n ds = n < 2 ^ 64 → (rest : List ℕ) → Reading.digits_at 0 (ds ++ rest) ≡ Reading.digits_at n rest

front_one : (n : ℕ) → n < 10 → Front n ((48 + n) ∷ [])
front_one n h b rest = let e : 0 * 10 + n ≡ n = omega arith in digit_step 0 n rest h (omega arith) ∙ ap (λ k. Reading.digits_at k rest) e

front_more : (n : ℕ) (ds : List ℕ) → 10 ≤ n → Front (n / 10) ds → Front n (ds ++ ((48 + n % 10) ∷ []))
front_more n ds h p b rest =
    let e : n / 10 * 10 + n % 10 ≡ n = omega arith in
    ap (Reading.digits_at 0) (append_assoc ds ((48 + n % 10) ∷ []) rest) ∙ p (omega arith) ((48 + n % 10) ∷ rest)
    ∙ digit_step (n / 10) (n % 10) rest (omega arith) (omega arith) ∙ ap (λ k. Reading.digits_at k rest) e

digits_front : (n : ℕ) → n < 2 ^ 64 → (rest : List ℕ) → ends rest ≡ true → Reading.digits_at 0 (decimal n ++ rest) ≡ (n, rest)
digits_front n h rest e = decimal_by_steps Front front_one front_more n h h rest ∙ digits_end n rest e

abbrev Headed : ℕ → List ℕ → Type 0
Headed n ds = (d : ℕ) × (t : List ℕ) × (ds ≡ d ∷ t) × (is_ascii_digit d ≡ true)

headed : (n : ℕ) → n < 2 ^ 64 → Headed n (decimal n)
headed = decimal_by_steps Headed
    (λ n h. (48 + n, [], refl, digit_so n h))
    (λ n ds h p. (p.0, p.1 ++ (48 + n % 10) ∷ [], ap (λ xs. xs ++ (48 + n % 10) ∷ []) p.2, p.3))

no_sign : (d : ℕ) → is_ascii_digit d ≡ true → (d == 45) ≡ false
no_sign d h = grind (arith, nat_tests)

no_brace : (d : ℕ) → is_ascii_digit d ≡ true → d ≢ 125
no_brace d h = grind (arith, nat_tests)

-- ---- what a text begins with

abbrev Begins : List ℕ → Type 0
Begins s = (c : ℕ) × (cs : List ℕ) × (s ≡ c ∷ cs) × (c ≢ 125)

begins_longer : (s rest : List ℕ) → Begins s → Begins (s ++ rest)
begins_longer s rest h = (h.0, h.1 ++ rest, ap (λ xs. xs ++ rest) h.2, h.3)

pub after_self : (front rest : List ℕ) → Reading.after front (front ++ rest) ≡ Some rest
after_self [] rest = refl
after_self (x ∷ xs) rest = let e : (x == x) ≡ true = grind (arith, nat_tests) in rw e (after_self xs rest)

no_close : (s : List ℕ) → Begins s → Reading.after (codes "}") s ≡ None
no_close s h =
    let differs : (h.0 == 125) ≡ false = let n : h.0 ≢ 125 = h.3 in grind (arith, nat_tests) in
    ap (Reading.after (codes "}")) h.2 ∙ rw differs refl

-- ---- integers

small_pos : (n : ℕ) → in_range (pos n) ≡ true → n < 2 ^ 63
small_pos n h = grind (arith, nat_tests)

small_neg : (n : ℕ) → in_range (negsuc n) ≡ true → n < 2 ^ 62
small_neg n h = grind (arith, nat_tests)

plain : (s : List ℕ) (d : ℕ) (t : List ℕ) → s ≡ d ∷ t → (d == 45) ≡ false → Reading.integer_at s ≡ Some (int (Reading.capped (Reading.digits_at 0 s).0), (Reading.digits_at 0 s).1)
plain s d t e h = let P : List ℕ → Type 0 = λ s. Reading.integer_at s ≡ Some (int (Reading.capped (Reading.digits_at 0 s).0), (Reading.digits_at 0 s).1) in subst P (sym e) (rw h refl)

integer_read : (n : ℤ) (rest : List ℕ) → in_range n ≡ true → ends rest ≡ true → Reading.integer_at (signed_decimal n ++ rest) ≡ Some (int n, rest)
integer_read (pos n) rest h e =
    let small : n < 2 ^ 63 = small_pos n h in
    let front = headed n (omega arith) in
    let digits : Reading.digits_at 0 (decimal n ++ rest) ≡ (n, rest) = digits_front n (omega arith) rest e in
    let same : min n (2 ^ 63 - 1) ≡ n = omega arith in
    plain (decimal n ++ rest) front.0 (front.1 ++ rest) (ap (λ xs. xs ++ rest) front.2) (no_sign front.0 front.3)
    ∙ ap (λ (p : ℕ × List ℕ). Some (int (Reading.capped p.0), p.1)) digits ∙ ap (λ m. Some (int (pos m), rest)) same
integer_read (negsuc n) rest h e =
    let small : n < 2 ^ 62 = small_neg n h in
    let digits : Reading.digits_at 0 (decimal (suc n) ++ rest) ≡ (suc n, rest) = digits_front (suc n) (omega arith) rest e in
    let same : min (suc n) (2 ^ 63 - 1) ≡ suc n = omega arith in
    ap (λ (p : ℕ × List ℕ). Some (int (neg_ℤ (Reading.capped p.0)), p.1)) digits ∙ ap (λ m. Some (int (neg_ℤ (pos m)), rest)) same

integer_begins : (n : ℤ) → in_range n ≡ true → Begins (signed_decimal n)
integer_begins (pos n) h = let front = headed n (let small : n < 2 ^ 63 = small_pos n h in omega arith) in (front.0, front.1, front.2, no_brace front.0 front.3)
integer_begins (negsuc n) h = (45, decimal (suc n), refl, omega arith)

-- ---- a value of each type

module _ (names : List (List ℕ)) (scope : Scope) (readable : AreReadable names) (fit : All (λ size. size < 2 ^ 32) scope.sizes) where
  -- the value's text is read as the value, and begins with no closing brace
  record Prints (t : EbType) (w : Value) : Type 0 where
    read : (rest : List ℕ) → ends rest ≡ true → Reading.value_at names scope.sizes t (value_text names w ++ rest) ≡ Some (w, rest)
    begins : Begins (value_text names w)

  abbrev AllPrint : EbType → Type 0
  AllPrint t = (w : Value) → has_type scope w t ≡ true → Prints t w

  at_integer : (s : List ℕ) → Reading.value_at names scope.sizes integer s ≡ Reading.integer_at s
  at_integer s = search (rules, the_lemmas)

  at_boolean : (s : List ℕ) → Reading.value_at names scope.sizes boolean s ≡ Reading.truth_at s
  at_boolean s = search (rules, the_lemmas)

  at_carrier : (place : ℕ) (s : List ℕ) → Reading.value_at names scope.sizes (carrier place) s ≡ Reading.atom_at names scope.sizes place s
  at_carrier place s = search (rules, the_lemmas)

  at_product : (t u : EbType) (s : List ℕ) → Reading.value_at names scope.sizes (product t u) s ≡ Reading.pair_at (Reading.value_at names scope.sizes t) (Reading.value_at names scope.sizes u) s
  at_product t u s = search (rules, the_lemmas)

  at_power : (t : EbType) (s : List ℕ) → Reading.value_at names scope.sizes (power t) s ≡ Reading.set_at (Reading.value_at names scope.sizes t) s
  at_power t s = search (rules, the_lemmas)

  print-integer : AllPrint integer
  print-integer = as_int (λ w. has_type scope w integer ≡ true → Prints integer w)
      (λ n h.
      let range : in_range n ≡ true = sym (TypingLaws.has_type-int scope n) ∙ h in
      record {
        read = λ rest e. rw (value_text-int names n) (at_integer (signed_decimal n ++ rest) ∙ integer_read n rest range e);
        begins = subst Begins (sym (value_text-int names n)) (integer_begins n range);
      })
      (λ w k h. let e : false ≡ true = sym (TypingLaws.integer_other scope w k) ∙ h in cc)

  truth_read : (b : Bool) (rest : List ℕ) → Reading.truth_at (truth_text b ++ rest) ≡ Some (truth b, rest)
  truth_read true rest = refl
  truth_read false rest = refl

  truth_begins : (b : Bool) → Begins (truth_text b)
  truth_begins true = (84, codes "RUE", refl, omega arith)
  truth_begins false = (70, codes "ALSE", refl, omega arith)

  print-boolean : AllPrint boolean
  print-boolean = as_truth (λ w. has_type scope w boolean ≡ true → Prints boolean w)
      (λ b h. record {
        read = λ rest e. rw (value_text-truth names b) (at_boolean (truth_text b ++ rest) ∙ truth_read b rest);
        begins = subst Begins (sym (value_text-truth names b)) (truth_begins b);
      })
      (λ w k h. let e : false ≡ true = sym (TypingLaws.boolean_other scope w k) ∙ h in cc)

  atom_read : (place k : ℕ) (rest : List ℕ) → k < 2 ^ 64 → nat_le k (size_of scope.sizes place) ≡ true → ends rest ≡ true → Reading.atom_at names scope.sizes place (atom_text names place k ++ rest) ≡ Some (atom place k, rest)
  atom_read place k rest b l e =
      let grouped : atom_text names place k ++ rest ≡ name_at names place ++ (codes "#" ++ (decimal k ++ rest)) = append_assoc (name_at names place) (codes "#" ++ decimal k) rest in
      let digits : Reading.digits_at 0 (decimal k ++ rest) ≡ (k, rest) = digits_front k b rest e in
      ap (Reading.atom_at names scope.sizes place) grouped
      ∙ ap (λ o. o >>= (λ a. Reading.after (codes "#") a >>= (λ b. if nat_le (Reading.digits_at 0 b).0 (size_of scope.sizes place) then Some (atom place (Reading.digits_at 0 b).0, (Reading.digits_at 0 b).1) else None))) (after_self (name_at names place) (codes "#" ++ (decimal k ++ rest)))
      ∙ ap (λ (p : ℕ × List ℕ). if nat_le p.0 (size_of scope.sizes place) then Some (atom place p.0, p.1) else None) digits
      ∙ rw l refl

  size_fits_in : (sizes : List ℕ) → All (λ size. size < 2 ^ 32) sizes → (place : ℕ) → size_of sizes place < 2 ^ 32
  size_fits_in [] h place = omega arith
  size_fits_in (x ∷ sizes) h zero = All-head (λ size. size < 2 ^ 32) x sizes h
  size_fits_in (x ∷ sizes) h (suc place) = size_fits_in sizes (All-tail (λ size. size < 2 ^ 32) x sizes h) place

  name_begins_in : (names : List (List ℕ)) → AreReadable names → (place k : ℕ) → Begins (atom_text names place k)
  name_begins_in [] h place k = (35, decimal k, refl, omega arith)
  name_begins_in ([] ∷ names) h zero k = (35, decimal k, refl, omega arith)
  name_begins_in ((c ∷ cs) ∷ names) h zero k = (c, cs ++ (codes "#" ++ decimal k), refl, All-head (λ name. slice_index name 0 ≢ 125) (c ∷ cs) names h)
  name_begins_in (name ∷ names) h (suc place) k = name_begins_in names (All-tail (λ name. slice_index name 0 ≢ 125) name names h) place k

  print-carrier : (place : ℕ) → AllPrint (carrier place)
  print-carrier place = as_atom (λ w. has_type scope w (carrier place) ≡ true → Prints (carrier place) w)
      (λ s k h.
      let p = passed_atom s place k (size_of scope.sizes s) (sym (TypingLaws.has_type-atom scope place s k) ∙ h) in
      let below : k < 1 + size_of scope.sizes place = subst (λ q. k < 1 + size_of scope.sizes q) p.0 p.2 in
      let fits : size_of scope.sizes place < 2 ^ 32 = size_fits_in scope.sizes fit place in
      let within : nat_le k (size_of scope.sizes place) ≡ true = grind (arith, nat_tests) in
      subst (λ q. Prints (carrier place) (atom q k)) (sym p.0) (record {
        read = λ rest e. rw (value_text-atom names place k) (at_carrier place (atom_text names place k ++ rest) ∙ atom_read place k rest (omega arith) within e);
        begins = subst Begins (sym (value_text-atom names place k)) (name_begins_in names readable place k);
      }))
      (λ w k h. let e : false ≡ true = sym (TypingLaws.carrier_other scope place w k) ∙ h in cc)

  opened_read : (t : EbType) (a : Value) → Prints t a → (rest : List ℕ) → Reading.opened_at (Reading.value_at names scope.sizes t) (codes "(" ++ (value_text names a ++ (codes "|->" ++ rest))) ≡ Some (a, rest)
  opened_read t a p rest = ap (λ o. o >>= (λ x. Reading.after (codes "|->") x.1 >>= (λ b. Some (x.0, b)))) (p.read (codes "|->" ++ rest) refl)

  closed_read : (t : EbType) (a : Value) → Prints t a → (rest : List ℕ) → Reading.closed_at (Reading.value_at names scope.sizes t) (value_text names a ++ (codes ")" ++ rest)) ≡ Some (a, rest)
  closed_read t a p rest = ap (λ o. o >>= (λ y. Reading.after (codes ")") y.1 >>= (λ c. Some (y.0, c)))) (p.read (codes ")" ++ rest) refl)

  pair_read : (t u : EbType) (a b : Value) → Prints t a → Prints u b → (rest : List ℕ) → Reading.pair_at (Reading.value_at names scope.sizes t) (Reading.value_at names scope.sizes u) (codes "(" ++ (value_text names a ++ (codes "|->" ++ (value_text names b ++ (codes ")" ++ rest))))) ≡ Some (pair a b, rest)
  pair_read t u a b p q rest =
      ap (λ o. o >>= (λ x. Reading.closed_at (Reading.value_at names scope.sizes u) x.1 >>= (λ y. Some (pair x.0 y.0, y.1)))) (opened_read t a p (value_text names b ++ (codes ")" ++ rest)))
      ∙ ap (λ o. o >>= (λ y. Some (pair a y.0, y.1))) (closed_read u b q rest)

  print-product : (t u : EbType) → AllPrint t → AllPrint u → AllPrint (product t u)
  print-product t u p q = as_pair (λ w. has_type scope w (product t u) ≡ true → Prints (product t u) w)
      (λ a b h.
      let typed : (has_type scope a t && has_type scope b u) ≡ true = sym (TypingLaws.has_type-pair scope a b t u) ∙ h in
      let first = p a (first_so (has_type scope a t) (has_type scope b u) typed) in
      let second = q b (second_so (has_type scope a t) (has_type scope b u) typed) in
      record {
        read = λ rest e.
            let grouped : value_text names (pair a b) ++ rest ≡ codes "(" ++ (value_text names a ++ (codes "|->" ++ (value_text names b ++ (codes ")" ++ rest)))) =
            ap (λ xs. xs ++ rest) (value_text-pair names a b) ∙ ap (λ xs. codes "(" ++ xs) (append_assoc (value_text names a) (codes "|->" ++ (value_text names b ++ codes ")")) rest
            ∙ ap (λ xs. value_text names a ++ (codes "|->" ++ xs)) (append_assoc (value_text names b) (codes ")") rest)) in
            ap (Reading.value_at names scope.sizes (product t u)) grouped ∙ at_product t u (codes "(" ++ (value_text names a ++ (codes "|->" ++ (value_text names b ++ (codes ")" ++ rest))))) ∙ pair_read t u a b first second rest;
        begins = subst Begins (sym (value_text-pair names a b)) (40, value_text names a ++ (codes "|->" ++ (value_text names b ++ codes ")")), refl, omega arith);
      })
      (λ w k h. let e : false ≡ true = sym (TypingLaws.product_other scope t u w k) ∙ h in cc)

  -- ---- sets

  abbrev EachPrints : EbType → List Value → Type 0
  EachPrints t ws = (w : Value) → Contains ws w → Prints t w

  abbrev member_text : List Value → List ℕ → List ℕ
  member_text ws rest = join_with_byte 44 (map (value_text names) ws) ++ (codes "}" ++ rest)

  grouped_members : (y z : Value) (zs : List Value) (rest : List ℕ) → member_text (y ∷ z ∷ zs) rest ≡ value_text names y ++ (44 ∷ member_text (z ∷ zs) rest)
  grouped_members y z zs rest = append_assoc (value_text names y) (44 ∷ join_with_byte 44 (map (value_text names) (z ∷ zs))) (codes "}" ++ rest)

  members_read : (t : EbType) (fuel : List ℕ) (y : Value) (ys front : List Value) (rest : List ℕ) → EachPrints t (y ∷ ys) → length (y ∷ ys) ≤ length fuel → Reading.members_at (Reading.value_at names scope.sizes t) fuel front (member_text (y ∷ ys) rest) ≡ Some (set (front ++ y ∷ ys), rest)
  members_read t [] y ys front rest h l = absurd (omega arith)
  members_read t (k ∷ fuel) y [] front rest h l =
      ap (λ o. o >>= (λ x. Reading.behind x.1 >>= (λ b. if b.0 then Reading.members_at (Reading.value_at names scope.sizes t) fuel (front ++ x.0 ∷ []) b.1 else Some (set (front ++ x.0 ∷ []), b.1))))
      ((h y (contains_here y [] y refl)).read (codes "}" ++ rest) refl)
  members_read t (k ∷ fuel) y (z ∷ zs) front rest h l =
      let f = Reading.value_at names scope.sizes t in
      let later : Reading.members_at f fuel (front ++ y ∷ []) (member_text (z ∷ zs) rest) ≡ Some (set ((front ++ y ∷ []) ++ z ∷ zs), rest) =
      members_read t fuel z zs (front ++ y ∷ []) rest (λ w m. h w (contains_there y (z ∷ zs) w m)) (omega arith) in
      ap (Reading.members_at f (k ∷ fuel) front) (grouped_members y z zs rest)
      ∙ ap (λ o. o >>= (λ x. Reading.behind x.1 >>= (λ b. if b.0 then Reading.members_at f fuel (front ++ x.0 ∷ []) b.1 else Some (set (front ++ x.0 ∷ []), b.1))))
      ((h y (contains_here y (z ∷ zs) y refl)).read (44 ∷ member_text (z ∷ zs) rest) refl)
      ∙ later ∙ ap (λ vs. Some (set vs, rest)) (append_assoc front (y ∷ []) (z ∷ zs))

  -- a text is as long as it has members
  many : (y : Value) (ys : List Value) → length (y ∷ ys) ≤ length (join_with_byte 44 (map (value_text names) (y ∷ ys))) + 1
  many y [] = omega arith
  many y (z ∷ zs) =
      let later = many z zs in
      let n = length-append (value_text names y) (44 ∷ join_with_byte 44 (map (value_text names) (z ∷ zs))) in
      omega arith

  enough : (y : Value) (ys : List Value) (rest : List ℕ) → length (y ∷ ys) ≤ length (member_text (y ∷ ys) rest)
  enough y ys rest =
      let n = length-append (join_with_byte 44 (map (value_text names) (y ∷ ys))) (codes "}" ++ rest) in
      let m = many y ys in
      omega arith

  members_begin : (y : Value) (ys : List Value) (rest : List ℕ) → Begins (value_text names y) → Begins (member_text (y ∷ ys) rest)
  members_begin y [] rest h = begins_longer (value_text names y) (codes "}" ++ rest) h
  members_begin y (z ∷ zs) rest h = subst Begins (sym (grouped_members y z zs rest)) (begins_longer (value_text names y) (44 ∷ member_text (z ∷ zs) rest) h)

  set_text : (ws : List Value) (rest : List ℕ) → value_text names (set ws) ++ rest ≡ codes "{" ++ member_text ws rest
  set_text ws rest = ap (λ xs. xs ++ rest) (value_text-set names ws) ∙ ap (λ xs. codes "{" ++ xs) (append_assoc (join_with_byte 44 (map (value_text names) ws)) (codes "}") rest)

  set_read : (t : EbType) (ws : List Value) (rest : List ℕ) → EachPrints t ws → Reading.set_at (Reading.value_at names scope.sizes t) (codes "{" ++ member_text ws rest) ≡ Some (set ws, rest)
  set_read t [] rest h = refl
  set_read t (y ∷ ys) rest h =
      ap (λ o. Reading.set_behind (Reading.value_at names scope.sizes t) o (member_text (y ∷ ys) rest)) (no_close (member_text (y ∷ ys) rest) (members_begin y ys rest (h y (contains_here y ys y refl)).begins))
      ∙ members_read t (member_text (y ∷ ys) rest) y ys [] rest h (enough y ys rest)

  print-power : (t : EbType) → AllPrint t → AllPrint (power t)
  print-power t p = as_set (λ w. has_type scope w (power t) ≡ true → Prints (power t) w)
      (λ ws h.
      let typed : (is_ascending ws && list_all (λ v. has_type scope v t) ws) ≡ true = sym (TypingLaws.has_type-set scope ws t) ∙ h in
      let each : EachPrints t ws = λ w m. p w (TypingLaws.all_so (λ v. has_type scope v t) ws (second_so (is_ascending ws) (list_all (λ v. has_type scope v t) ws) typed) w m) in
      record {
        read = λ rest e. ap (Reading.value_at names scope.sizes (power t)) (set_text ws rest) ∙ at_power t (codes "{" ++ member_text ws rest) ∙ set_read t ws rest each;
        begins = subst Begins (sym (value_text-set names ws)) (123, join_with_byte 44 (map (value_text names) ws) ++ codes "}", refl, omega arith);
      })
      (λ w k h. let e : false ≡ true = sym (TypingLaws.power_other scope t w k) ∙ h in cc)

  all_print : (t : EbType) → AllPrint t
  all_print = ind_type AllPrint (record { integer = print-integer; boolean = print-boolean; carrier = print-carrier; product = print-product; power = print-power })

  -- a value's text is read as the value, where no digit stands behind it
  pub read_back : (t : EbType) (w : Value) (rest : List ℕ) → has_type scope w t ≡ true → ends rest ≡ true → Reading.value_at names scope.sizes t (value_text names w ++ rest) ≡ Some (w, rest)
  read_back t w rest h e = (all_print t w h).read rest e

  -- ---- whole texts

  pub complete : (t : EbType) (w : Value) (s : List ℕ) → has_type scope w t ≡ true → s ≡ value_text names w → Reading.whole_value names scope t s ≡ Some w
  complete t w s h e =
      let read : Reading.value_at names scope.sizes t s ≡ Some (w, []) = ap (Reading.value_at names scope.sizes t) (e ∙ sym (append-nil (value_text names w))) ∙ (all_print t w h).read [] refl in
      let same : pointwise nat_eq (value_text names w) s ≡ true = ap (pointwise nat_eq (value_text names w)) e ∙ nat_list_eq_equiv.refl (value_text names w) in
      ap (λ o. o >>= (λ x. if Reading.is_nil x.1 && has_type scope x.0 t && pointwise nat_eq (value_text names x.0) s then Some x.0 else None)) read ∙ rw (h, same) refl

-- ---- what is read prints so

pub same_text : (xs ys : List ℕ) → pointwise nat_eq xs ys ≡ true → xs ≡ ys
same_text [] [] h = refl
same_text [] (y ∷ ys) h = cc
same_text (x ∷ xs) [] h = cc
same_text (x ∷ xs) (y ∷ ys) h =
    let first : x ≡ y = let e : nat_eq x y ≡ true = first_so (nat_eq x y) (pointwise nat_eq xs ys) h in grind (arith, nat_tests) in
    let rest : xs ≡ ys = same_text xs ys (second_so (nat_eq x y) (pointwise nat_eq xs ys) h) in
    cc

checked : (names : List (List ℕ)) (scope : Scope) (t : EbType) (s : List ℕ) (x : Value × List ℕ) (v : Value) (b c d : Bool) → has_type scope x.0 t ≡ c → pointwise nat_eq (value_text names x.0) s ≡ d → (if b && c && d then Some x.0 else None) ≡ Some v → (s ≡ value_text names v) × (has_type scope v t ≡ true)
checked names scope t s x v true true true h k e = let same : x.0 ≡ v = cc in (sym (same_text (value_text names x.0) s k) ∙ ap (value_text names) same, ap (λ w. has_type scope w t) (sym same) ∙ h)
checked names scope t s x v true true false h k e = cc
checked names scope t s x v true false d h k e = cc
checked names scope t s x v false c d h k e = cc

sound_at : (names : List (List ℕ)) (scope : Scope) (t : EbType) (s : List ℕ) (v : Value) (o : Reading.Reading) → (o >>= (λ x. if Reading.is_nil x.1 && has_type scope x.0 t && pointwise nat_eq (value_text names x.0) s then Some x.0 else None)) ≡ Some v → (s ≡ value_text names v) × (has_type scope v t ≡ true)
sound_at names scope t s v None e = cc
sound_at names scope t s v (Some x) e = checked names scope t s x v (Reading.is_nil x.1) (has_type scope x.0 t) (pointwise nat_eq (value_text names x.0) s) refl refl e

pub sound : (names : List (List ℕ)) (scope : Scope) (t : EbType) (s : List ℕ) (v : Value) → Reading.whole_value names scope t s ≡ Some v → (s ≡ value_text names v) × (has_type scope v t ≡ true)
sound names scope t s v = sound_at names scope t s v (Reading.value_at names scope.sizes t s)

-- ---- what is answered

pub given_ok : {X : Type 0} (r : Result X ValueFault) (o : Option X) (P : X → Type 0) → Reading.Gives (λ v. v) r o → ((v : X) → o ≡ Some v → P v) → IfOk r P
given_ok (Ok v) o P g f = f v g
given_ok (Err e) o P g f = tt

pub given_form : {X : Type 0} (r : Result X ValueFault) (o : Option X) → Reading.Gives (λ v. v) r o → r ≡ Err fault.Form → o ≡ None
given_form (Ok v) o g e = cc
given_form (Err fault.Memory) o g e = cc
given_form (Err fault.Form) o g e = g
