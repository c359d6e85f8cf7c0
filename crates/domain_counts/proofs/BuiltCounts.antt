-- How many values bodies have that are made in normal form, and which of them are without sets.
use Rattle.std.proofs.Common.{◌≡◌, ◌∙◌, ◌*◌, ℕ, Bool, true, false, List, [], ◌∷◌, length, refl, sym, ap, arith}
use Rattle.eb_value.specs.declared.value.Value.{Value}
use Rattle.int_dom.specs.declared.interval.Interval.{Interval}
use Rattle.int_dom.specs.Intervals as interval
use Rattle.int_dom.specs.Intervals.{size}
use Rattle.occ_domains.specs.declared.body.Body.{Body}
use Rattle.occ_domains.specs.Bodies.{is_empty, is_empty_layer, integers, members, pairs}
use Rattle.domain_counts.specs.Counts.{count, is_setless}
use Rattle.domain_counts.proofs.BodyCounts.{ind_body, out-integers, out-members, out-pairs, out-sets, count-empty, count-integers, count-members, count-pairs, setless-empty, setless-integers, setless-members, setless-pairs}
use Rattle.domain_counts.proofs.IntervalCounts.{size_empty}

-- ---- counts

pub empty_count : (b : Body) → is_empty b ≡ true → count b ≡ 0
empty_count = ind_body (λ b. is_empty b ≡ true → count b ≡ 0) (record {
  none = λ h. count-empty;
  integers = λ d h. let k : false ≡ true = sym (ap is_empty_layer (out-integers d)) ∙ h in cc;
  members = λ xs h. let k : false ≡ true = sym (ap is_empty_layer (out-members xs)) ∙ h in cc;
  pairs = λ a b p q h. let k : false ≡ true = sym (ap is_empty_layer (out-pairs a b)) ∙ h in cc;
  sets = λ h. let k : false ≡ true = sym (ap is_empty_layer out-sets) ∙ h in cc;
})

pub integers_count : (d : Interval) → count (integers d) ≡ size d
integers_count d = at (interval.is_empty d) refl where
  at : (b : Bool) → interval.is_empty d ≡ b → count (integers d) ≡ size d
  at true e = rw e (count-empty ∙ sym (size_empty d e))
  at false e = rw e (count-integers d)

pub members_count : (xs : List Value) → count (members xs) ≡ length xs
members_count [] = count-empty
members_count (x ∷ xs) = count-members (x ∷ xs)

none_first : (m n : ℕ) → m ≡ 0 → 0 ≡ m * n
none_first m n h = rw h (omega arith)

none_second : (m n : ℕ) → n ≡ 0 → 0 ≡ m * n
none_second m n h = rw h (omega arith)

pub pairs_count : (a b : Body) → count (pairs a b) ≡ count a * count b
pairs_count a b = at (is_empty a) (is_empty b) refl refl where
  at : (c d : Bool) → is_empty a ≡ c → is_empty b ≡ d → count (pairs a b) ≡ count a * count b
  at true d e f = rw e (count-empty ∙ none_first (count a) (count b) (empty_count a e))
  at false true e f = rw (e, f) (count-empty ∙ none_second (count a) (count b) (empty_count b f))
  at false false e f = rw (e, f) (count-pairs a b)

-- ---- without sets

pub integers_setless : (d : Interval) → is_setless (integers d) ≡ true
integers_setless d = at (interval.is_empty d) refl where
  at : (b : Bool) → interval.is_empty d ≡ b → is_setless (integers d) ≡ true
  at true e = rw e setless-empty
  at false e = rw e (setless-integers d)

pub members_setless : (xs : List Value) → is_setless (members xs) ≡ true
members_setless [] = setless-empty
members_setless (x ∷ xs) = setless-members (x ∷ xs)

pub pairs_setless : (a b : Body) → is_setless a ≡ true → is_setless b ≡ true → is_setless (pairs a b) ≡ true
pairs_setless a b h k = at (is_empty a) (is_empty b) refl refl where
  at : (c d : Bool) → is_empty a ≡ c → is_empty b ≡ d → is_setless (pairs a b) ≡ true
  at true d e f = rw e setless-empty
  at false true e f = rw (e, f) setless-empty
  at false false e f = rw (e, f) (setless-pairs a b ∙ rw (h, k) refl)
