-- A search that goes on: what each line adds.
use Rattle.std.proofs.Common.{◌≡◌, ◌∙◌, sym, ap, ap₂, refl, subst, subst₂, ℕ, zero, suc, ◌+◌, ◌-◌, ◌<◌, Bool, true, false, not, ◌&&◌, cond, Some, List, [], ◌∷◌, ◌++◌, set, slice_get, length, arith, ℤ, pos, ◌+ℤ◌, ◌≤ℤ◌, ◌<ℤ◌, int_lt}
use Rattle.std.specs.Prelude.{MatchBool}
use Rattle.std.specs.List.{AllByRecursion, list_all}
use Rattle.std.specs.Int.{int_min, int_max}
use Rattle.std.specs.Ordering.{int_eq}
use Rattle.std.proofs.lemmas.Int.{ints, clamps}
use Rattle.int_dom.specs.declared.interval.Interval.{Interval}
use Rattle.int_dom.specs.declared.interval.Halves.{Halves}
use Rattle.int_dom.specs.Intervals.{is_empty, is_single, at_most, above, has_parts, AreHalves}
use Rattle.occ_store.specs.Places.{passes, has_at, changed_at}
use Rattle.occ_store.specs.Stores.{Store}
use Rattle.occ_store.specs.Boxes.{HasChoice, split_first, after_first}
use Rattle.tree_form.specs.declared.line.Line.{Line}
use Rattle.tree_form.specs.declared.line.Line.TheVariants as line
use Rattle.tree_checker.specs.Trees.{Facts, Fits, parts_of, is_open, is_split, opens, splits_of, OpensAreLoose}
use Rattle.tree_checker.specs.Verdicts.{LeadsTo}
use Rattle.branch_search.specs.steps.Going.{IsWithin, IsGoing}

-- ---- a line more

leads_more : (facts : Facts) (stores : List Store) (lines : List Line) (next : Line) (store : Store) (more : List Store)
    → LeadsTo facts stores lines (store ∷ more) → Fits facts store next → LeadsTo facts stores (lines ++ (next ∷ [])) (parts_of store next ++ more)
leads_more facts stores [] next store more same fits = subst (λ z. LeadsTo facts z (next ∷ []) (parts_of store next ++ more)) (sym same) (fits, refl)
leads_more facts [] (l ∷ lines) next store more leads fits = absurd leads
leads_more facts (s ∷ stores) (l ∷ lines) next store more (here, leads) fits = (here, leads_more facts (parts_of s l ++ stores) lines next store more leads fits)

loose_more : (facts : Facts) (stores : List Store) (lines : List Line) (next : Line) (store : Store) (more : List Store)
    → LeadsTo facts stores lines (store ∷ more) → OpensAreLoose stores lines → (is_open next ≡ true → list_all is_single store ≡ false)
    → OpensAreLoose stores (lines ++ (next ∷ []))
loose_more facts [] [] next store more same loose is = absurd (cc)
loose_more facts (s ∷ stores) [] next store more same loose is = (λ o. (let e : s ≡ store = cc in ap (list_all is_single) e ∙ is o), tt)
loose_more facts [] (l ∷ lines) next store more leads loose is = absurd leads
loose_more facts (s ∷ stores) (l ∷ lines) next store more (here, leads) (first, loose) is = (first, loose_more facts (parts_of s l ++ stores) lines next store more leads loose is)

opens_more : (lines : List Line) (next : Line) → opens (lines ++ (next ∷ [])) ≡ opens lines + cond (is_open next) 1 0
opens_more [] next = omega arith
opens_more (l ∷ lines) next = let e = opens_more lines next in omega arith

splits_more : (lines : List Line) (next : Line) → splits_of (lines ++ (next ∷ [])) ≡ splits_of lines + cond (is_split next) 1 0
splits_more [] next = omega arith
splits_more (l ∷ lines) next = let e = splits_more lines next in omega arith

-- ---- the parts of a store

changed_set : (f : Interval → Interval) (k : ℕ) (store : Store) (d : Interval) → slice_get store k ≡ Some d → changed_at f k store ≡ set store k (f d)
changed_set f k [] d at = refl
changed_set f zero (e ∷ store) d at = let same : e ≡ d = cc in ap (λ z. f z ∷ store) same
changed_set f (suc k) (e ∷ store) d at = ap (λ z. e ∷ z) (changed_set f k store d at)

within_part : (first store : Store) (k : ℕ) (d part : Interval) → IsWithin first store → slice_get store k ≡ Some d
    → d.lo ≤ℤ part.lo → part.lo ≤ℤ part.hi → part.hi ≤ℤ d.hi → IsWithin first (set store k part)
within_part [] [] k d part within at low filled high = tt
within_part [] (e ∷ store) k d part within at low filled high = absurd within
within_part (f ∷ first) [] k d part within at low filled high = absurd within
within_part (f ∷ first) (e ∷ store) zero d part (a, b, c, within) at low filled high =
    let same : e ≡ d = cc in
    let lo : e.lo ≡ d.lo = ap (λ x. x.lo) same in
    let hi : e.hi ≡ d.hi = ap (λ x. x.hi) same in
    (omega (arith, ints, lo, a, low), filled, omega (arith, ints, hi, c, high), within)
within_part (f ∷ first) (e ∷ store) (suc k) d part (a, b, c, within) at low filled high = (a, b, c, within_part first store k d part within at low filled high)

two_parts : (a b : Bool) → not a && not b ≡ true → (a ≡ false) × (b ≡ false)
two_parts false false e = (refl, refl)
two_parts true b e = absurd (cc)
two_parts false true e = absurd (cc)

at_least : (a b : ℤ) → int_lt b a ≡ false → a ≤ℤ b
at_least a b e = grind (arith, ints)

filled_parts : (d : Interval) (n : ℤ) → has_parts n d ≡ true → ((at_most n d).lo ≤ℤ (at_most n d).hi) × ((above n d).lo ≤ℤ (above n d).hi)
filled_parts d n e =
    let t = two_parts (is_empty (at_most n d)) (is_empty (above n d)) e in
    (at_least _ _ t.0, at_least _ _ t.1)

min_below : (a b : ℤ) → int_min a b ≤ℤ a
min_below a b = omega (arith, ints, clamps)

max_above : (a b : ℤ) → a ≤ℤ int_max a b
max_above a b = omega (arith, ints, clamps)

same_int : (a : ℤ) → a ≤ℤ a
same_int a = omega (arith, ints)

-- ---- what each move keeps

pub going_split : (facts : Facts) (first : Store) (budget : ℕ) (store : Store) (more : List Store) (lines : List Line) (left : ℕ) (gave_up : Bool)
    → (k : ℕ) (d : Interval) (halves : Halves) → IsGoing facts first budget (store ∷ more) lines left gave_up → slice_get store k ≡ Some d → AreHalves d halves → 0 < left
    → IsGoing facts first budget (split_first k halves.low halves.high (store ∷ more)) (lines ++ (line.Split k halves.middle ∷ [])) (left - 1) gave_up
going_split facts first budget store more lines left gave_up k d halves g at h some =
    let fits : has_at (has_parts halves.middle) k store ≡ true = ap (passes (has_parts halves.middle)) at ∙ h.parts in
    let low : changed_at (at_most halves.middle) k store ≡ set store k halves.low = changed_set (at_most halves.middle) k store d at ∙ ap (set store k) (sym h.low) in
    let high : changed_at (above halves.middle) k store ≡ set store k halves.high = changed_set (above halves.middle) k store d at ∙ ap (set store k) (sym h.high) in
    let filled = filled_parts d halves.middle h.parts in
    let splits = splits_more lines (line.Split k halves.middle) in
    let before = g.splits in
    record {
      leads = subst₂ (λ a b. LeadsTo facts (first ∷ []) (lines ++ (line.Split k halves.middle ∷ [])) (a ∷ (b ∷ more))) low high
          (leads_more facts (first ∷ []) lines (line.Split k halves.middle) store more g.leads fits);
      loose = loose_more facts (first ∷ []) lines (line.Split k halves.middle) store more g.leads g.loose (λ o. (absurd (cc)));
      within = (
        subst (λ part. IsWithin first (set store k part)) (sym h.low) (within_part first store k d (at_most halves.middle d) g.within.0 at (same_int d.lo) filled.0 (min_below d.hi halves.middle)),
        (
          subst (λ part. IsWithin first (set store k part)) (sym h.high) (within_part first store k d (above halves.middle d) g.within.0 at (max_above d.lo (halves.middle +ℤ pos 1)) filled.1 (same_int d.hi)),
          g.within.1,
        ),
      );
      splits = omega arith;
      opens = still_none lines (line.Split k halves.middle) left gave_up refl some g.opens;
    }
  where
    still_none : (lines : List Line) (next : Line) (left : ℕ) (gave_up : Bool) → is_open next ≡ false → 0 < left → MatchBool gave_up ((0 < opens lines) × (left ≡ 0)) (opens lines ≡ 0)
        → MatchBool gave_up ((0 < opens (lines ++ (next ∷ []))) × (left - 1 ≡ 0)) (opens (lines ++ (next ∷ [])) ≡ 0)
    still_none lines next left true shut some (a, b) = absurd (omega (arith, some, b))
    still_none lines next left false shut some none = opens_more lines next ∙ ap₂ (λ a b. a + cond b 1 0) none shut

pub going_open : (facts : Facts) (first : Store) (budget : ℕ) (store : Store) (more : List Store) (lines : List Line) (left : ℕ) (gave_up : Bool)
    → IsGoing facts first budget (store ∷ more) lines left gave_up → list_all is_single store ≡ false → left ≡ 0
    → IsGoing facts first budget (after_first (store ∷ more)) (lines ++ (line.Open ∷ [])) left true
going_open facts first budget store more lines left gave_up g loose none =
    let splits = splits_more lines line.Open in
    let opened = opens_more lines line.Open in
    let before = g.splits in
    record {
      leads = leads_more facts (first ∷ []) lines line.Open store more g.leads tt;
      loose = loose_more facts (first ∷ []) lines line.Open store more g.leads g.loose (λ o. loose);
      within = g.within.1;
      splits = omega arith;
      opens = (omega arith, none);
    }

pub going_eval : (facts : Facts) (first : Store) (budget : ℕ) (store : Store) (more : List Store) (lines : List Line) (left : ℕ) (gave_up : Bool) (fact : ℕ)
    → IsGoing facts first budget (store ∷ more) lines left gave_up → Fits facts store (line.Eval fact)
    → IsGoing facts first budget (after_first (store ∷ more)) (lines ++ (line.Eval fact ∷ [])) left gave_up
going_eval facts first budget store more lines left gave_up fact g fits =
    let splits = splits_more lines (line.Eval fact) in
    let before = g.splits in
    record {
      leads = leads_more facts (first ∷ []) lines (line.Eval fact) store more g.leads fits;
      loose = loose_more facts (first ∷ []) lines (line.Eval fact) store more g.leads g.loose (λ o. (absurd (cc)));
      within = g.within.1;
      splits = omega arith;
      opens = still gave_up left lines (lines ++ (line.Eval fact ∷ [])) (opens_more lines (line.Eval fact)) g.opens;
    }
  where
    still : (gave_up : Bool) (left : ℕ) (lines more : List Line) → opens more ≡ opens lines + 0
        → MatchBool gave_up ((0 < opens lines) × (left ≡ 0)) (opens lines ≡ 0) → MatchBool gave_up ((0 < opens more) × (left ≡ 0)) (opens more ≡ 0)
    still true left lines more e (a, b) = (omega (arith, a, e), b)
    still false left lines more e none = omega (arith, none, e)

pub going_first : (facts : Facts) (first : Store) (budget : ℕ) → IsWithin first first → IsGoing facts first budget (first ∷ []) [] budget false
going_first facts first budget within = record { leads = refl; loose = tt; within = (within, tt); splits = omega arith; opens = refl }

pub same_length : (first store : Store) → IsWithin first store → length store ≡ length first
same_length [] [] within = refl
same_length [] (e ∷ store) within = absurd within
same_length (f ∷ first) [] within = absurd within
same_length (f ∷ first) (e ∷ store) (a, b, c, within) = ap suc (same_length first store within)

-- a domain that isn't single has two numbers
pub two_numbers : (first store : Store) (k : ℕ) (d : Interval) → IsWithin first store → slice_get store k ≡ Some d → is_single d ≡ false → d.lo <ℤ d.hi
two_numbers [] [] k d within at loose = absurd (cc)
two_numbers [] (e ∷ store) k d within at loose = absurd within
two_numbers (f ∷ first) [] k d within at loose = absurd within
two_numbers (f ∷ first) (e ∷ store) zero d (a, b, c, within) at loose =
    let same : e ≡ d = cc in
    apart d.lo d.hi (subst (λ (x : Interval). x.lo ≤ℤ x.hi) same b) loose
  where
    apart : (lo hi : ℤ) → lo ≤ℤ hi → int_eq lo hi ≡ false → lo <ℤ hi
    apart lo hi le different = grind (arith, ints)
two_numbers (f ∷ first) (e ∷ store) (suc k) d (a, b, c, within) at loose = two_numbers first store k d within at loose

-- a domain that isn't single, so not all are
pub not_all : (store : Store) (k : ℕ) (d : Interval) → slice_get store k ≡ Some d → is_single d ≡ false → list_all is_single store ≡ false
not_all [] k d at loose = absurd (cc)
not_all (e ∷ store) zero d at loose = let same : e ≡ d = cc in let here : is_single e ≡ false = ap is_single same ∙ loose in rw here refl
not_all (e ∷ store) (suc k) d at loose = both (is_single e) (list_all is_single store) (not_all store k d at loose) where
  both : (a b : Bool) → b ≡ false → (a && b) ≡ false
  both true b h = h
  both false b h = refl

-- ---- the same where the boxes begin with the store

pub first_within : (first store : Store) (more boxes : List Store) → boxes ≡ store ∷ more → AllByRecursion (IsWithin first) boxes → IsWithin first store
first_within first store more boxes e within = (subst (AllByRecursion (IsWithin first)) e within).0

within_list : (store : Store) (k : ℕ) (d : Interval) → slice_get store k ≡ Some d → k < length store
within_list [] k d at = absurd (cc)
within_list (e ∷ store) zero d at = omega arith
within_list (e ∷ store) (suc k) d at = let more = within_list store k d at in omega arith

pub has_choice : (store : Store) (more boxes : List Store) (k : ℕ) (d : Interval) → boxes ≡ store ∷ more → slice_get store k ≡ Some d → HasChoice boxes k
has_choice store more boxes k d e at = subst (λ z. HasChoice z k) (sym e) (within_list store k d at)

pub split_going : (facts : Facts) (first : Store) (budget : ℕ) (boxes : List Store) (store : Store) (more : List Store) (lines : List Line) (left : ℕ) (gave_up : Bool)
    → (k : ℕ) (d : Interval) (halves : Halves) → boxes ≡ store ∷ more → IsGoing facts first budget boxes lines left gave_up → slice_get store k ≡ Some d → AreHalves d halves → 0 < left
    → IsGoing facts first budget (split_first k halves.low halves.high boxes) (lines ++ (line.Split k halves.middle ∷ [])) (left - 1) gave_up
split_going facts first budget boxes store more lines left gave_up k d halves e g at h some =
    subst (λ z. IsGoing facts first budget (split_first k halves.low halves.high z) (lines ++ (line.Split k halves.middle ∷ [])) (left - 1) gave_up) (sym e)
    (going_split facts first budget store more lines left gave_up k d halves (subst (λ z. IsGoing facts first budget z lines left gave_up) e g) at h some)

pub open_going : (facts : Facts) (first : Store) (budget : ℕ) (boxes : List Store) (store : Store) (more : List Store) (lines : List Line) (left : ℕ) (gave_up : Bool)
    → boxes ≡ store ∷ more → IsGoing facts first budget boxes lines left gave_up → list_all is_single store ≡ false → left ≡ 0
    → IsGoing facts first budget (after_first boxes) (lines ++ (line.Open ∷ [])) left true
open_going facts first budget boxes store more lines left gave_up e g loose none =
    subst (λ z. IsGoing facts first budget (after_first z) (lines ++ (line.Open ∷ [])) left true) (sym e)
    (going_open facts first budget store more lines left gave_up (subst (λ z. IsGoing facts first budget z lines left gave_up) e g) loose none)

pub eval_going : (facts : Facts) (first : Store) (budget : ℕ) (boxes : List Store) (store : Store) (more : List Store) (lines : List Line) (left : ℕ) (gave_up : Bool) (fact : ℕ)
    → boxes ≡ store ∷ more → IsGoing facts first budget boxes lines left gave_up → Fits facts store (line.Eval fact)
    → IsGoing facts first budget (after_first boxes) (lines ++ (line.Eval fact ∷ [])) left gave_up
eval_going facts first budget boxes store more lines left gave_up fact e g fits =
    subst (λ z. IsGoing facts first budget (after_first z) (lines ++ (line.Eval fact ∷ [])) left gave_up) (sym e)
    (going_eval facts first budget store more lines left gave_up fact (subst (λ z. IsGoing facts first budget z lines left gave_up) e g) fits)
