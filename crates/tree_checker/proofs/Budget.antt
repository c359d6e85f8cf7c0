-- A tree has fewer splits than its store has valuations.
use Rattle.std.proofs.Common.{◌≡◌, ℕ, zero, suc, ◌+◌, ◌*◌, ◌≤◌, ◌<◌, List, [], ◌∷◌, ◌++◌, Bool, true, false, not, ◌&&◌, ap, sym, subst, refl, subst₂, ◌∙◌, arith, ℤ, pos, negsuc, ◌≤ℤ◌, ◌+ℤ◌, int_lt, mul-add, add-mul, mul-pos, append_assoc, append-nil}
use Rattle.std.specs.List.{list_all}
use Rattle.std.specs.Ordering.{int_eq}
use Rattle.std.proofs.Math.Nat.{mul-le-mul}
use Rattle.std.specs.Int.{int_min, int_max, int_gap}
use Rattle.std.proofs.lemmas.Int.{ints, clamps, by_lt_z}
use Rattle.int_dom.specs.declared.interval.Interval.{Interval}
use Rattle.int_dom.specs.Intervals.{is_empty, is_single, size, at_most, above, has_parts}
use Rattle.tree_form.specs.declared.line.Line.{Line}
use Rattle.tree_form.specs.declared.line.Line.TheVariants.{Split as split, Open as leave}
use Rattle.occ_store.specs.Places.{has_at, changed_at}
use Rattle.occ_store.specs.Stores.{Store, volume}
use Rattle.tree_checker.specs.Trees.{Facts, Tree, leaf, one, two, Holds, lines_of, splits_of, opens, OpensAreLoose}
use Rattle.tree_checker.proofs.Sound.{opens_append}

gap_is : (a b : ℤ) → a ≤ℤ b → a +ℤ pos (int_gap a b) ≡ b
gap_is (pos a) (pos b) h = omega (arith, ints)
gap_is (pos a) (negsuc b) h = omega (arith, ints)
gap_is (negsuc a) (pos b) h = omega (arith, ints)
gap_is (negsuc a) (negsuc b) h = omega (arith, ints)

pub two_parts : (a b : Bool) → not a && not b ≡ true → (a ≡ false) × (b ≡ false)
two_parts false false e = (refl, refl)
two_parts true b e = absurd (cc)
two_parts false true e = absurd (cc)

pub at_least : (a b : ℤ) → int_lt b a ≡ false → a ≤ℤ b
at_least a b e = grind (arith, ints)

-- the two parts of a range share its values among them, and each has some
pub record HalvesOf (whole first second : ℕ) : Type 0 where
  pub total : first + second ≡ whole
  pub first_some : 0 < first
  pub second_some : 0 < second

size_parts : (r : Interval) (n : ℤ) → has_parts n r ≡ true → HalvesOf (size r) (size (at_most n r)) (size (above n r))
size_parts r n e =
    let t = two_parts (is_empty (at_most n r)) (is_empty (above n r)) e in
    let low : r.lo ≤ℤ int_min r.hi n = at_least _ _ t.0 in
    let high : int_max r.lo (n +ℤ pos 1) ≤ℤ r.hi = at_least _ _ t.1 in
    let a : r.lo +ℤ pos (size (at_most n r)) ≡ int_min r.hi n +ℤ pos 1 = gap_is r.lo (int_min r.hi n +ℤ pos 1) (omega (arith, ints, clamps)) in
    let b : int_max r.lo (n +ℤ pos 1) +ℤ pos (size (above n r)) ≡ r.hi +ℤ pos 1 = gap_is (int_max r.lo (n +ℤ pos 1)) (r.hi +ℤ pos 1) (omega (arith, ints, clamps)) in
    let c : r.lo +ℤ pos (size r) ≡ r.hi +ℤ pos 1 = gap_is r.lo (r.hi +ℤ pos 1) (omega (arith, ints, clamps)) in
    record { total = omega (arith, ints, clamps); first_some = omega (arith, ints, clamps); second_some = omega (arith, ints, clamps) }

some_factors : (a b : ℕ) → 0 < a * b → (0 < a) × (0 < b)
some_factors zero b h = absurd (omega arith)
some_factors (suc a) zero h = absurd (omega arith)
some_factors (suc a) (suc b) h = (omega arith, omega arith)

shared : (store : Store) (k : ℕ) (n : ℤ) → 0 < volume store → has_at (has_parts n) k store ≡ true → HalvesOf (volume store) (volume (changed_at (at_most n) k store)) (volume (changed_at (above n) k store))
shared [] k n some e = absurd (cc)
shared (r ∷ store) zero n some e =
    let s = size_parts r n e in
    let f = some_factors (size r) (volume store) some in
    record { total = sym (add-mul (size (at_most n r)) (size (above n r)) (volume store)) ∙ ap (λ x. x * volume store) s.total; first_some = mul-pos s.first_some f.1; second_some = mul-pos s.second_some f.1 }
shared (r ∷ store) (suc k) n some e =
    let f = some_factors (size r) (volume store) some in
    let s = shared store k n f.1 e in
    record { total = sym (mul-add (size r) (volume (changed_at (at_most n) k store)) (volume (changed_at (above n) k store))) ∙ ap (λ x. size r * x) s.total; first_some = mul-pos f.0 s.first_some; second_some = mul-pos f.0 s.second_some }

splits_append : (xs ys : List Line) → splits_of (xs ++ ys) ≡ splits_of xs + splits_of ys
splits_append [] ys = omega arith
splits_append (x ∷ xs) ys = let e = splits_append xs ys in omega arith

-- a line with one part or two: here only a split, whose parts share the valuations
pub budget : (facts : Facts) (tree : Tree) (store : Store) → 0 < volume store → Holds facts store tree → splits_of (lines_of tree) + 1 ≤ volume store
budget facts (leaf (split k n)) store some (fits, parts) = absurd (cc)
budget facts (leaf _) store some (fits, parts) = omega arith
budget facts (one (split k n) t) store some (a, fits, parts, holds) = absurd (cc)
budget facts (one _ t) store some (a, fits, parts, holds) = absurd (cc)
budget facts (two (split k n) t u) store some (a, b, fits, parts, first, second) =
    let s = shared store k n some fits in
    let low : changed_at (at_most n) k store ≡ a = cc in
    let high : changed_at (above n) k store ≡ b = cc in
    let x = budget facts t a (subst (λ x. 0 < volume x) low s.first_some) first in
    let y = budget facts u b (subst (λ x. 0 < volume x) high s.second_some) second in
    let total : volume a + volume b ≡ volume store = subst₂ (λ x y. volume x + volume y ≡ volume store) low high s.total in
    let more = splits_append (lines_of t) (lines_of u) in
    omega arith
budget facts (two _ t u) store some (a, b, fits, parts, first, second) = absurd (cc)

-- a domain that is neither empty nor single has two values or more
gap_none : (a b : ℤ) → b ≤ℤ a → int_gap a b ≡ 0
gap_none (pos a) (pos b) h = omega (arith, ints)
gap_none (pos a) (negsuc b) h = omega (arith, ints)
gap_none (negsuc a) (pos b) h = omega (arith, ints)
gap_none (negsuc a) (negsuc b) h = omega (arith, ints)

differ : (a b : ℤ) → int_eq a b ≡ false → b ≤ℤ a → (b +ℤ pos 1) ≤ℤ a
differ a b e h = grind (arith, ints)

gap_two : (a b : ℤ) → 0 < int_gap a (b +ℤ pos 1) → int_eq a b ≡ false → 2 ≤ int_gap a (b +ℤ pos 1)
gap_two a b some e = by_lt_z a b
    (λ less. let all : a +ℤ pos (int_gap a (b +ℤ pos 1)) ≡ b +ℤ pos 1 = gap_is a (b +ℤ pos 1) (omega (arith, ints)) in omega (arith, ints))
    (λ over. let none : int_gap a (b +ℤ pos 1) ≡ 0 = gap_none a (b +ℤ pos 1) (differ a b e over) in absurd (omega arith))

some_loose : (d : Interval) (store : Store) (b : Bool) → is_single d ≡ b → 0 < size d → 0 < volume store → (list_all is_single store ≡ false → 2 ≤ volume store) → b && list_all is_single store ≡ false → 2 ≤ size d * volume store
some_loose d store true is some rest more e =
    let one : 1 ≤ size d = some in
    let two : 2 ≤ volume store = more e in
    let both : 1 * 2 ≤ size d * volume store = mul-le-mul one two in
    both
some_loose d store false is some rest more e =
    let two : 2 ≤ size d = gap_two d.lo d.hi some is in
    let one : 1 ≤ volume store = rest in
    let both : 2 * 1 ≤ size d * volume store = mul-le-mul two one in
    both

several : (store : Store) → 0 < volume store → list_all is_single store ≡ false → 2 ≤ volume store
several [] some e = absurd (cc)
several (d ∷ store) some e =
    let f = some_factors (size d) (volume store) some in
    some_loose d store (is_single d) refl f.0 f.1 (several store f.1) e

-- so an open line in a loose box leaves a valuation over as well
pub record Spent (tree : Tree) (store : Store) (stores : List Store) (rest : List Line) : Type 0 where
  pub within : splits_of (lines_of tree) + opens (lines_of tree) + 1 ≤ volume store
  pub later : OpensAreLoose stores rest

spent : (facts : Facts) (tree : Tree) (store : Store) (stores : List Store) (rest : List Line) → 0 < volume store → Holds facts store tree → OpensAreLoose (store ∷ stores) (lines_of tree ++ rest) → Spent tree store stores rest
spent facts (leaf (split k n)) store stores rest some (fits, parts) loose = absurd (cc)
spent facts (leaf leave) store stores rest some (fits, parts) loose = record { within = (let two : 2 ≤ volume store = several store some (loose.0 refl) in omega arith); later = loose.1 }
spent facts (leaf _) store stores rest some (fits, parts) loose = record { within = omega arith; later = loose.1 }
spent facts (one (split k n) t) store stores rest some (a, fits, parts, holds) loose = absurd (cc)
spent facts (one _ t) store stores rest some (a, fits, parts, holds) loose = absurd (cc)
spent facts (two (split k n) t u) store stores rest some (a, b, fits, parts, first, second) loose =
    let s = shared store k n some fits in
    let low : changed_at (at_most n) k store ≡ a = cc in
    let high : changed_at (above n) k store ≡ b = cc in
    let lines : (lines_of t ++ lines_of u) ++ rest ≡ lines_of t ++ (lines_of u ++ rest) = append_assoc (lines_of t) (lines_of u) rest in
    let here : OpensAreLoose (a ∷ b ∷ stores) (lines_of t ++ (lines_of u ++ rest)) = subst₂ (λ x y. OpensAreLoose (x ∷ y ∷ stores) (lines_of t ++ (lines_of u ++ rest))) low high
    (subst (OpensAreLoose (changed_at (at_most n) k store ∷ changed_at (above n) k store ∷ stores)) lines loose.1) in
    let x = spent facts t a (b ∷ stores) (lines_of u ++ rest) (subst (λ x. 0 < volume x) low s.first_some) first here in
    let y = spent facts u b stores rest (subst (λ x. 0 < volume x) high s.second_some) second x.later in
    let total : volume a + volume b ≡ volume store = subst₂ (λ x y. volume x + volume y ≡ volume store) low high s.total in
    let more = splits_append (lines_of t) (lines_of u) in
    let opened = opens_append (lines_of t) (lines_of u) in
    record { within = omega (arith, x.within, y.within); later = y.later }
spent facts (two _ t u) store stores rest some (a, b, fits, parts, first, second) loose = absurd (cc)

pub loose_budget : (facts : Facts) (tree : Tree) (store : Store) → 0 < volume store → Holds facts store tree → OpensAreLoose (store ∷ []) (lines_of tree) → splits_of (lines_of tree) + opens (lines_of tree) + 1 ≤ volume store
loose_budget facts tree store some holds loose = (spent facts tree store [] [] some holds (subst (OpensAreLoose (store ∷ [])) (sym (append-nil (lines_of tree))) loose)).within
