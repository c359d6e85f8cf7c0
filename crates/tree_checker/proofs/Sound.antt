-- A tree without open boxes leaves no solution.
use Rattle.std.proofs.Common.{◌≡◌, ℕ, zero, suc, ◌+◌, ◌⊎◌, inl, inr, List, [], ◌∷◌, ◌++◌, Bool, true, false, not, ◌&&◌, cond, ap, sym, subst, refl, ◌∙◌, arith, true≢false, ℤ, ◌≤ℤ◌}
use Rattle.std.specs.List.{All, list_all}
use Rattle.std.proofs.lemmas.Int.{ints, clamps, by_lt_z}
use Rattle.eb_value.specs.declared.scope.Scope.{Scope}
use Rattle.eb_value.specs.declared.value.Value.{Value}
use Rattle.eb_value.specs.Values.{int}
use Rattle.eb_term.specs.declared.problem.Choice.{Choice}
use Rattle.eb_term.specs.declared.problem.Problem.{Problem}
use Rattle.eb_term.specs.declared.term.Term.{Term}
use Rattle.eb_operations.specs.declared.truth3.Truth3.{Truth3}
use Rattle.eb_operations.specs.declared.truth3.Truth3.TheVariants.{True}
use Rattle.eb_meaning.specs.Truths.{is_true}
use Rattle.eb_meaning.specs.Problems.{IsValuation, IsSolution, IsTrueOf, slots_of, fact_at}
use Rattle.int_dom.specs.declared.interval.Interval.{Interval}
use Rattle.int_dom.specs.Intervals.{is_empty, is_single, at_most, above}
use Rattle.tree_form.specs.declared.line.Line.{Line}
use Rattle.tree_form.specs.declared.line.Line.TheVariants as line
use Rattle.occ_store.specs.Places.{has_at, changed_at}
use Rattle.occ_store.specs.Stores.{IsIn, Store, AreIn, IsFirst, single_values}
use Rattle.tree_checker.specs.Trees.{Facts, facts_of, Tree, leaf, one, two, is_untrue, Fits, parts_of, Holds, lines_of, is_open, opens}
use Rattle.tree_checker.specs.Texts.{IsAccepted}

-- some store of the list has the values
abbrev pub SomeHas : List Value → List Store → Type 0
SomeHas values [] = ⊥
SomeHas values (store ∷ stores) = AreIn store values ⊎ SomeHas values stores

-- a value of a domain is in one of its two parts
in_part : (d : Interval) (n : ℤ) (v : Value) → IsIn d v → IsIn (at_most n d) v ⊎ IsIn (above n d) v
in_part d n v h = by_lt_z n h.number
    (λ over. inr (record { number = h.number; is_number = h.is_number; above = omega (arith, ints, clamps, h.above); below = h.below }))
    (λ under. inl (record { number = h.number; is_number = h.is_number; above = h.above; below = omega (arith, ints, clamps, h.below) }))

in_parts : (store : Store) (k : ℕ) (n : ℤ) (vs : List Value) → AreIn store vs → AreIn (changed_at (at_most n) k store) vs ⊎ AreIn (changed_at (above n) k store) vs
in_parts [] k n vs h = inl h
in_parts (d ∷ store) k n [] h = absurd h
in_parts (d ∷ store) zero n (v ∷ vs) (first, rest) = elim (in_part d n v first) [ inl a ↦ inl (a, rest) | inr b ↦ inr (b, rest) ]
in_parts (d ∷ store) (suc k) n (v ∷ vs) (first, rest) = elim (in_parts store k n vs rest) [ inl a ↦ inl (first, a) | inr b ↦ inr (first, b) ]

only_number : (d : Interval) (n : ℤ) → is_single d ≡ true → d.lo ≤ℤ n → n ≤ℤ d.hi → d.lo ≡ n
only_number d n e above below = grind (arith, ints)

only_value : (d : Interval) (v : Value) → is_single d ≡ true → IsIn d v → int d.lo ≡ v
only_value d v e h = ap int (only_number d h.number e h.above h.below) ∙ sym h.is_number

pub both_true : (a b : Bool) → a && b ≡ true → (a ≡ true) × (b ≡ true)
both_true true b h = (refl, h)
both_true false b h = absurd (cc)

only_values : (store : Store) (vs : List Value) → list_all is_single store ≡ true → AreIn store vs → single_values store ≡ vs
only_values [] [] e h = refl
only_values [] (v ∷ vs) e h = absurd h
only_values (d ∷ store) [] e h = absurd h
only_values (d ∷ store) (v ∷ vs) e (first, rest) =
    let both = both_true (is_single d) (list_all is_single store) e in
    let a : int d.lo ≡ v = only_value d v both.0 first in
    let b : single_values store ≡ vs = only_values store vs both.1 rest in
    cc

untrue : (t : Truth3) → not (is_true t) ≡ true → t ≡ True → ⊥
untrue t e h = absurd (true≢false (sym e ∙ ap (λ z. not (is_true z)) h))

-- each fact is True of the values
abbrev AllTrue : Facts → List Value → Type 0
AllTrue facts vs = All (IsTrueOf facts.scope facts.definitions vs) facts.terms

not_all : (facts : Facts) (terms : List Term) (k : ℕ) (vs : List Value) → has_at (is_untrue facts vs) k terms ≡ true → All (IsTrueOf facts.scope facts.definitions vs) terms → ⊥
not_all facts [] k vs e h = cc
not_all facts (f ∷ terms) zero vs e h =
    let here : fact_at facts.scope (slots_of facts.scope facts.definitions vs) f ≡ True = h 0 f (omega arith) in
    untrue (fact_at facts.scope (slots_of facts.scope facts.definitions vs) f) e here
not_all facts (f ∷ terms) (suc k) vs e h = not_all facts terms k vs e (λ i d within. h (suc i) d (omega arith))

no_value : (d : Interval) (v : Value) → is_empty d ≡ true → IsIn d v → ⊥
no_value d v e h = grind (arith, ints, h.above, h.below)

none_in : (store : Store) (k : ℕ) (vs : List Value) → has_at is_empty k store ≡ true → AreIn store vs → ⊥
none_in [] k vs e h = cc
none_in (d ∷ store) k [] e h = h
none_in (d ∷ store) zero (v ∷ vs) e (first, rest) = no_value d v e first
none_in (d ∷ store) (suc k) (v ∷ vs) e (first, rest) = none_in store k vs e rest

-- a line that leaves no box open leaves the values in one of its parts, where they make each fact True
covered : (facts : Facts) (store : Store) (l : Line) (vs : List Value) → Fits facts store l → is_open l ≡ false → AreIn store vs → AllTrue facts vs → SomeHas vs (parts_of store l)
covered facts store (line.Split k n) vs fits closed h all = elim (in_parts store k n vs h) [ inl a ↦ inl a | inr b ↦ inr (inl b) ]
covered facts store (line.Clash k) vs fits closed h all = none_in store k vs fits h
covered facts store (line.Eval k) vs (singles, false_there) closed h all =
    not_all facts facts.terms k vs (subst (λ v. has_at (is_untrue facts v) k facts.terms ≡ true) (only_values store vs singles h) false_there) all
covered facts store line.Open vs fits closed h all = absurd (cc)
covered facts store line.Header vs fits closed h all = fits
covered facts store line.Begin vs fits closed h all = fits
covered facts store line.End vs fits closed h all = fits

none_open : (l : Line) (rest : List Line) → opens (l ∷ rest) ≡ 0 → (is_open l ≡ false) × (opens rest ≡ 0)
none_open l rest e = closed (is_open l) e where
  closed : (b : Bool) → cond b 1 0 + opens rest ≡ 0 → (b ≡ false) × (opens rest ≡ 0)
  closed true e = absurd (omega arith)
  closed false e = (refl, omega arith)

pub opens_append : (xs ys : List Line) → opens (xs ++ ys) ≡ opens xs + opens ys
opens_append [] ys = omega arith
opens_append (x ∷ xs) ys = let e = opens_append xs ys in omega arith

refutes : (facts : Facts) (tree : Tree) (store : Store) (vs : List Value) → Holds facts store tree → opens (lines_of tree) ≡ 0 → AreIn store vs → AllTrue facts vs → ⊥
refutes facts (leaf l) store vs (fits, parts) closed h all = subst (SomeHas vs) parts (covered facts store l vs fits (none_open l [] closed).0 h all)
refutes facts (one l tree) store vs (a, fits, parts, holds) closed h all =
    let c = none_open l (lines_of tree) closed in
    elim (subst (SomeHas vs) parts (covered facts store l vs fits c.0 h all)) [
      | inl there ↦ refutes facts tree a vs holds c.1 there all
      | inr nowhere ↦ nowhere
    ]
refutes facts (two l first second) store vs (a, b, fits, parts, holds, holds') closed h all =
    let c = none_open l (lines_of first ++ lines_of second) closed in
    let sum : opens (lines_of first ++ lines_of second) ≡ opens (lines_of first) + opens (lines_of second) = opens_append (lines_of first) (lines_of second) in
    let zero_sum : opens (lines_of first ++ lines_of second) ≡ 0 = c.1 in
    elim (subst (SomeHas vs) parts (covered facts store l vs fits c.0 h all)) [
      | inl there ↦ refutes facts first a vs holds (omega arith) there all
      | inr later ↦ elim later [ inl there ↦ refutes facts second b vs holds' (omega arith) there all | inr nowhere ↦ nowhere ]
    ]

-- a valuation is in the first store
first_has : (scope : Scope) (choices : List Choice) (store : Store) (vs : List Value) → IsFirst scope choices store → IsValuation scope choices vs → AreIn store vs
first_has scope [] [] [] f v = tt
first_has scope [] [] (w ∷ vs) f v = v
first_has scope [] (d ∷ store) vs f v = absurd f
first_has scope (c ∷ choices) [] vs f v = absurd f
first_has scope (c ∷ choices) (d ∷ store) [] f v = absurd v
first_has scope (c ∷ choices) (d ∷ store) (w ∷ vs) f v = ((f.0 w).1 v.0, first_has scope choices store vs f.1 v.1)

pub no_solution : (scope : Scope) (problem : Problem) (text : List ℕ) → IsAccepted scope problem text → (vs : List Value) → IsSolution scope problem vs → ⊥
no_solution scope problem text (first, is_first, whole) vs solution =
    refutes (facts_of scope problem) whole.whole.tree first vs whole.whole.holds (sym whole.whole.open_lines) (first_has scope problem.choices first vs is_first solution.valuation) solution.facts
