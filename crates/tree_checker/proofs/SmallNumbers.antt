-- The numbers of a tree that holds are small.
use Rattle.std.proofs.Common.{◌≡◌, ◌∙◌, ℕ, zero, suc, ◌<◌, ◌≤◌, ◌^◌, List, [], ◌∷◌, length, true, ◌&&◌, ap, ap₂, sym, subst, refl, arith, ℤ, pos, ◌≤ℤ◌, ◌+ℤ◌}
use Rattle.std.specs.Prelude.{⊤}
use Rattle.std.specs.List.{list_all}
use Rattle.std.specs.Int.{int_min, int_max}
use Rattle.std.proofs.lemmas.Int.{ints, clamps}
use Rattle.std.proofs.lemmas.List.Folds.{list_all-append}
use Rattle.eb_value.specs.declared.scope.Scope.{Scope}
use Rattle.eb_value.specs.Typing.{in_range}
use Rattle.eb_term.specs.declared.problem.Choice.{Choice}
use Rattle.int_dom.specs.declared.interval.Interval.{Interval}
use Rattle.int_dom.specs.Intervals.{is_empty, at_most, above, has_parts}
use Rattle.occ_store.specs.Places.{has_at, changed_at}
use Rattle.occ_store.specs.Stores.{Store, first_store}
use Rattle.tree_form.specs.declared.line.Line.{Line}
use Rattle.tree_form.specs.declared.line.Line.TheVariants.{Header as header, Begin as begin, Split as split, Clash as clash, Eval as eval, Open as leave, End as finish}
use Rattle.tree_form.specs.Lines.{is_small, has_small_numbers}
use Rattle.tree_checker.specs.Trees.{Facts, Tree, leaf, one, two, Fits, parts_of, Holds, lines_of}
use Rattle.tree_checker.proofs.Budget.{two_parts, at_least}
use Rattle.tree_checker.proofs.TextLaws.{at_within, length-changed}

-- the domain lies within the scope
record LiesWithin (scope : Scope) (d : Interval) : Type 0 where
  low : scope.lo ≤ℤ d.lo
  high : d.hi ≤ℤ scope.hi

abbrev LieWithin : Scope → Store → Type 0
LieWithin scope [] = ⊤
LieWithin scope (d ∷ store) = LiesWithin scope d × LieWithin scope store

low_within : (scope : Scope) (n : ℤ) (d : Interval) → LiesWithin scope d → LiesWithin scope (at_most n d)
low_within scope n d h = record { low = h.low; high = omega (arith, ints, clamps, h.high) }

high_within : (scope : Scope) (n : ℤ) (d : Interval) → LiesWithin scope d → LiesWithin scope (above n d)
high_within scope n d h = record { low = omega (arith, ints, clamps, h.low); high = h.high }

changed_within : (scope : Scope) (f : Interval → Interval) (k : ℕ) (store : Store) → ((d : Interval) → LiesWithin scope d → LiesWithin scope (f d)) → LieWithin scope store → LieWithin scope (changed_at f k store)
changed_within scope f k [] keeps h = tt
changed_within scope f zero (d ∷ store) keeps h = (keeps d h.0, h.1)
changed_within scope f (suc k) (d ∷ store) keeps h = (h.0, changed_within scope f k store keeps h.1)

-- neither part of a domain is empty only if the number lies within the scope
record IsBetween (scope : Scope) (n : ℤ) : Type 0 where
  low : scope.lo ≤ℤ n
  high : n ≤ℤ scope.hi

between : (scope : Scope) (n : ℤ) (d : Interval) → LiesWithin scope d → has_parts n d ≡ true → IsBetween scope n
between scope n d h e =
    let t = two_parts (is_empty (at_most n d)) (is_empty (above n d)) e in
    let low : d.lo ≤ℤ int_min d.hi n = at_least _ _ t.0 in
    let high : int_max d.lo (n +ℤ pos 1) ≤ℤ d.hi = at_least _ _ t.1 in
    record { low = omega (arith, ints, clamps, h.low); high = omega (arith, ints, clamps, h.high) }

between_at : (scope : Scope) (n : ℤ) (k : ℕ) (store : Store) → LieWithin scope store → has_at (has_parts n) k store ≡ true → IsBetween scope n
between_at scope n k [] h e = absurd (cc)
between_at scope n zero (d ∷ store) h e = between scope n d h.0 e
between_at scope n (suc k) (d ∷ store) h e = between_at scope n k store h.1 e

range_between : (scope : Scope) (n : ℤ) → in_range scope.lo ≡ true → in_range scope.hi ≡ true → IsBetween scope n → in_range n ≡ true
range_between scope n low high h = grind (arith, ints, h.low, h.high)

is_small_below : (k n : ℕ) → k < n → n ≤ 2 ^ 62 → is_small k ≡ true
is_small_below k n less few = grind arith

-- What is known of a box.
record IsBox (scope : Scope) (store : Store) : Type 0 where
  within : LieWithin scope store
  few : length store ≤ 2 ^ 62

abbrev AreBoxes : Scope → List Store → Type 0
AreBoxes scope [] = ⊤
AreBoxes scope (store ∷ stores) = IsBox scope store × AreBoxes scope stores

parts_are_boxes : (scope : Scope) (store : Store) (line : Line) → IsBox scope store → AreBoxes scope (parts_of store line)
parts_are_boxes scope store (split k n) h = (
  record { within = changed_within scope (at_most n) k store (low_within scope n) h.within; few = omega (arith, h.few, length-changed (at_most n) k store) },
  (record { within = changed_within scope (above n) k store (high_within scope n) h.within; few = omega (arith, h.few, length-changed (above n) k store) }, tt),
)
parts_are_boxes scope store (clash k) h = tt
parts_are_boxes scope store (eval k) h = tt
parts_are_boxes scope store leave h = tt
parts_are_boxes scope store header h = tt
parts_are_boxes scope store begin h = tt
parts_are_boxes scope store finish h = tt

-- What is known of the scope and the facts.
pub record HasFew (scope : Scope) (facts : Facts) : Type 0 where
  pub low : in_range scope.lo ≡ true
  pub high : in_range scope.hi ≡ true
  pub few : length facts.terms ≤ 2 ^ 62

line_small : (scope : Scope) (facts : Facts) (store : Store) (line : Line) → HasFew scope facts → IsBox scope store → Fits facts store line → has_small_numbers line ≡ true
line_small scope facts store (split k n) small box fits =
    ap₂ (λ a b. a && b) (is_small_below k (length store) (at_within (has_parts n) k store fits) box.few)
    (range_between scope n small.low small.high (between_at scope n k store box.within fits))
line_small scope facts store (clash k) small box fits = is_small_below k (length store) (at_within is_empty k store fits) box.few
line_small scope facts store (eval k) small box fits = is_small_below k (length facts.terms) (at_within _ k facts.terms fits.1) small.few
line_small scope facts store leave small box fits = refl
line_small scope facts store header small box fits = refl
line_small scope facts store begin small box fits = refl
line_small scope facts store finish small box fits = refl

tree_small : (scope : Scope) (facts : Facts) (tree : Tree) (store : Store) → HasFew scope facts → IsBox scope store → Holds facts store tree → list_all has_small_numbers (lines_of tree) ≡ true
tree_small scope facts (leaf line) store small box (fits, parts) = ap (λ a. a && true) (line_small scope facts store line small box fits)
tree_small scope facts (one line tree) store small box (a, fits, parts, holds) =
    let boxes = subst (AreBoxes scope) parts (parts_are_boxes scope store line box) in
    ap₂ (λ a b. a && b) (line_small scope facts store line small box fits) (tree_small scope facts tree a small boxes.0 holds)
tree_small scope facts (two line first second) store small box (a, b, fits, parts, holds, holds') =
    let boxes = subst (AreBoxes scope) parts (parts_are_boxes scope store line box) in
    ap₂ (λ a b. a && b) (line_small scope facts store line small box fits)
    (list_all-append has_small_numbers (lines_of first) (lines_of second)
    ∙ ap₂ (λ a b. a && b) (tree_small scope facts first a small boxes.0 holds) (tree_small scope facts second b small boxes.1.0 holds'))

first_within : (scope : Scope) (choices : List Choice) → LieWithin scope (first_store scope choices)
first_within scope [] = tt
first_within scope (c ∷ choices) = (record { low = omega (arith, ints); high = omega (arith, ints) }, first_within scope choices)

pub small_numbers : (scope : Scope) (choices : List Choice) (facts : Facts) (first : Store) (tree : Tree) → HasFew scope facts → first ≡ first_store scope choices → length first ≤ 2 ^ 62 → Holds facts first tree → list_all has_small_numbers (lines_of tree) ≡ true
small_numbers scope choices facts first tree small same few holds =
    tree_small scope facts tree first small (record { within = subst (LieWithin scope) (sym same) (first_within scope choices); few = few }) holds
