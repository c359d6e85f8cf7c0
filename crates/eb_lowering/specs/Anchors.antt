-- Anchors: which of the identifiers of a binder take their values from a set that its predicate names, and which from all values
-- of their type.
--
-- A conjunct `p : E` is an anchor where p is made of distinct identifiers of the binder by `|->`, none of which has an anchor
-- before it, and E is a value without identifiers of the binder that have none. The first conjunct that is no anchor ends the
-- reading.
use Rattle.std.specs.Prelude.{ℕ, Bool, true, not, ◌&&◌, if◌then◌else◌, ◌==◌, List, [], ◌∷◌, ◌++◌, map, filter, Option, Some, None}
use Rattle.std.specs.List.{list_all, list_any}
use Rattle.eb_term.specs.declared.operators.Side.{Side}
use Rattle.eb_term.specs.declared.operators.Side.TheVariants as side
use Rattle.eb_lowering.specs.declared.around.Leaf.{Leaf}

abbrev pub below : Side → Leaf → Leaf
below s l = record { number = l.number; path = s ∷ l.path }

-- the identifiers of `a |-> b`, where both sides are made of identifiers
abbrev pub paired : Option (List Leaf) → Option (List Leaf) → Option (List Leaf)
paired (Some xs) (Some ys) = Some (map (below side.First) xs ++ map (below side.Second) ys)
paired _ _ = None

abbrev pub is_in : List ℕ → ℕ → Bool
is_in ks k = list_any (λ j. j == k) ks

abbrev pub numbers_of : List Leaf → List ℕ
numbers_of ls = map (λ l. l.number) ls

abbrev pub are_distinct : List ℕ → Bool
are_distinct [] = true
are_distinct (k ∷ ks) = not (is_in ks k) && are_distinct ks

-- A conjunct of a predicate. Of `a : b`: the identifiers that a is made of, where it is so, what b becomes (an R), the identifiers that b
-- uses, and whether b is a value. Another one is `a : b` for no a.
pub record Conjunct (R : Type 0) : Type 0 where
  pub leaves : Option (List Leaf)
  pub range : R
  pub uses : List ℕ
  pub is_value : Bool

-- a conjunct `p : E` is an anchor, where p is made of these identifiers and those of the binder have no anchor yet
abbrev pub anchors : {R : Type 0} → List ℕ → Conjunct R → List Leaf → Bool
anchors free c ls = are_distinct (numbers_of ls) && list_all (is_in free) (numbers_of ls) && c.is_value && not (list_any (is_in free) c.uses)

-- A range of a binder: for these identifiers the members of what a formula becomes, or for one all values of its type.
pub data Range (R : Type 0) : Type 0 where
  over : List Leaf → R → Range R
  all : ℕ → Range R

-- those that have no anchor yet, behind one
abbrev pub without : List ℕ → List Leaf → List ℕ
without free ls = filter (λ k. not (is_in (numbers_of ls) k)) free

-- the ranges behind a conjunct, where those of the conjuncts that follow are these for the identifiers left
abbrev pub ranges_by : {R : Type 0} → List ℕ → Conjunct R → (List ℕ → List (Range R)) → Option (List Leaf) → List (Range R)
ranges_by free c rest None = map all free
ranges_by free c rest (Some ls) = if anchors free c ls then over ls c.range ∷ rest (without free ls) else map all free

-- the ranges of a binder with these identifiers: its anchors, and then what is left in its own order
abbrev pub ranges_of : {R : Type 0} → List ℕ → List (Conjunct R) → List (Range R)
ranges_of free [] = map all free
ranges_of free (c ∷ cs) = ranges_by free c (λ left. ranges_of left cs) c.leaves
