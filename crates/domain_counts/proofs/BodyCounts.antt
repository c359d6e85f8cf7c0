-- Induction over bodies, and what counts say at each constructor.
use Rattle.std.proofs.Common.{◌≡◌, ◌*◌, true, false, ◌&&◌, List, length, subst, rules}
use Rattle.eb_value.specs.declared.value.Value.{Value}
use Rattle.int_dom.specs.declared.interval.Interval.{Interval}
use Rattle.int_dom.specs.Intervals.{size}
use Rattle.occ_domains.specs.declared.body.Body.{Body, Body-F, out-Body, map-Body, ind-Body, the_lemmas}
use Rattle.occ_domains.specs.declared.body.Body.TheViews.{roll-Body}
use Rattle.occ_domains.specs.declared.body.Body.TheOpen as body
use Rattle.occ_domains.specs.declared.body.Body.TheVariants as of
use Rattle.domain_counts.specs.Counts.{count, is_setless}

-- ---- induction

abbrev Known : (Body → Type 0) → Type 0
Known P = (b : Body) × P b

-- what the induction asks at each constructor
pub record Steps (P : Body → Type 0) : Type 0 where
  pub none : P of.Empty
  pub integers : (d : Interval) → P (of.Integers d)
  pub members : (xs : List Value) → P (of.Members xs)
  pub pairs : (a b : Body) → P a → P b → P (of.Pairs a b)
  pub sets : P of.AllSets

step : (P : Body → Type 0) → Steps P → (y : Body-F (Known P)) → P (roll-Body (map-Body (Known P) Body (λ e. e.0) y))
unfolding roll-Body denote.Hole.Carrier.roll
step P s body.Empty = s.none
step P s (body.Integers d) = s.integers d
step P s (body.Members xs) = s.members xs
step P s (body.Pairs a b) = s.pairs a.0 b.0 a.1 b.1
step P s body.AllSets = s.sets

pub ind_body : (P : Body → Type 0) → Steps P → (b : Body) → P b
ind_body P s = ind-Body P (λ x y is. subst (λ z. P (roll-Body z)) is (step P s y))

-- ---- at the constructors

pub out-empty : out-Body of.Empty ≡ body.Empty
out-empty = search (rules, the_lemmas)

pub out-integers : (d : Interval) → out-Body (of.Integers d) ≡ body.Integers d
out-integers d = search (rules, the_lemmas)

pub out-members : (xs : List Value) → out-Body (of.Members xs) ≡ body.Members xs
out-members xs = search (rules, the_lemmas)

pub out-pairs : (a b : Body) → out-Body (of.Pairs a b) ≡ body.Pairs a b
out-pairs a b = search (rules, the_lemmas)

pub out-sets : out-Body of.AllSets ≡ body.AllSets
out-sets = search (rules, the_lemmas)

pub count-empty : count of.Empty ≡ 0
count-empty = search (rules, the_lemmas)

pub count-integers : (d : Interval) → count (of.Integers d) ≡ size d
count-integers d = search (rules, the_lemmas)

pub count-members : (xs : List Value) → count (of.Members xs) ≡ length xs
count-members xs = search (rules, the_lemmas)

pub count-pairs : (a b : Body) → count (of.Pairs a b) ≡ count a * count b
count-pairs a b = search (rules, the_lemmas)

pub count-sets : count of.AllSets ≡ 1
count-sets = search (rules, the_lemmas)

pub setless-empty : is_setless of.Empty ≡ true
setless-empty = search (rules, the_lemmas)

pub setless-integers : (d : Interval) → is_setless (of.Integers d) ≡ true
setless-integers d = search (rules, the_lemmas)

pub setless-members : (xs : List Value) → is_setless (of.Members xs) ≡ true
setless-members xs = search (rules, the_lemmas)

pub setless-pairs : (a b : Body) → is_setless (of.Pairs a b) ≡ (is_setless a && is_setless b)
setless-pairs a b = search (rules, the_lemmas)

pub setless-sets : is_setless of.AllSets ≡ false
setless-sets = search (rules, the_lemmas)
