-- Induction over bodies, and what each body is at its top.
use Rattle.std.proofs.Common.{◌≡◌, ◌∙◌, List, sym, ap, subst, rules}
use Rattle.eb_value.specs.declared.value.Value.{Value}
use Rattle.int_dom.specs.declared.interval.Interval.{Interval}
use Rattle.occ_domains.specs.declared.body.Body.{Body, Body-F, out-Body, map-Body, ind-Body, the_lemmas}
use Rattle.occ_domains.specs.declared.body.Body.TheViews.{roll-Body}
use Rattle.occ_domains.specs.declared.body.Body.TheOpen as body
use Rattle.occ_domains.specs.declared.body.Body.TheVariants as of

abbrev Known : (Body → Type 0) → Type 0
Known P = (b : Body) × P b

-- what the induction asks at each constructor
pub record Steps (P : Body → Type 0) : Type 0 where
  pub none : P of.Empty
  pub integers : (d : Interval) → P (of.Integers d)
  pub members : (xs : List Value) → P (of.Members xs)
  pub pairs : (a b : Body) → P a → P b → P (of.Pairs a b)
  pub sets : P of.AllSets

step : (P : Body → Type 0) → Steps P → (y : Body-F (Known P)) → P (roll-Body (map-Body (Known P) Body (λ e. e.0) y))
unfolding roll-Body denote.Hole.Carrier.roll
step P s body.Empty = s.none
step P s (body.Integers d) = s.integers d
step P s (body.Members xs) = s.members xs
step P s (body.Pairs a b) = s.pairs a.0 b.0 a.1 b.1
step P s body.AllSets = s.sets

pub ind_body : (P : Body → Type 0) → Steps P → (b : Body) → P b
ind_body P s = ind-Body P (λ x y is. subst (λ z. P (roll-Body z)) is (step P s y))

-- ---- the top

pub out-empty : out-Body of.Empty ≡ body.Empty
out-empty = search (rules, the_lemmas)

pub out-integers : (d : Interval) → out-Body (of.Integers d) ≡ body.Integers d
out-integers d = search (rules, the_lemmas)

pub out-members : (xs : List Value) → out-Body (of.Members xs) ≡ body.Members xs
out-members xs = search (rules, the_lemmas)

pub out-pairs : (a b : Body) → out-Body (of.Pairs a b) ≡ body.Pairs a b
out-pairs a b = search (rules, the_lemmas)

pub out-sets : out-Body of.AllSets ≡ body.AllSets
out-sets = search (rules, the_lemmas)

-- a body is what its top makes
whole : (b : Body) → roll-Body (out-Body b) ≡ b
unfolding roll-Body denote.Hole.Carrier.roll
whole = ind_body (λ b. roll-Body (out-Body b) ≡ b) (record {
  none = ap roll-Body out-empty;
  integers = λ d. ap roll-Body (out-integers d);
  members = λ xs. ap roll-Body (out-members xs);
  pairs = λ a b p q. ap roll-Body (out-pairs a b);
  sets = ap roll-Body out-sets;
})

pub by_top : (a b : Body) → out-Body a ≡ out-Body b → a ≡ b
by_top a b e = sym (whole a) ∙ ap roll-Body e ∙ whole b
