-- Induction over bodies, and which values a body has, at each constructor.
use Rattle.std.proofs.Common.{◌≡◌, ◌∙◌, Bool, true, false, ◌&&◌, ℤ, int_le, List, [], ◌∷◌, refl, sym, subst, arith, rules}
use Rattle.std.proofs.lemmas.Int.{ints}
use Rattle.eb_value.specs.declared.value.Value.{Value}
use Rattle.eb_value.specs.declared.value.Form.TheOpen as val
use Rattle.eb_value.specs.Values.{Layer, layer}
use Rattle.eb_value.specs.Comprehensions.{has as is_among}
use Rattle.int_dom.specs.declared.interval.Interval.{Interval}
use Rattle.int_dom.specs.Intervals as interval
use Rattle.occ_domains.specs.declared.body.Body.{Body, Body-F, out-Body, map-Body, ind-Body, the_lemmas}
use Rattle.occ_domains.specs.declared.body.Body.TheViews.{roll-Body}
use Rattle.occ_domains.specs.declared.body.Body.TheOpen as body
use Rattle.occ_domains.specs.declared.body.Body.TheVariants as of
use Rattle.occ_domains.specs.Bodies.{is_plain_layer, has_step, has, has_at, is_empty, is_empty_layer, integers, members, pairs}

-- ---- induction

abbrev Known : (Body → Type 0) → Type 0
Known P = (b : Body) × P b

-- what the induction asks at each constructor
pub record Steps (P : Body → Type 0) : Type 0 where
  pub none : P of.Empty
  pub integers : (d : Interval) → P (of.Integers d)
  pub members : (xs : List Value) → P (of.Members xs)
  pub pairs : (a b : Body) → P a → P b → P (of.Pairs a b)
  pub sets : P of.AllSets

step : (P : Body → Type 0) → Steps P → (y : Body-F (Known P)) → P (roll-Body (map-Body (Known P) Body (λ e. e.0) y))
unfolding roll-Body denote.Hole.Carrier.roll
step P s body.Empty = s.none
step P s (body.Integers d) = s.integers d
step P s (body.Members xs) = s.members xs
step P s (body.Pairs a b) = s.pairs a.0 b.0 a.1 b.1
step P s body.AllSets = s.sets

pub ind_body : (P : Body → Type 0) → Steps P → (b : Body) → P b
ind_body P s = ind-Body P (λ x y is. subst (λ z. P (roll-Body z)) is (step P s y))

-- ---- at the constructors

pub has-empty : (v : Value) → has of.Empty v ≡ false
has-empty v = search (rules, the_lemmas)

pub has-integers : (d : Interval) (v : Value) → has (of.Integers d) v ≡ has_step (body.Integers d) v (layer v)
has-integers d v = search (rules, the_lemmas)

pub has-members : (xs : List Value) (v : Value) → has (of.Members xs) v ≡ (is_plain_layer (layer v) && is_among xs v)
has-members xs v = search (rules, the_lemmas)

pub has-pairs : (a b : Body) (v : Value) → has (of.Pairs a b) v ≡ has_step (body.Pairs (has a) (has b)) v (layer v)
has-pairs a b v = search (rules, the_lemmas)

pub has-sets : (v : Value) → has of.AllSets v ≡ has_step body.AllSets v (layer v)
has-sets v = search (rules, the_lemmas)

pub out-empty : out-Body of.Empty ≡ body.Empty
out-empty = search (rules, the_lemmas)

pub out-integers : (d : Interval) → out-Body (of.Integers d) ≡ body.Integers d
out-integers d = search (rules, the_lemmas)

pub out-members : (xs : List Value) → out-Body (of.Members xs) ≡ body.Members xs
out-members xs = search (rules, the_lemmas)

pub out-pairs : (a b : Body) → out-Body (of.Pairs a b) ≡ body.Pairs a b
out-pairs a b = search (rules, the_lemmas)

pub out-sets : out-Body of.AllSets ≡ body.AllSets
out-sets = search (rules, the_lemmas)

-- ---- what a layer has

pub has_out : (b : Body) (v : Value) → has b v ≡ has_at (out-Body b) v (layer v)
has_out = ind_body (λ b. (v : Value) → has b v ≡ has_at (out-Body b) v (layer v)) (record {
  none = λ v. rw (has-empty v, out-empty) refl;
  integers = λ d v. rw (has-integers d v, out-integers d) refl;
  members = λ xs v. rw (has-members xs v, out-members xs) refl;
  pairs = λ a b p q v. rw (has-pairs a b v, out-pairs a b) refl;
  sets = λ v. rw (has-sets v, out-sets) refl;
})

-- ---- bodies in normal form have what they are made of

pub and_false : (b : Bool) → (b && false) ≡ false
and_false true = refl
and_false false = refl

no_integer : (d : Interval) (n : ℤ) → interval.is_empty d ≡ true → (int_le d.lo n && int_le n d.hi) ≡ false
no_integer d n h = grind (arith, ints)

empty_interval : (d : Interval) (v : Value) (y : Layer) → interval.is_empty d ≡ true → false ≡ has_step (body.Integers d) v y
empty_interval d v (val.Int n) h = sym (no_integer d n h)
empty_interval d v _ h = refl

pub integers_have : (d : Interval) (v : Value) → has (integers d) v ≡ has_step (body.Integers d) v (layer v)
integers_have d v = at (interval.is_empty d) refl where
  at : (b : Bool) → interval.is_empty d ≡ b → has (integers d) v ≡ has_step (body.Integers d) v (layer v)
  at true e = rw e (has-empty v ∙ empty_interval d v (layer v) e)
  at false e = rw e (has-integers d v)

pub members_have : (xs : List Value) (v : Value) → has (members xs) v ≡ (is_plain_layer (layer v) && is_among xs v)
members_have [] v = has-empty v ∙ sym (and_false (is_plain_layer (layer v)))
members_have (x ∷ xs) v = has-members (x ∷ xs) v

pub empty_has : (b : Body) (v : Value) → is_empty b ≡ true → has b v ≡ false
empty_has b v h = has_out b v ∙ at (out-Body b) h where
  at : (z : Body-F Body) → is_empty_layer z ≡ true → has_at z v (layer v) ≡ false
  at body.Empty e = refl
  at (body.Integers d) e = cc
  at (body.Members xs) e = cc
  at (body.Pairs c d) e = cc
  at body.AllSets e = cc

none_first : (a b : Body) (v : Value) (y : Layer) → is_empty a ≡ true → false ≡ has_step (body.Pairs (has a) (has b)) v y
none_first a b v (val.Pair p q) h = rw (empty_has a p h) refl
none_first a b v _ h = refl

none_second : (a b : Body) (v : Value) (y : Layer) → is_empty b ≡ true → false ≡ has_step (body.Pairs (has a) (has b)) v y
none_second a b v (val.Pair p q) h = rw (empty_has b q h) (sym (and_false (has a p)))
none_second a b v _ h = refl

pub pairs_have : (a b : Body) (v : Value) → has (pairs a b) v ≡ has_step (body.Pairs (has a) (has b)) v (layer v)
pairs_have a b v = at (is_empty a) (is_empty b) refl refl where
  at : (c d : Bool) → is_empty a ≡ c → is_empty b ≡ d → has (pairs a b) v ≡ has_step (body.Pairs (has a) (has b)) v (layer v)
  at true d e f = rw e (has-empty v ∙ none_first a b v (layer v) e)
  at false true e f = rw (e, f) (has-empty v ∙ none_second a b v (layer v) f)
  at false false e f = rw (e, f) (has-pairs a b v)
