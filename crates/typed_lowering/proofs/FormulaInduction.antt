-- Induction over formulas with numbers in place of names, by the plain constructors.
use Rattle.std.proofs.Common.{ℤ, ℕ, Bool, List, [], ◌∷◌, map, subst}
use Rattle.std.specs.List.{AllByRecursion}
use Rattle.eb_syntax.specs.declared.ast.Constant.{Constant}
use Rattle.eb_syntax.specs.declared.ast.Prefix.{Prefix}
use Rattle.eb_syntax.specs.declared.ast.Call.{Call}
use Rattle.eb_syntax.specs.declared.ast.Operator.{Operator}
use Rattle.eb_syntax.specs.declared.ast.Quantifier.{Quantifier}
use Rattle.eb_syntax.specs.declared.ast.Binder.{Binder}
use Rattle.eb_syntax.specs.declared.ast.Bound.{Bound}
use Rattle.numbered_names.specs.declared.entries.Entry.{Entry}
use Rattle.eb_resolved.specs.declared.resolved.Resolved.{Resolved, ind-Resolved}
use Rattle.eb_resolved.specs.declared.resolved.ResolvedNode.{ResolvedNode, ResolvedNode-F, map-ResolvedNode}
use Rattle.eb_resolved.specs.declared.resolved.ResolvedNode.TheViews.{roll-ResolvedNode, roll-Resolved}
use Rattle.eb_resolved.specs.declared.resolved.ResolvedNode.TheOpen as form
use Rattle.eb_resolved.specs.Formulas.{number, identifier, primed, unknown, constant, mark, prefix, call, inverse, operator, quantifier, binder, comprehension, builder, extension, partition}

abbrev Known : (Resolved → Type 0) → Type 0
Known P = (r : Resolved) × P r

-- A node says nothing by itself: its formula does, at each place.
abbrev KnownNode : (Resolved → Type 0) → Type 0
KnownNode P = (n : ResolvedNode) × ((place : ℕ) → P (roll-Resolved (record { node = n; place = place })))

each_known : (P : Resolved → Type 0) (rs : List (Known P)) → AllByRecursion P (map (λ r. r.0) rs)
each_known P [] = tt
each_known P (r ∷ rs) = (r.1, each_known P rs)

-- what the induction asks at each constructor
pub record Steps (P : Resolved → Type 0) : Type 0 where
  pub number : (place : ℕ) (n : ℤ) → P (number place n)
  pub identifier : (place k : ℕ) → P (identifier place k)
  pub primed : (place k : ℕ) → P (primed place k)
  pub unknown : (place : ℕ) (x : List ℕ) (is_primed : Bool) → P (unknown place x is_primed)
  pub constant : (place : ℕ) (c : Constant) → P (constant place c)
  pub mark : (place : ℕ) (c : Constant) (k : ℕ) → P (mark place c k)
  pub prefix : (place : ℕ) (o : Prefix) (a : Resolved) → P a → P (prefix place o a)
  pub call : (place : ℕ) (o : Call) (a : Resolved) → P a → P (call place o a)
  pub inverse : (place : ℕ) (a : Resolved) → P a → P (inverse place a)
  pub operator : (place : ℕ) (o : Operator) (a b : Resolved) → P a → P b → P (operator place o a b)
  pub quantifier : (place : ℕ) (q : Quantifier) (es : List Entry) (p : Resolved) → P p → P (quantifier place q es p)
  pub binder : (place : ℕ) (o : Binder) (b : Bound) (first : ℕ) (p e : Resolved) → P p → P e → P (binder place o b first p e)
  pub comprehension : (place : ℕ) (es : List Entry) (p e : Resolved) → P p → P e → P (comprehension place es p e)
  pub builder : (place : ℕ) (es : List Entry) (e p : Resolved) → P e → P p → P (builder place es e p)
  pub extension : (place : ℕ) (rs : List Resolved) → AllByRecursion P rs → P (extension place rs)
  pub partition : (place : ℕ) (rs : List Resolved) → AllByRecursion P rs → P (partition place rs)

step : (P : Resolved → Type 0) → Steps P → (y : ResolvedNode-F (KnownNode P) (Known P)) → (place : ℕ) → P (roll-Resolved (record { node = roll-ResolvedNode (map-ResolvedNode (KnownNode P) (Known P) ResolvedNode Resolved (λ e. e.0) (λ e. e.0) y); place = place }))
unfolding roll-ResolvedNode denote.Hole.Carrier.roll
step P s (form.Number n) place = s.number place n
step P s (form.Identifier k) place = s.identifier place k
step P s (form.Primed k) place = s.primed place k
step P s (form.Unknown x is_primed) place = s.unknown place x is_primed
step P s (form.Constant c) place = s.constant place c
step P s (form.Mark c k) place = s.mark place c k
step P s (form.Prefix o a) place = s.prefix place o a.0 a.1
step P s (form.Call o a) place = s.call place o a.0 a.1
step P s (form.Inverse a) place = s.inverse place a.0 a.1
step P s (form.Operator o a b) place = s.operator place o a.0 b.0 a.1 b.1
step P s (form.Quantifier q es p) place = s.quantifier place q es p.0 p.1
step P s (form.Binder o b first p e) place = s.binder place o b first p.0 e.0 p.1 e.1
step P s (form.Comprehension es p e) place = s.comprehension place es p.0 e.0 p.1 e.1
step P s (form.Builder es e p) place = s.builder place es e.0 p.0 e.1 p.1
step P s (form.Extension rs) place = s.extension place (map (λ r. r.0) rs) (each_known P rs)
step P s (form.Partition rs) place = s.partition place (map (λ r. r.0) rs) (each_known P rs)

pub ind_resolved : (P : Resolved → Type 0) → Steps P → (r : Resolved) → P r
ind_resolved P s =
    ind-Resolved (λ n. (place : ℕ) → P (roll-Resolved (record { node = n; place = place }))) P
    (λ x y is. subst (λ z. (place : ℕ) → P (roll-Resolved (record { node = roll-ResolvedNode z; place = place }))) is (step P s y))
    (λ x y is. subst (λ z. P (roll-Resolved z)) is (y.node.1 y.place))
