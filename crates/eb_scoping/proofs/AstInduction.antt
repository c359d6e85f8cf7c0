-- Induction over formulas, by the plain constructors.
use Rattle.std.proofs.Common.{ℤ, ℕ, List, [], ◌∷◌, map, subst}
use Rattle.std.specs.List.{AllByRecursion}
use Rattle.eb_syntax.specs.declared.ast.Constant.{Constant}
use Rattle.eb_syntax.specs.declared.ast.Prefix.{Prefix}
use Rattle.eb_syntax.specs.declared.ast.Call.{Call}
use Rattle.eb_syntax.specs.declared.ast.Operator.{Operator}
use Rattle.eb_syntax.specs.declared.ast.Quantifier.{Quantifier}
use Rattle.eb_syntax.specs.declared.ast.Binder.{Binder}
use Rattle.eb_syntax.specs.declared.ast.Bound.{Bound}
use Rattle.eb_syntax.specs.declared.ast.Identifier.{Identifier}
use Rattle.eb_syntax.specs.declared.ast.Ast.{Ast, ind-Ast}
use Rattle.eb_syntax.specs.declared.ast.Node.{Node, Node-F, map-Node}
use Rattle.eb_syntax.specs.declared.ast.Node.TheViews.{roll-Node, roll-Ast}
use Rattle.eb_syntax.specs.declared.ast.Node.TheOpen as form
use Rattle.eb_syntax.specs.declared.ast.Node.TheVariants as node
use Rattle.eb_syntax.specs.Asts.{at, number, identifier, primed, constant, prefix, call, parentheses, quantifier, binder, comprehension, builder, extension, partition}

abbrev Known : (Ast → Type 0) → Type 0
Known P = (a : Ast) × P a

-- A node says nothing by itself: its formula does, at each place.
abbrev KnownNode : (Ast → Type 0) → Type 0
KnownNode P = (n : Node) × ((place : ℕ) → P (roll-Ast (record { node = n; place = place })))

each_known : (P : Ast → Type 0) (es : List (Known P)) → AllByRecursion P (map (λ e. e.0) es)
each_known P [] = tt
each_known P (e ∷ es) = (e.1, each_known P es)

-- what the induction asks at each constructor
pub record Steps (P : Ast → Type 0) : Type 0 where
  pub number : (place : ℕ) (n : ℤ) → P (number place n)
  pub identifier : (place : ℕ) (x : List ℕ) → P (identifier place x)
  pub primed : (place : ℕ) (x : List ℕ) → P (primed place x)
  pub constant : (place : ℕ) (c : Constant) → P (constant place c)
  pub prefix : (place : ℕ) (op : Prefix) (a : Ast) → P a → P (prefix place op a)
  pub call : (place : ℕ) (op : Call) (a : Ast) → P a → P (call place op a)
  pub parentheses : (place : ℕ) (a : Ast) → P a → P (parentheses place a)
  pub inverse : (place : ℕ) (a : Ast) → P a → P (at place (node.Inverse a))
  pub operator : (place : ℕ) (op : Operator) (a b : Ast) → P a → P b → P (at place (node.Operator op a b))
  pub quantifier : (place : ℕ) (q : Quantifier) (xs : List Identifier) (a : Ast) → P a → P (quantifier place q xs a)
  pub binder : (place : ℕ) (op : Binder) (b : Bound) (p e : Ast) → P p → P e → P (binder place op b p e)
  pub comprehension : (place : ℕ) (xs : List Identifier) (p e : Ast) → P p → P e → P (comprehension place xs p e)
  pub builder : (place : ℕ) (e p : Ast) → P e → P p → P (builder place e p)
  pub extension : (place : ℕ) (es : List Ast) → AllByRecursion P es → P (extension place es)
  pub partition : (place : ℕ) (es : List Ast) → AllByRecursion P es → P (partition place es)

step : (P : Ast → Type 0) → Steps P → (y : Node-F (KnownNode P) (Known P)) → (place : ℕ) → P (roll-Ast (record { node = roll-Node (map-Node (KnownNode P) (Known P) Node Ast (λ e. e.0) (λ e. e.0) y); place = place }))
unfolding roll-Node denote.Hole.Carrier.roll
step P s (form.Number n) place = s.number place n
step P s (form.Identifier x) place = s.identifier place x
step P s (form.Primed x) place = s.primed place x
step P s (form.Constant c) place = s.constant place c
step P s (form.Prefix op a) place = s.prefix place op a.0 a.1
step P s (form.Call op a) place = s.call place op a.0 a.1
step P s (form.Parentheses a) place = s.parentheses place a.0 a.1
step P s (form.Inverse a) place = s.inverse place a.0 a.1
step P s (form.Operator op a b) place = s.operator place op a.0 b.0 a.1 b.1
step P s (form.Quantifier q xs a) place = s.quantifier place q xs a.0 a.1
step P s (form.Binder op b p e) place = s.binder place op b p.0 e.0 p.1 e.1
step P s (form.Comprehension xs p e) place = s.comprehension place xs p.0 e.0 p.1 e.1
step P s (form.Builder e p) place = s.builder place e.0 p.0 e.1 p.1
step P s (form.Extension es) place = s.extension place (map (λ e. e.0) es) (each_known P es)
step P s (form.Partition es) place = s.partition place (map (λ e. e.0) es) (each_known P es)

pub ind_ast : (P : Ast → Type 0) → Steps P → (a : Ast) → P a
ind_ast P s =
    ind-Ast (λ n. (place : ℕ) → P (roll-Ast (record { node = n; place = place }))) P
    (λ x y is. subst (λ z. (place : ℕ) → P (roll-Ast (record { node = roll-Node z; place = place }))) is (step P s y))
    (λ x y is. subst (λ z. P (roll-Ast z)) is (y.node.1 y.place))
