-- Formulas as they are written, by their parts.
use Rattle.std.specs.Prelude.{ℕ, ℤ, List}
use Rattle.eb_syntax.specs.declared.ast.Constant.{Constant}
use Rattle.eb_syntax.specs.declared.ast.Prefix.{Prefix}
use Rattle.eb_syntax.specs.declared.ast.Call.{Call}
use Rattle.eb_syntax.specs.declared.ast.Operator.{Operator}
use Rattle.eb_syntax.specs.declared.ast.Quantifier.{Quantifier}
use Rattle.eb_syntax.specs.declared.ast.Binder.{Binder}
use Rattle.eb_syntax.specs.declared.ast.Bound.{Bound}
use Rattle.eb_syntax.specs.declared.ast.Identifier.{Identifier}
use Rattle.eb_syntax.specs.declared.ast.Ast.{Ast, out-Ast, roll-Ast, fold-Ast}
use Rattle.eb_syntax.specs.declared.ast.Node.{Node, Node-F, out-Node}
use Rattle.eb_syntax.specs.declared.ast.Node.TheVariants as node

-- One level of a formula.
abbrev pub Layer : Type 0
Layer = Node-F Node Ast

abbrev pub layer : Ast → Layer
layer a = out-Node (out-Ast a).node

-- the place of its first token
abbrev pub place_of : Ast → ℕ
place_of a = (out-Ast a).place

abbrev pub at : ℕ → Node → Ast
at place n = roll-Ast (record { node = n; place = place })

abbrev pub number : ℕ → ℤ → Ast
number place n = at place (node.Number n)

abbrev pub identifier : ℕ → List ℕ → Ast
identifier place x = at place (node.Identifier x)

abbrev pub primed : ℕ → List ℕ → Ast
primed place x = at place (node.Primed x)

abbrev pub constant : ℕ → Constant → Ast
constant place c = at place (node.Constant c)

abbrev pub prefix : ℕ → Prefix → Ast → Ast
prefix place op a = at place (node.Prefix op a)

abbrev pub call : ℕ → Call → Ast → Ast
call place op a = at place (node.Call op a)

abbrev pub parentheses : ℕ → Ast → Ast
parentheses place a = at place (node.Parentheses a)

abbrev pub inverse : Ast → Ast
inverse a = at (place_of a) (node.Inverse a)

abbrev pub operator : Operator → Ast → Ast → Ast
operator op a b = at (place_of a) (node.Operator op a b)

abbrev pub quantifier : ℕ → Quantifier → List Identifier → Ast → Ast
quantifier place q xs a = at place (node.Quantifier q xs a)

abbrev pub binder : ℕ → Binder → Bound → Ast → Ast → Ast
binder place op b p e = at place (node.Binder op b p e)

abbrev pub comprehension : ℕ → List Identifier → Ast → Ast → Ast
comprehension place xs p e = at place (node.Comprehension xs p e)

abbrev pub builder : ℕ → Ast → Ast → Ast
builder place e p = at place (node.Builder e p)

abbrev pub extension : ℕ → List Ast → Ast
extension place es = at place (node.Extension es)

abbrev pub partition : ℕ → List Ast → Ast
partition place es = at place (node.Partition es)

-- A function of a formula by one step, which has its results at the parts.
abbrev pub by_parts : (A : Type 0) → (Node-F A A → A) → Ast → A
by_parts A step = fold-Ast A A step (λ a. a.node)
