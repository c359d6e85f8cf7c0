-- What can be shown of terms part by part, by their types: that they are typed, and that their literals and references fit.
use Rattle.std.proofs.Common.{◌≡◌, ℕ, ℤ, Bool, true, List, [], ◌∷◌, ◌++◌}
use Rattle.std.specs.Prelude.{Some, slice_get}
use Rattle.std.specs.List.{AllByRecursion}
use Rattle.eb_syntax.specs.declared.ast.Prefix.{Prefix}
use Rattle.eb_syntax.specs.declared.ast.Call.{Call}
use Rattle.eb_syntax.specs.declared.ast.Operator.{Operator}
use Rattle.eb_value.specs.declared.types.EbType.{EbType}
use Rattle.eb_value.specs.Types.{integer, boolean, product, power}
use Rattle.eb_value.specs.Typing.{in_range}
use Rattle.eb_value.specs.Values as value
use Rattle.type_table.specs.Rows.{Sort, predicate, expression, Choice, sort, relation, prefix_row, call_row, inverse_row, operator_row}
use Rattle.eb_term.specs.declared.operators.Unary.TheVariants as unary
use Rattle.eb_term.specs.declared.operators.Binary.TheVariants as binary
use Rattle.eb_term.specs.declared.operators.Many.TheVariants as many
use Rattle.eb_term.specs.declared.operators.Binder.{Binder}
use Rattle.eb_term.specs.declared.operators.Binder.TheVariants as binder
use Rattle.eb_term.specs.declared.operators.Infinite.{Infinite}
use Rattle.eb_term.specs.declared.operators.Side.{Side}
use Rattle.eb_term.specs.declared.term.Term.{Term}
use Rattle.eb_term.specs.Terms as term
use Rattle.eb_term.specs.Typed.{IsQuantifier, of_two, part_type_at}
use Rattle.eb_lowering.specs.Lowering.{booleans}

-- what a binder makes of its body: both are of this sort
pub data BindsAt : Binder → Sort → Type 0 where
  quantifies : (o : Binder) → IsQuantifier o → BindsAt o predicate
  collects : (t : EbType) → BindsAt binder.Collect (expression (power t))

-- it holds of what is made of parts of which it holds
pub record Judges (G : List EbType → Term → Sort → Type 0) : Type 0 where
  pub truth : (bound : List EbType) (b : Bool) → G bound (term.truth b) predicate
  pub int_literal : (bound : List EbType) (n : ℤ) → in_range n ≡ true → G bound (term.integer n) (expression integer)
  pub empty_literal : (bound : List EbType) (t : EbType) → G bound (term.literal (value.set []) (power t)) (expression (power t))
  pub truth_literal : (bound : List EbType) (b : Bool) → G bound (term.literal (value.truth b) boolean) (expression boolean)
  pub truths_literal : (bound : List EbType) → G bound booleans (expression (power boolean))
  pub variable : (bound : List EbType) (k : ℕ) (path : List Side) (whole t : EbType) → slice_get bound k ≡ Some whole → part_type_at path whole ≡ Some t
      → G bound (term.variable k path t) (expression t)
  pub infinite : (bound : List EbType) (i : Infinite) → G bound (term.infinite i) (expression (power integer))
  pub identity : (bound : List EbType) (t : EbType) → G bound (term.identity t) (expression (relation t t))
  pub projection : (bound : List EbType) (x : Side) (a b : EbType) → G bound (term.projection x a b) (expression (relation (product a b) (of_two x a b)))
  pub prefix : (bound : List EbType) (a : Term) (o : Prefix) (v : Choice) → G bound a (sort v (prefix_row o).part) → G bound (term.unary (unary.Prefix o) a) (sort v (prefix_row o).whole)
  pub call : (bound : List EbType) (a : Term) (o : Call) (v : Choice) → G bound a (sort v (call_row o).part) → G bound (term.unary (unary.Call o) a) (sort v (call_row o).whole)
  pub inverse : (bound : List EbType) (a : Term) (v : Choice) → G bound a (sort v inverse_row.part) → G bound (term.unary unary.Inverse a) (sort v inverse_row.whole)
  pub operator : (bound : List EbType) (a b : Term) (o : Operator) (v : Choice) → G bound a (sort v (operator_row o).left) → G bound b (sort v (operator_row o).right)
      → G bound (term.binary (binary.Operator o) a b) (sort v (operator_row o).whole)
  pub where_true : (bound : List EbType) (p s : Term) (t : EbType) → G bound p predicate → G bound s (expression (power t)) → G bound (term.binary binary.If p s) (expression (power t))
  pub extension : (bound : List EbType) (e : Term) (es : List Term) (t : EbType) → AllByRecursion (λ a. G bound a (expression t)) (e ∷ es)
      → G bound (term.many many.Extension (e ∷ es)) (expression (power t))
  pub partition : (bound : List EbType) (e : Term) (es : List Term) (t : EbType) → AllByRecursion (λ a. G bound a (expression (power t))) (e ∷ es)
      → G bound (term.many many.Partition (e ∷ es)) predicate
  pub over : (bound : List EbType) (e b : Term) (o : Binder) (r : Sort) (t : EbType) → BindsAt o r → G bound e (expression (power t)) → G (bound ++ t ∷ []) b r → G bound (term.over o e b) r
  pub all : (bound : List EbType) (b : Term) (o : Binder) (r : Sort) (t : EbType) → BindsAt o r → G (bound ++ t ∷ []) b r → G bound (term.all o t b) r
