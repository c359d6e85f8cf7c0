-- What can be shown of terms part by part, by their types: that they are typed, and that their leaves are as they should be.
use Rattle.std.proofs.Common.{◌≡◌, ℤ, Bool, true, List, [], ◌∷◌, ◌++◌, ℕ, length}
use Rattle.std.specs.Prelude.{Some, slice_get}
use Rattle.std.specs.List.{AllByRecursion}
use Rattle.eb_syntax.specs.declared.ast.Prefix.{Prefix}
use Rattle.eb_syntax.specs.declared.ast.Call.{Call}
use Rattle.eb_syntax.specs.declared.ast.Operator.{Operator}
use Rattle.eb_value.specs.declared.types.EbType.{EbType}
use Rattle.eb_value.specs.declared.value.Value.{Value}
use Rattle.eb_value.specs.Types.{integer, product, power}
use Rattle.eb_value.specs.Typing.{in_range}
use Rattle.type_table.specs.Rows.{Sort, predicate, expression, Choice, sort, relation, prefix_row, call_row, inverse_row, operator_row}
use Rattle.eb_term.specs.declared.operators.Unary.{Unary}
use Rattle.eb_term.specs.declared.operators.Unary.TheVariants as unary
use Rattle.eb_term.specs.declared.operators.Binary.{Binary}
use Rattle.eb_term.specs.declared.operators.Binary.TheVariants as binary
use Rattle.eb_term.specs.declared.operators.Many.{Many}
use Rattle.eb_term.specs.declared.operators.Many.TheVariants as many
use Rattle.eb_term.specs.declared.operators.Binder.{Binder}
use Rattle.eb_term.specs.declared.operators.Binder.TheVariants as binder
use Rattle.eb_term.specs.declared.operators.Side.{Side}
use Rattle.eb_term.specs.declared.term.Term.{Term}
use Rattle.eb_term.specs.Terms as term
use Rattle.eb_term.specs.Typed.{of_two, part_type_at}
use Rattle.narrow_terms.specs.Shifting.{shift}
use Rattle.narrow_terms.specs.Building.{empty_set}

-- what a binder of narrow form makes of its body: both are of this sort
pub data BindsAt : Binder → Sort → Type 0 where
  exists : BindsAt binder.Exists predicate
  collects : (t : EbType) → BindsAt binder.Collect (expression (power t))

-- it holds of what is made of parts of which it holds, and of a term that is put under more binders
pub record Judges (G : List EbType → Term → Sort → Type 0) : Type 0 where
  pub truth : (bound : List EbType) (b : Bool) → G bound (term.truth b) predicate
  pub int_literal : (bound : List EbType) (n : ℤ) → in_range n ≡ true → G bound (term.integer n) (expression integer)
  pub no_members : (bound : List EbType) (t : EbType) → G bound (empty_set (power t)) (expression (power t))
  pub variable : (bound : List EbType) (k : ℕ) (path : List Side) (whole t : EbType) → slice_get bound k ≡ Some whole → part_type_at path whole ≡ Some t
      → G bound (term.variable k path t) (expression t)
  pub prefix : (bound : List EbType) (a : Term) (o : Prefix) (v : Choice) → G bound a (sort v (prefix_row o).part) → G bound (term.unary (unary.Prefix o) a) (sort v (prefix_row o).whole)
  pub call : (bound : List EbType) (a : Term) (o : Call) (v : Choice) → G bound a (sort v (call_row o).part) → G bound (term.unary (unary.Call o) a) (sort v (call_row o).whole)
  pub inverse : (bound : List EbType) (a : Term) (v : Choice) → G bound a (sort v inverse_row.part) → G bound (term.unary unary.Inverse a) (sort v inverse_row.whole)
  pub defined : (bound : List EbType) (a : Term) (t : EbType) → G bound a (expression t) → G bound (term.unary unary.Defined a) predicate
  pub functional : (bound : List EbType) (a : Term) (s t : EbType) → G bound a (expression (relation s t)) → G bound (term.unary unary.Functional a) predicate
  pub part : (bound : List EbType) (a : Term) (x : Side) (s t : EbType) → G bound a (expression (product s t)) → G bound (term.unary (unary.Part x) a) (expression (of_two x s t))
  pub operator : (bound : List EbType) (a b : Term) (o : Operator) (v : Choice) → G bound a (sort v (operator_row o).left) → G bound b (sort v (operator_row o).right)
      → G bound (term.binary (binary.Operator o) a b) (sort v (operator_row o).whole)
  pub both : (bound : List EbType) (p q : Term) → G bound p predicate → G bound q predicate → G bound (term.binary binary.Both p q) predicate
  pub where_true : (bound : List EbType) (p s : Term) (t : EbType) → G bound p predicate → G bound s (expression (power t)) → G bound (term.binary binary.If p s) (expression (power t))
  pub extension : (bound : List EbType) (e : Term) (es : List Term) (t : EbType) → AllByRecursion (λ a. G bound a (expression t)) (e ∷ es)
      → G bound (term.many many.Extension (e ∷ es)) (expression (power t))
  pub over : (bound : List EbType) (e b : Term) (o : Binder) (r : Sort) (t : EbType) → BindsAt o r → G bound e (expression (power t)) → G (bound ++ t ∷ []) b r → G bound (term.over o e b) r
  pub all : (bound : List EbType) (b : Term) (o : Binder) (r : Sort) (t : EbType) → BindsAt o r → G (bound ++ t ∷ []) b r → G bound (term.all o t b) r
  pub shifted : (bound more : List EbType) (a : Term) (s : Sort) → G bound a s → G (bound ++ more) (shift (length bound) (length more) a) s

-- what is known of a term is known of its parts, and by it of the leaves
pub record Gives (G : List EbType → Term → Sort → Type 0) (L : Term → Type 0) : Type 0 where
  pub literal : (bound : List EbType) (v : Value) (t : EbType) → L (term.literal v t) → G bound (term.literal v t) (expression t)
  pub reference : (bound : List EbType) (place : ℕ) (t : EbType) → L (term.reference place t) → G bound (term.reference place t) (expression t)
  pub unary : (o : Unary) (a : Term) → L (term.unary o a) → L a
  pub left : (o : Binary) (a b : Term) → L (term.binary o a b) → L a
  pub right : (o : Binary) (a b : Term) → L (term.binary o a b) → L b
  pub many : (o : Many) (es : List Term) → L (term.many o es) → AllByRecursion L es
  pub range : (o : Binder) (e b : Term) → L (term.over o e b) → L e
  pub body : (o : Binder) (e b : Term) → L (term.over o e b) → L b
  pub all : (o : Binder) (t : EbType) (b : Term) → L (term.all o t b) → L b
