-- Terms that are typed: the types of a term's parts are those that the table of types asks, and each variable has the type of
-- its binder's value, or of the part of it.
use Rattle.std.specs.Prelude.{◌≡◌, ℕ, Bool, List, [], ◌∷◌, ◌++◌, Option, Some, None, option_and_then, slice_get}
use Rattle.eb_syntax.specs.declared.ast.Prefix.{Prefix}
use Rattle.eb_syntax.specs.declared.ast.Call.{Call}
use Rattle.eb_syntax.specs.declared.ast.Operator.{Operator}
use Rattle.eb_value.specs.declared.types.EbType.{EbType, out-EbType}
use Rattle.eb_value.specs.declared.types.Shape.{Shape, Shape-F, out-Shape}
use Rattle.eb_value.specs.declared.types.Shape.TheOpen as ty
use Rattle.eb_value.specs.declared.value.Value.{Value}
use Rattle.eb_value.specs.Types.{integer, product, power}
use Rattle.type_table.specs.Rows.{Sort, predicate, expression, Choice, sort, relation, prefix_row, call_row, inverse_row, operator_row}
use Rattle.eb_term.specs.declared.operators.Unary.TheVariants as unary
use Rattle.eb_term.specs.declared.operators.Binary.TheVariants as binary
use Rattle.eb_term.specs.declared.operators.Many.TheVariants as many
use Rattle.eb_term.specs.declared.operators.Binder.{Binder}
use Rattle.eb_term.specs.declared.operators.Binder.TheVariants as binder
use Rattle.eb_term.specs.declared.operators.Infinite.{Infinite}
use Rattle.eb_term.specs.declared.operators.Side.{Side}
use Rattle.eb_term.specs.declared.operators.Side.TheVariants as side
use Rattle.eb_term.specs.declared.term.Term.{Term}
use Rattle.eb_term.specs.Terms as term

abbrev pub part_of_shape : Side → Shape-F Shape EbType → Option EbType
part_of_shape side.First (ty.Product s t) = Some s
part_of_shape side.Second (ty.Product s t) = Some t
part_of_shape _ _ = None

-- the type of a part of a pair
abbrev pub part_of_type : Side → EbType → Option EbType
part_of_type s t = part_of_shape s (out-Shape (out-EbType t).shape)

-- the type of a part of the part, and so on
abbrev pub part_type_at : List Side → EbType → Option EbType
part_type_at [] t = Some t
part_type_at (s ∷ path) t = option_and_then (part_type_at path) (part_of_type s t)

-- a part of a pair of these types
abbrev pub of_two : Side → EbType → EbType → EbType
of_two side.First s t = s
of_two side.Second s t = t

-- `!` or `#`
pub data IsQuantifier : Binder → Type 0 where
  for_all : IsQuantifier binder.ForAll
  exists : IsQuantifier binder.Exists

-- The term is a predicate, or an expression of this type, where the values of the enclosing binders have these types, the
-- outermost first.
mutual
  pub data HasSort : List EbType → Term → Sort → Type 0 where
    truth : {bound : List EbType} (b : Bool) → HasSort bound (term.truth b) predicate
    literal : {bound : List EbType} (v : Value) (t : EbType) → HasSort bound (term.literal v t) (expression t)
    reference : {bound : List EbType} (place : ℕ) (t : EbType) → HasSort bound (term.reference place t) (expression t)
    variable : {bound : List EbType} (k : ℕ) (path : List Side) (whole t : EbType) → slice_get bound k ≡ Some whole → part_type_at path whole ≡ Some t
        → HasSort bound (term.variable k path t) (expression t)
    infinite : {bound : List EbType} (i : Infinite) → HasSort bound (term.infinite i) (expression (power integer))
    identity : {bound : List EbType} (t : EbType) → HasSort bound (term.identity t) (expression (relation t t))
    projection : {bound : List EbType} (s : Side) (a b : EbType) → HasSort bound (term.projection s a b) (expression (relation (product a b) (of_two s a b)))
    prefix : {bound : List EbType} {a : Term} (o : Prefix) (v : Choice) → HasSort bound a (sort v (prefix_row o).part)
        → HasSort bound (term.unary (unary.Prefix o) a) (sort v (prefix_row o).whole)
    call : {bound : List EbType} {a : Term} (o : Call) (v : Choice) → HasSort bound a (sort v (call_row o).part)
        → HasSort bound (term.unary (unary.Call o) a) (sort v (call_row o).whole)
    inverse : {bound : List EbType} {a : Term} (v : Choice) → HasSort bound a (sort v inverse_row.part)
        → HasSort bound (term.unary unary.Inverse a) (sort v inverse_row.whole)
    defined : {bound : List EbType} {a : Term} (t : EbType) → HasSort bound a (expression t) → HasSort bound (term.unary unary.Defined a) predicate
    functional : {bound : List EbType} {a : Term} (s t : EbType) → HasSort bound a (expression (relation s t))
        → HasSort bound (term.unary unary.Functional a) predicate
    part : {bound : List EbType} {a : Term} (x : Side) (s t : EbType) → HasSort bound a (expression (product s t))
        → HasSort bound (term.unary (unary.Part x) a) (expression (of_two x s t))
    operator : {bound : List EbType} {a b : Term} (o : Operator) (v : Choice) → HasSort bound a (sort v (operator_row o).left)
        → HasSort bound b (sort v (operator_row o).right) → HasSort bound (term.binary (binary.Operator o) a b) (sort v (operator_row o).whole)
    both : {bound : List EbType} {p q : Term} → HasSort bound p predicate → HasSort bound q predicate → HasSort bound (term.binary binary.Both p q) predicate
    if : {bound : List EbType} {p s : Term} (t : EbType) → HasSort bound p predicate → HasSort bound s (expression (power t))
        → HasSort bound (term.binary binary.If p s) (expression (power t))
    extension : {bound : List EbType} {e : Term} {es : List Term} (t : EbType) → HaveSort bound (e ∷ es) (expression t)
        → HasSort bound (term.many many.Extension (e ∷ es)) (expression (power t))
    partition : {bound : List EbType} {e : Term} {es : List Term} (t : EbType) → HaveSort bound (e ∷ es) (expression (power t))
        → HasSort bound (term.many many.Partition (e ∷ es)) predicate
    quantified_over : {bound : List EbType} {e p : Term} (o : Binder) (t : EbType) → IsQuantifier o → HasSort bound e (expression (power t))
        → HasSort (bound ++ t ∷ []) p predicate → HasSort bound (term.over o e p) predicate
    quantified : {bound : List EbType} {p : Term} (o : Binder) (t : EbType) → IsQuantifier o → HasSort (bound ++ t ∷ []) p predicate
        → HasSort bound (term.all o t p) predicate
    collected_over : {bound : List EbType} {e s : Term} (t u : EbType) → HasSort bound e (expression (power t))
        → HasSort (bound ++ t ∷ []) s (expression (power u)) → HasSort bound (term.over binder.Collect e s) (expression (power u))
    collected : {bound : List EbType} {s : Term} (t u : EbType) → HasSort (bound ++ t ∷ []) s (expression (power u))
        → HasSort bound (term.all binder.Collect t s) (expression (power u))

  -- each of the terms
  pub data HaveSort : List EbType → List Term → Sort → Type 0 where
    none : {bound : List EbType} {s : Sort} → HaveSort bound [] s
    more : {bound : List EbType} {e : Term} {es : List Term} {s : Sort} → HasSort bound e s → HaveSort bound es s → HaveSort bound (e ∷ es) s
