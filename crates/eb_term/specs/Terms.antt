-- Terms, by their parts.
use Rattle.std.specs.Prelude.{ℕ, Bool, ℤ, List}
use Rattle.eb_value.specs.declared.types.EbType.{EbType}
use Rattle.eb_value.specs.declared.value.Value.{Value}
use Rattle.eb_value.specs.Types as type_of
use Rattle.eb_value.specs.Values.{int}
use Rattle.eb_term.specs.declared.operators.Unary.{Unary}
use Rattle.eb_term.specs.declared.operators.Binary.{Binary}
use Rattle.eb_term.specs.declared.operators.Binder.{Binder}
use Rattle.eb_term.specs.declared.operators.Infinite.{Infinite}
use Rattle.eb_term.specs.declared.operators.Many.{Many}
use Rattle.eb_term.specs.declared.operators.Side.{Side}
use Rattle.eb_term.specs.declared.term.Term.{Term, out-Term, roll-Term, fold-Term}
use Rattle.eb_term.specs.declared.term.Head.{Head, Head-F, out-Head}
use Rattle.eb_term.specs.declared.term.Head.TheVariants as head

-- One level of a term.
abbrev pub Layer : Type 0
Layer = Head-F Head Term

abbrev pub layer : Term → Layer
layer t = out-Head (out-Term t).head

abbrev pub of_head : Head → Term
of_head h = roll-Term (record { head = h })

abbrev pub truth : Bool → Term
truth b = of_head (head.Truth b)

abbrev pub literal : Value → EbType → Term
literal v ty = of_head (head.Literal v ty)

abbrev pub reference : ℕ → EbType → Term
reference place ty = of_head (head.Reference place ty)

abbrev pub variable : ℕ → List Side → EbType → Term
variable binder path ty = of_head (head.Variable binder path ty)

abbrev pub infinite : Infinite → Term
infinite set = of_head (head.Infinite set)

abbrev pub identity : EbType → Term
identity ty = of_head (head.Identity ty)

abbrev pub projection : Side → EbType → EbType → Term
projection side a b = of_head (head.Projection side a b)

abbrev pub unary : Unary → Term → Term
unary op a = of_head (head.Unary op a)

abbrev pub binary : Binary → Term → Term → Term
binary op a b = of_head (head.Binary op a b)

abbrev pub many : Many → List Term → Term
many op ts = of_head (head.Many op ts)

abbrev pub over : Binder → Term → Term → Term
over op range body = of_head (head.Over op range body)

abbrev pub all : Binder → EbType → Term → Term
all op ty body = of_head (head.All op ty body)

-- A function of a term by one step, which has its results at the parts.
abbrev pub by_parts : (A : Type 0) → (Head-F A A → A) → Term → A
by_parts A step = fold-Term A A step (λ t. t.head)

abbrev pub integer : ℤ → Term
integer n = literal (int n) type_of.integer
