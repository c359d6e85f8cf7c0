-- Terms under more binders.
use Rattle.std.specs.Prelude.{ℕ, ◌+◌, nat_lt, if◌then◌else◌}
use Rattle.eb_term.specs.declared.term.Term.{Term}
use Rattle.eb_term.specs.declared.term.Head.{Head-F}
use Rattle.eb_term.specs.declared.term.Head.TheOpen as head
use Rattle.eb_term.specs.Terms as term
use Rattle.eb_term.specs.Terms.{by_parts}

abbrev pub shift_step : ℕ → ℕ → Head-F Term Term → Term
shift_step from by (head.Truth b) = term.truth b
shift_step from by (head.Literal v t) = term.literal v t
shift_step from by (head.Reference place t) = term.reference place t
shift_step from by (head.Variable k path t) = term.variable (if nat_lt k from then k else k + by) path t
shift_step from by (head.Infinite i) = term.infinite i
shift_step from by (head.Identity t) = term.identity t
shift_step from by (head.Projection s a b) = term.projection s a b
shift_step from by (head.Unary o a) = term.unary o a
shift_step from by (head.Binary o a b) = term.binary o a b
shift_step from by (head.Many o es) = term.many o es
shift_step from by (head.Over o range body) = term.over o range body
shift_step from by (head.All o t body) = term.all o t body

-- the term of a place with so many enclosing binders, put under so many more: its own binders have higher numbers there
abbrev pub shift : ℕ → ℕ → Term → Term
shift from by = by_parts Term (shift_step from by)
