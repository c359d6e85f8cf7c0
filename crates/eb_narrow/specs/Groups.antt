-- The groups of the operators of narrow terms, by which their rules stand together.
use Rattle.std.specs.Prelude.{Option, Some, None}
use Rattle.eb_syntax.specs.declared.ast.Prefix.{Prefix}
use Rattle.eb_syntax.specs.declared.ast.Prefix.TheVariants as prefix
use Rattle.eb_syntax.specs.declared.ast.Call.{Call}
use Rattle.eb_syntax.specs.declared.ast.Call.TheVariants as call
use Rattle.eb_syntax.specs.declared.ast.Operator.{Operator}
use Rattle.eb_syntax.specs.declared.ast.Operator.TheVariants as op
use Rattle.eb_term.specs.declared.operators.Unary.{Unary}
use Rattle.eb_term.specs.declared.operators.Unary.TheVariants as unary
use Rattle.eb_term.specs.declared.operators.Binary.{Binary}
use Rattle.eb_term.specs.declared.operators.Binary.TheVariants as binary
use Rattle.eb_term.specs.declared.operators.Many.{Many}
use Rattle.eb_term.specs.declared.operators.Many.TheVariants as many
use Rattle.eb_term.specs.declared.operators.Binder.{Binder}
use Rattle.eb_term.specs.declared.operators.Binder.TheVariants as binder
use Rattle.eb_term.specs.declared.term.Term.{Term}
use Rattle.eb_term.specs.declared.term.Head.TheOpen as head
use Rattle.eb_term.specs.Terms.{Layer, layer}
use Rattle.eb_narrow.specs.declared.groups.Group.{Group}
use Rattle.eb_narrow.specs.declared.groups.Group.TheVariants as group

-- truths, comparisons, numbers and pairs; sets; relations. None for what no narrow term has.
abbrev pub by_operator : Operator → Option Group
by_operator op.And = Some group.Base
by_operator op.Or = Some group.Base
by_operator op.Implies = Some group.Base
by_operator op.Equivalent = Some group.Base
by_operator op.Equal = Some group.Base
by_operator op.AtMost = Some group.Base
by_operator op.MapsTo = Some group.Base
by_operator op.Plus = Some group.Base
by_operator op.Minus = Some group.Base
by_operator op.Times = Some group.Base
by_operator op.Divide = Some group.Base
by_operator op.Modulo = Some group.Base
by_operator op.Power = Some group.Base
by_operator op.MemberOf = Some group.Sets
by_operator op.SubsetOf = Some group.Sets
by_operator op.Union = Some group.Sets
by_operator op.Intersection = Some group.Sets
by_operator op.Difference = Some group.Sets
by_operator op.Product = Some group.Sets
by_operator op.UpTo = Some group.Sets
by_operator op.ForwardComposition = Some group.Relations
by_operator op.DomainRestriction = Some group.Relations
by_operator op.DomainSubtraction = Some group.Relations
by_operator op.RangeRestriction = Some group.Relations
by_operator op.RangeSubtraction = Some group.Relations
by_operator op.Override = Some group.Relations
by_operator op.DirectProduct = Some group.Relations
by_operator op.ParallelProduct = Some group.Relations
by_operator op.Image = Some group.Relations
by_operator op.Apply = Some group.Relations
by_operator _ = None

abbrev pub by_call : Call → Option Group
by_call call.BoolOf = Some group.Base
by_call call.Cardinality = Some group.Sets
by_call call.Minimum = Some group.Sets
by_call call.Maximum = Some group.Sets
by_call call.GeneralizedIntersection = Some group.Sets
by_call call.Domain = Some group.Relations
by_call call.Range = Some group.Relations
by_call call.PowerSet = None
by_call call.NonemptyPowerSet = None
by_call call.GeneralizedUnion = None
by_call call.Finite = None

abbrev pub by_prefix : Prefix → Option Group
by_prefix prefix.Not = Some group.Base
by_prefix prefix.Minus = None

abbrev pub by_unary : Unary → Option Group
by_unary (unary.Prefix o) = by_prefix o
by_unary (unary.Call o) = by_call o
by_unary unary.Inverse = Some group.Relations
by_unary unary.Defined = Some group.Base
by_unary unary.Functional = Some group.Relations
by_unary (unary.Part s) = Some group.Base

abbrev pub by_binary : Binary → Option Group
by_binary (binary.Operator o) = by_operator o
by_binary binary.Both = Some group.Base
by_binary binary.If = Some group.Binders

abbrev pub by_many : Many → Option Group
by_many many.Extension = Some group.Sets
by_many many.Partition = None

abbrev pub by_binder : Binder → Option Group
by_binder binder.ForAll = None
by_binder binder.Exists = Some group.Binders
by_binder binder.Collect = Some group.Binders

abbrev pub group_in : Layer → Option Group
group_in (head.Truth b) = Some group.Base
group_in (head.Literal v t) = Some group.Base
group_in (head.Reference place t) = Some group.Base
group_in (head.Variable k path t) = Some group.Base
group_in (head.Infinite i) = None
group_in (head.Identity t) = None
group_in (head.Projection s a b) = None
group_in (head.Unary o a) = by_unary o
group_in (head.Binary o a b) = by_binary o
group_in (head.Many o es) = by_many o
group_in (head.Over o range body) = by_binder o
group_in (head.All o t body) = by_binder o

-- the group of the term's operator, none where it is no operator of narrow terms
abbrev pub group_of : Term → Option Group
group_of t = group_in (layer t)
