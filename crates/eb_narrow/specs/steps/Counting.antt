-- How many nodes narrow form has, by the numbers of the parts. Each number is a sum: the sum itself, or the sum as far as a
-- machine's number goes.
use Rattle.std.specs.Prelude.{ℕ, ◌-◌, ◌*◌, ◌^◌, min, Bool, true, false, ◌&&◌, ◌||◌, if◌then◌else◌, List, [], ◌∷◌, map, length}
use Rattle.std.specs.List.{sum}
use Rattle.eb_syntax.specs.declared.ast.Prefix.{Prefix}
use Rattle.eb_syntax.specs.declared.ast.Prefix.TheVariants as prefix
use Rattle.eb_syntax.specs.declared.ast.Call.{Call}
use Rattle.eb_syntax.specs.declared.ast.Call.TheVariants as call
use Rattle.eb_syntax.specs.declared.ast.Operator.{Operator}
use Rattle.eb_syntax.specs.declared.ast.Operator.TheVariants as op
use Rattle.eb_term.specs.declared.operators.Unary.{Unary}
use Rattle.eb_term.specs.declared.operators.Unary.TheVariants as unary
use Rattle.eb_term.specs.declared.operators.Binary.{Binary}
use Rattle.eb_term.specs.declared.operators.Binary.TheVariants as binary
use Rattle.eb_term.specs.declared.operators.Many.{Many}
use Rattle.eb_term.specs.declared.operators.Many.TheVariants as many
use Rattle.eb_term.specs.declared.operators.Binder.{Binder}
use Rattle.eb_term.specs.declared.operators.Binder.TheVariants as binder
use Rattle.eb_term.specs.declared.operators.Infinite.{Infinite}
use Rattle.eb_term.specs.declared.operators.Infinite.TheVariants as infinite
use Rattle.eb_term.specs.declared.term.Term.{Term}
use Rattle.eb_term.specs.declared.term.Head.{Head-F}
use Rattle.eb_term.specs.declared.term.Head.TheOpen as head
use Rattle.eb_term.specs.Terms.{by_parts}
use Rattle.eb_term.specs.Nodes.{subterms}
use Rattle.eb_meaning.specs.Meaning.{is_product, is_arrow, is_total, is_surjective, is_function, is_injection}
use Rattle.eb_narrow.specs.declared.counts.Linear.{Linear}
use Rattle.eb_narrow.specs.declared.counts.Counts.{Counts}
use Rattle.eb_narrow.specs.declared.counts.Parts.{Parts}
use Rattle.eb_narrow.specs.declared.counts.Parts.TheVariants as parts

-- as far as a machine's number goes
unfoldable pub cap : ℕ → ℕ
cap n = min n (2 ^ 64 - 1)

abbrev pub capped : List ℕ → ℕ
capped ns = cap (sum ns)

-- how many nodes a term has
unfoldable pub nodes : Term → ℕ
nodes t = length (subterms t)

-- how sums are taken
abbrev pub Sum : Type 0
Sum = List ℕ → ℕ

abbrev pub linear : ℕ → ℕ → Linear
linear base times = record { base = base; times = times }

-- so many where the term has n nodes
abbrev pub at : Sum → Linear → ℕ → ℕ
at S l n = S (l.base ∷ l.times * n ∷ [])

-- an operation of e and an expression of n nodes
abbrev pub beside : Sum → ℕ → Linear
beside S n = linear (S (1 ∷ n ∷ [])) 1

abbrev pub expression : Sum → ℕ → Counts
expression S n = record {
  term = n;
  is_form = false;
  given = S (2 ∷ n ∷ n ∷ []);
  has = beside S n;
  has_members = beside S n;
  is_all = beside S n;
}

abbrev pub form : Sum → ℕ → Linear → Counts
form S given has = record {
  term = 2;
  is_form = true;
  given = given;
  has = has;
  has_members = linear (S (3 ∷ given ∷ has.base ∷ has.times ∷ [])) 1;
  is_all = linear (S (2 ∷ given ∷ [])) 2;
}

abbrev pub operation : Sum → Counts → Counts → ℕ
operation S a b = S (1 ∷ a.term ∷ b.term ∷ [])

abbrev pub interval : Sum → Counts → Counts → Counts
interval S a b = let n = operation S a b in record {
  term = n;
  is_form = false;
  given = S (2 ∷ n ∷ n ∷ []);
  has = linear (S (3 ∷ a.term ∷ b.term ∷ [])) 2;
  has_members = beside S n;
  is_all = beside S n;
}

abbrev pub infinite_set : Sum → Infinite → Counts
infinite_set S infinite.Integers = record {
  term = 2;
  is_form = true;
  given = 0;
  has = linear 1 2;
  has_members = linear 1 2;
  is_all = linear 2 2;
}
infinite_set S infinite.Naturals = form S 0 (linear 2 1)
infinite_set S infinite.PositiveNaturals = form S 0 (linear 2 1)

abbrev pub nonempty_power_set : Sum → Counts → Counts
nonempty_power_set S f = form S f.given (linear (S (4 ∷ f.has_members.base ∷ [])) (S (1 ∷ f.has_members.times ∷ [])))

abbrev pub product_form : Sum → Counts → Counts → Counts
product_form S f g = form S (S (f.given ∷ g.given ∷ []))
    (linear (S (1 ∷ f.has.base ∷ f.has.times ∷ g.has.base ∷ g.has.times ∷ [])) (S (f.has.times ∷ g.has.times ∷ [])))

abbrev pub covers : Bool → Counts → Linear
covers true f = f.is_all
covers false f = f.has_members

abbrev pub if_asked : Bool → ℕ → ℕ
if_asked true n = n
if_asked false n = 0

-- a side's domain or range has one node more than the relation
abbrev pub arrow_has : Sum → Operator → Linear → Linear → Linear
arrow_has S o from to = linear
    (S (1 ∷ from.base ∷ from.times ∷ to.base ∷ to.times ∷ if_asked (is_function o) 2 ∷ if_asked (is_injection o) 3 ∷ []))
    (S (from.times ∷ to.times ∷ if_asked (is_function o) 1 ∷ if_asked (is_injection o) 1 ∷ []))

abbrev pub arrow_form : Sum → Operator → Counts → Counts → Counts
arrow_form S o f g = form S (S (f.given ∷ g.given ∷ [])) (arrow_has S o (covers (is_total o) f) (covers (is_surjective o) g))

abbrev pub proper_subset : Sum → Counts → Counts → ℕ
proper_subset S e f = if f.is_form then at S f.has_members e.term else S (4 ∷ e.term ∷ e.term ∷ f.term ∷ f.term ∷ [])

abbrev pub by_prefix : Sum → Prefix → Counts → Counts
by_prefix S prefix.Not p = expression S (S (1 ∷ p.term ∷ []))
by_prefix S prefix.Minus a = expression S (S (2 ∷ a.term ∷ []))

abbrev pub by_call : Sum → Call → Counts → Counts
by_call S call.PowerSet f = form S f.given f.has_members
by_call S call.NonemptyPowerSet f = nonempty_power_set S f
by_call S call.Finite s = expression S (S (1 ∷ s.term ∷ s.term ∷ []))
by_call S call.GeneralizedUnion s = expression S (S (2 ∷ s.term ∷ []))
by_call S call.BoolOf s = expression S (S (1 ∷ s.term ∷ []))
by_call S call.Cardinality s = expression S (S (1 ∷ s.term ∷ []))
by_call S call.Minimum s = expression S (S (1 ∷ s.term ∷ []))
by_call S call.Maximum s = expression S (S (1 ∷ s.term ∷ []))
by_call S call.Domain s = expression S (S (1 ∷ s.term ∷ []))
by_call S call.Range s = expression S (S (1 ∷ s.term ∷ []))
by_call S call.GeneralizedIntersection s = expression S (S (1 ∷ s.term ∷ []))

abbrev pub by_unary : Sum → Unary → Counts → Counts
by_unary S (unary.Prefix o) a = by_prefix S o a
by_unary S (unary.Call o) a = by_call S o a
by_unary S unary.Inverse a = expression S (S (1 ∷ a.term ∷ []))
by_unary S unary.Defined a = expression S (S (1 ∷ a.term ∷ []))
by_unary S unary.Functional a = expression S (S (1 ∷ a.term ∷ []))
by_unary S (unary.Part s) a = expression S (S (1 ∷ a.term ∷ []))

abbrev pub relation : Sum → Operator → Counts → Counts → ℕ
relation S op.Unequal a b = S (2 ∷ a.term ∷ b.term ∷ [])
relation S op.Less a b = S (2 ∷ a.term ∷ b.term ∷ [])
relation S op.Greater a b = S (2 ∷ a.term ∷ b.term ∷ [])
relation S op.MemberOf e f = at S f.has e.term
relation S op.NotMemberOf e f = S (1 ∷ at S f.has e.term ∷ [])
relation S op.SubsetOf e f = at S f.has_members e.term
relation S op.NotSubsetOf e f = S (1 ∷ at S f.has_members e.term ∷ [])
relation S op.ProperSubsetOf e f = proper_subset S e f
relation S op.NotProperSubsetOf e f = S (1 ∷ proper_subset S e f ∷ [])
relation S _ a b = operation S a b

abbrev pub by_relation : Sum → Operator → Counts → Counts → Counts
by_relation S op.UpTo a b = interval S a b
by_relation S o a b = expression S (relation S o a b)

abbrev pub by_operator : Sum → Operator → Counts → Counts → Counts
by_operator S o a b = if is_arrow o then arrow_form S o a b
    else (if is_product o && (a.is_form || b.is_form) then product_form S a b else by_relation S o a b)

abbrev pub by_binary : Sum → Binary → Counts → Counts → Counts
by_binary S (binary.Operator o) a b = by_operator S o a b
by_binary S binary.Both a b = expression S (operation S a b)
by_binary S binary.If a b = expression S (operation S a b)

-- partition(s, s1, ..): one set more, which is in the union and apart from the union of those before
abbrev pub with_part : Sum → Parts → ℕ → Parts
with_part S parts.Nothing n = parts.Whole n
with_part S (parts.Whole whole) n = parts.Sets n (S (1 ∷ whole ∷ n ∷ []))
with_part S (parts.Sets union all) n = parts.Sets (S (1 ∷ union ∷ n ∷ [])) (S (5 ∷ all ∷ union ∷ n ∷ n ∷ []))

abbrev pub all_parts : Sum → Parts → ℕ
all_parts S parts.Nothing = 1
all_parts S (parts.Whole whole) = S (2 ∷ whole ∷ [])
all_parts S (parts.Sets union all) = all

abbrev pub partition_from : Sum → Parts → List ℕ → ℕ
partition_from S p [] = all_parts S p
partition_from S p (n ∷ ns) = partition_from S (with_part S p n) ns

abbrev pub partition : Sum → List ℕ → ℕ
partition S ns = partition_from S parts.Nothing ns

abbrev pub by_many : Sum → Many → List ℕ → Counts
by_many S many.Extension ns = expression S (S (1 ∷ S ns ∷ []))
by_many S many.Partition ns = expression S (partition S ns)

-- a binder whose range has so many nodes
abbrev pub by_range : Sum → Binder → ℕ → ℕ → ℕ
by_range S binder.ForAll range n = S (3 ∷ range ∷ n ∷ [])
by_range S binder.Exists range n = S (1 ∷ range ∷ n ∷ [])
by_range S binder.Collect range n = S (1 ∷ range ∷ n ∷ [])

abbrev pub count_step : Sum → Head-F Counts Counts → Counts
count_step S (head.Truth b) = expression S 1
count_step S (head.Literal v t) = expression S 1
count_step S (head.Reference place t) = expression S 1
count_step S (head.Variable k path t) = expression S 1
count_step S (head.Infinite i) = infinite_set S i
count_step S (head.Identity t) = expression S 5
count_step S (head.Projection s a b) = expression S 8
count_step S (head.Unary o a) = by_unary S o a
count_step S (head.Binary o a b) = by_binary S o a b
count_step S (head.Many o cs) = by_many S o (map (λ c. c.term) cs)
count_step S (head.Over o range body) = expression S (by_range S o range.term body.term)
count_step S (head.All o t body) = expression S (by_range S o 0 body.term)

abbrev pub counted : Sum → Term → Counts
counted S = by_parts Counts (count_step S)

-- the numbers of the terms
abbrev pub each_term : Sum → List Term → List ℕ
each_term S ts = map (λ c. c.term) (map (counted S) ts)
