-- Formulas with numbers in place of names, by their parts.
use Rattle.std.specs.Prelude.{ℕ, ℤ, Bool, List}
use Rattle.eb_syntax.specs.declared.ast.Constant.{Constant}
use Rattle.eb_syntax.specs.declared.ast.Prefix.{Prefix}
use Rattle.eb_syntax.specs.declared.ast.Call.{Call}
use Rattle.eb_syntax.specs.declared.ast.Operator.{Operator}
use Rattle.eb_syntax.specs.declared.ast.Quantifier.{Quantifier}
use Rattle.eb_syntax.specs.declared.ast.Binder.{Binder}
use Rattle.eb_syntax.specs.declared.ast.Bound.{Bound}
use Rattle.numbered_names.specs.declared.entries.Entry.{Entry}
use Rattle.eb_resolved.specs.declared.resolved.Resolved.{Resolved, out-Resolved, roll-Resolved, fold-Resolved}
use Rattle.eb_resolved.specs.declared.resolved.ResolvedNode.{ResolvedNode, ResolvedNode-F, out-ResolvedNode}
use Rattle.eb_resolved.specs.declared.resolved.ResolvedNode.TheVariants as node

-- One level of a formula.
abbrev pub Layer : Type 0
Layer = ResolvedNode-F ResolvedNode Resolved

abbrev pub layer : Resolved → Layer
layer r = out-ResolvedNode (out-Resolved r).node

-- the place of its first token
abbrev pub place_of : Resolved → ℕ
place_of r = (out-Resolved r).place

abbrev pub at : ℕ → ResolvedNode → Resolved
at place n = roll-Resolved (record { node = n; place = place })

abbrev pub number : ℕ → ℤ → Resolved
number place n = at place (node.Number n)

abbrev pub identifier : ℕ → ℕ → Resolved
identifier place k = at place (node.Identifier k)

abbrev pub primed : ℕ → ℕ → Resolved
primed place k = at place (node.Primed k)

abbrev pub unknown : ℕ → List ℕ → Bool → Resolved
unknown place x is_primed = at place (node.Unknown x is_primed)

abbrev pub constant : ℕ → Constant → Resolved
constant place c = at place (node.Constant c)

abbrev pub mark : ℕ → Constant → ℕ → Resolved
mark place c k = at place (node.Mark c k)

abbrev pub prefix : ℕ → Prefix → Resolved → Resolved
prefix place op r = at place (node.Prefix op r)

abbrev pub call : ℕ → Call → Resolved → Resolved
call place op r = at place (node.Call op r)

abbrev pub inverse : ℕ → Resolved → Resolved
inverse place r = at place (node.Inverse r)

abbrev pub operator : ℕ → Operator → Resolved → Resolved → Resolved
operator place op r q = at place (node.Operator op r q)

abbrev pub quantifier : ℕ → Quantifier → List Entry → Resolved → Resolved
quantifier place q es r = at place (node.Quantifier q es r)

abbrev pub binder : ℕ → Binder → Bound → ℕ → Resolved → Resolved → Resolved
binder place op b first p e = at place (node.Binder op b first p e)

abbrev pub comprehension : ℕ → List Entry → Resolved → Resolved → Resolved
comprehension place es p e = at place (node.Comprehension es p e)

abbrev pub builder : ℕ → List Entry → Resolved → Resolved → Resolved
builder place es e p = at place (node.Builder es e p)

abbrev pub extension : ℕ → List Resolved → Resolved
extension place rs = at place (node.Extension rs)

abbrev pub partition : ℕ → List Resolved → Resolved
partition place rs = at place (node.Partition rs)

-- A function of a formula by one step, which has its results at the parts.
abbrev pub by_parts : (A : Type 0) → (ResolvedNode-F A A → A) → Resolved → A
by_parts A step = fold-Resolved A A step (λ r. r.node)

-- the same, where the step has the place too
abbrev pub by_placed_parts : (A : Type 0) → (ℕ → ResolvedNode-F (ℕ → A) A → A) → Resolved → A
by_placed_parts A step = fold-Resolved (ℕ → A) A (λ n place. step place n) (λ r. r.node r.place)
