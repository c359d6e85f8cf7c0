-- What becomes of a formula, by how it is made.
use Rattle.std.proofs.Common.{◌≡◌, ℕ, ℤ, Bool, List, [], ◌++◌, map, rules}
use Rattle.eb_syntax.specs.declared.ast.Constant.{Constant}
use Rattle.eb_syntax.specs.declared.ast.Prefix.{Prefix}
use Rattle.eb_syntax.specs.declared.ast.Call.{Call}
use Rattle.eb_syntax.specs.declared.ast.Operator.{Operator}
use Rattle.eb_syntax.specs.declared.ast.Quantifier.{Quantifier}
use Rattle.eb_syntax.specs.declared.ast.Binder.{Binder as Gatherer}
use Rattle.eb_syntax.specs.declared.ast.Bound.{Bound}
use Rattle.eb_term.specs.declared.operators.Unary.TheVariants as unary
use Rattle.eb_term.specs.declared.operators.Many.TheVariants as many
use Rattle.eb_term.specs.Terms as term
use Rattle.numbered_names.specs.declared.entries.Entry.{Entry}
use Rattle.eb_resolved.specs.declared.resolved.Resolved.{Resolved, the_lemmas}
use Rattle.eb_resolved.specs.declared.resolved.ResolvedNode.TheVariants as node
use Rattle.eb_resolved.specs.Resolving.{entries_from}
use Rattle.eb_forms.specs.Forms.{constant_kind, call_kind}
use Rattle.eb_forms.specs.Widths.{bound_identifiers}
use Rattle.eb_value.specs.Types.{boolean}
use Rattle.eb_lowering.specs.declared.setting.Setting.{Setting}
use Rattle.eb_lowering.specs.Lowering as spec

pub number : (s : Setting) (r : Resolved) (n : ℤ) → r.node ≡ node.Number n → spec.lowered s r ≡ spec.formula [] (λ w. spec.number_term n)
number s r n is = search (rules, the_lemmas)

pub identifier : (s : Setting) (r : Resolved) (k : ℕ) → r.node ≡ node.Identifier k → spec.lowered s r ≡ spec.identifier s k
identifier s r k is = search (rules, the_lemmas)

pub operator : (s : Setting) (r : Resolved) (o : Operator) (a b : Resolved) → r.node ≡ node.Operator o a b → spec.lowered s r ≡ spec.by_operator o (spec.lowered s a) (spec.lowered s b)
operator s r o a b is = search (rules, the_lemmas)

pub quantifier : (s : Setting) (r : Resolved) (q : Quantifier) (es : List Entry) (p : Resolved) → r.node ≡ node.Quantifier q es p → spec.lowered s r ≡ spec.quantified s q (spec.entry_numbers es) (spec.lowered s p)
quantifier s r q es p is = search (rules, the_lemmas)

pub binder : (s : Setting) (r : Resolved) (o : Gatherer) (b : Bound) (first : ℕ) (p e : Resolved) → r.node ≡ node.Binder o b first p e
    → spec.lowered s r ≡ spec.formula ((spec.lowered s p).uses ++ (spec.lowered s e).uses) (spec.gathered s o b first (spec.entry_numbers (entries_from first (bound_identifiers b))) (spec.lowered s p) (spec.lowered s e))
binder s r o b first p e is = search (rules, the_lemmas)

pub comprehension : (s : Setting) (r : Resolved) (es : List Entry) (p e : Resolved) → r.node ≡ node.Comprehension es p e
    → spec.lowered s r ≡ spec.formula ((spec.lowered s p).uses ++ (spec.lowered s e).uses) (spec.comprehension s (spec.entry_numbers es) (spec.lowered s p) (spec.lowered s e).term)
comprehension s r es p e is = search (rules, the_lemmas)

pub builder : (s : Setting) (r : Resolved) (es : List Entry) (e p : Resolved) → r.node ≡ node.Builder es e p
    → spec.lowered s r ≡ spec.formula ((spec.lowered s e).uses ++ (spec.lowered s p).uses) (spec.comprehension s (spec.entry_numbers es) (spec.lowered s p) (spec.lowered s e).term)
builder s r es e p is = search (rules, the_lemmas)

pub extension : (s : Setting) (r : Resolved) (ms : List Resolved) → r.node ≡ node.Extension ms
    → spec.lowered s r ≡ spec.formula (spec.all_uses (map (spec.lowered s) ms)) (λ w. term.many many.Extension (map (λ l. l.term w) (map (spec.lowered s) ms)))
extension s r ms is = search (rules, the_lemmas)

pub partition : (s : Setting) (r : Resolved) (ms : List Resolved) → r.node ≡ node.Partition ms
    → spec.lowered s r ≡ spec.formula (spec.all_uses (map (spec.lowered s) ms)) (λ w. term.many many.Partition (map (λ l. l.term w) (map (spec.lowered s) ms)))
partition s r ms is = search (rules, the_lemmas)

pub primed : (s : Setting) (r : Resolved) (k : ℕ) → r.node ≡ node.Primed k → spec.lowered s r ≡ spec.formula [] (λ w. spec.no_value (spec.type_at s k))
primed s r k is = search (rules, the_lemmas)

pub unknown : (s : Setting) (r : Resolved) (x : List ℕ) (is_primed : Bool) → r.node ≡ node.Unknown x is_primed → spec.lowered s r ≡ spec.formula [] (λ w. spec.no_value boolean)
unknown s r x is_primed is = search (rules, the_lemmas)

pub constant : (s : Setting) (r : Resolved) (c : Constant) → r.node ≡ node.Constant c → spec.lowered s r ≡ spec.of_kind (constant_kind c) [] (λ w. spec.constant_term c)
constant s r c is = search (rules, the_lemmas)

pub mark : (s : Setting) (r : Resolved) (c : Constant) (k : ℕ) → r.node ≡ node.Mark c k → spec.lowered s r ≡ spec.formula [] (λ w. spec.mark_term c (spec.type_at s k))
mark s r c k is = search (rules, the_lemmas)

pub prefix : (s : Setting) (r : Resolved) (o : Prefix) (a : Resolved) → r.node ≡ node.Prefix o a → spec.lowered s r ≡ spec.formula (spec.lowered s a).uses (λ w. term.unary (unary.Prefix o) ((spec.lowered s a).term w))
prefix s r o a is = search (rules, the_lemmas)

pub call : (s : Setting) (r : Resolved) (o : Call) (a : Resolved) → r.node ≡ node.Call o a → spec.lowered s r ≡ spec.of_kind (call_kind o) (spec.lowered s a).uses (λ w. term.unary (unary.Call o) ((spec.lowered s a).term w))
call s r o a is = search (rules, the_lemmas)

pub inverse : (s : Setting) (r : Resolved) (a : Resolved) → r.node ≡ node.Inverse a → spec.lowered s r ≡ spec.formula (spec.lowered s a).uses (λ w. term.unary unary.Inverse ((spec.lowered s a).term w))
inverse s r a is = search (rules, the_lemmas)
