-- The identifiers that formulas use, by how these are made.
use Rattle.std.proofs.Common.{◌≡◌, ◌∙◌, sym, ap, ℕ, suc, ◌+◌, ◌<◌, ◌≤◌, Bool, ◌||◌, false, List, ◌∷◌, ◌++◌, map, length, drop, get_or, rules, add-one, drop-cons}
use Rattle.std.specs.List.{list_any}
use Rattle.std.proofs.lemmas.List.Folds.{list_any-append}
use Rattle.std.proofs.lemmas.List.{drop_all}
use Rattle.eb_syntax.specs.declared.ast.Prefix.{Prefix}
use Rattle.eb_syntax.specs.declared.ast.Call.{Call}
use Rattle.eb_syntax.specs.declared.ast.Operator.{Operator}
use Rattle.eb_syntax.specs.declared.ast.Quantifier.{Quantifier}
use Rattle.eb_syntax.specs.declared.ast.Binder.{Binder as Gatherer}
use Rattle.eb_syntax.specs.declared.ast.Bound.{Bound}
use Rattle.numbered_names.specs.declared.entries.Entry.{Entry}
use Rattle.eb_resolved.specs.declared.resolved.Resolved.{Resolved, the_lemmas}
use Rattle.eb_resolved.specs.declared.resolved.ResolvedNode.TheVariants as node
use Rattle.eb_forms.specs.Forms as forms
use Rattle.eb_lowering.specs.declared.setting.Setting.{Setting}
use Rattle.eb_lowering.specs.Anchors.{is_in}
use Rattle.eb_lowering.specs.Lowering as spec

pub prefix : (s : Setting) (r : Resolved) (o : Prefix) (a : Resolved) → r.node ≡ node.Prefix o a → (spec.lowered s r).uses ≡ (spec.lowered s a).uses
prefix s r o a is = search (rules, the_lemmas)

pub call : (s : Setting) (r : Resolved) (o : Call) (a : Resolved) → r.node ≡ node.Call o a → (spec.lowered s r).uses ≡ (spec.lowered s a).uses
call s r o a is = search (rules, the_lemmas)

pub inverse : (s : Setting) (r : Resolved) (a : Resolved) → r.node ≡ node.Inverse a → (spec.lowered s r).uses ≡ (spec.lowered s a).uses
inverse s r a is = search (rules, the_lemmas)

pub quantifier : (s : Setting) (r : Resolved) (q : Quantifier) (es : List Entry) (a : Resolved) → r.node ≡ node.Quantifier q es a → (spec.lowered s r).uses ≡ (spec.lowered s a).uses
quantifier s r q es a is = search (rules, the_lemmas)

pub operator : (s : Setting) (r : Resolved) (o : Operator) (a b : Resolved) → r.node ≡ node.Operator o a b → (spec.lowered s r).uses ≡ (spec.lowered s a).uses ++ (spec.lowered s b).uses
operator s r o a b is = search (rules, the_lemmas)

pub binder : (s : Setting) (r : Resolved) (o : Gatherer) (b : Bound) (first : ℕ) (p e : Resolved) → r.node ≡ node.Binder o b first p e → (spec.lowered s r).uses ≡ (spec.lowered s p).uses ++ (spec.lowered s e).uses
binder s r o b first p e is = search (rules, the_lemmas)

pub comprehension : (s : Setting) (r : Resolved) (es : List Entry) (p e : Resolved) → r.node ≡ node.Comprehension es p e → (spec.lowered s r).uses ≡ (spec.lowered s p).uses ++ (spec.lowered s e).uses
comprehension s r es p e is = search (rules, the_lemmas)

pub builder : (s : Setting) (r : Resolved) (es : List Entry) (e p : Resolved) → r.node ≡ node.Builder es e p → (spec.lowered s r).uses ≡ (spec.lowered s e).uses ++ (spec.lowered s p).uses
builder s r es e p is = search (rules, the_lemmas)

pub extension : (s : Setting) (r : Resolved) (ms : List Resolved) → r.node ≡ node.Extension ms → (spec.lowered s r).uses ≡ spec.all_uses (map (spec.lowered s) ms)
extension s r ms is = search (rules, the_lemmas)

pub partition : (s : Setting) (r : Resolved) (ms : List Resolved) → r.node ≡ node.Partition ms → (spec.lowered s r).uses ≡ spec.all_uses (map (spec.lowered s) ms)
partition s r ms is = search (rules, the_lemmas)

pub operator_kind : (s : Setting) (r : Resolved) (o : Operator) (a b : Resolved) → r.node ≡ node.Operator o a b → (spec.lowered s r).kind ≡ forms.operator_kind o (spec.lowered s a).kind (spec.lowered s b).kind
operator_kind s r o a b is = search (rules, the_lemmas)

-- some of the uses of a row of formulas
abbrev pub some_used : List ℕ → Setting → List Resolved → Bool
some_used ks s fs = list_any (is_in ks) (spec.all_uses (map (spec.lowered s) fs))

pub one_more : (ks : List ℕ) (s : Setting) (fs : List Resolved) (i : ℕ) (f : Resolved) → i < length fs → f ≡ get_or fs i f
    → some_used ks s (drop i fs) ≡ (list_any (is_in ks) (spec.lowered s f).uses || some_used ks s (drop (i + 1) fs))
one_more ks s fs i f h is =
    let d : drop i fs ≡ f ∷ drop (i + 1) fs = rw (add-one, drop-cons fs i f) (ap (λ z. z ∷ drop (suc i) fs) (sym is)) in
    ap (some_used ks s) d ∙ list_any-append (is_in ks) (spec.lowered s f).uses (spec.all_uses (map (spec.lowered s) (drop (i + 1) fs)))

pub none_left : (ks : List ℕ) (s : Setting) (fs : List Resolved) (i : ℕ) → length fs ≤ i → some_used ks s (drop i fs) ≡ false
none_left ks s fs i h = ap (some_used ks s) (drop_all i fs h)
