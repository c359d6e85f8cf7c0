-- Narrow form by the head of a term.
use Rattle.std.proofs.Common.{◌≡◌, ℕ, Bool, List, map, Some, rules}
use Rattle.eb_value.specs.declared.types.EbType.{EbType}
use Rattle.eb_value.specs.declared.value.Value.{Value}
use Rattle.type_table.specs.Rows.{relation}
use Rattle.eb_term.specs.declared.operators.Unary.{Unary}
use Rattle.eb_term.specs.declared.operators.Binary.{Binary}
use Rattle.eb_term.specs.declared.operators.Many.{Many}
use Rattle.eb_term.specs.declared.operators.Binder.{Binder}
use Rattle.eb_term.specs.declared.operators.Infinite.{Infinite}
use Rattle.eb_term.specs.declared.operators.Side.{Side}
use Rattle.eb_term.specs.declared.term.Term.{Term}
use Rattle.eb_term.specs.declared.term.Head.{the_lemmas}
use Rattle.eb_term.specs.declared.term.Head.TheOpen as head
use Rattle.eb_term.specs.Terms as term
use Rattle.term_types.specs.Types.{type_step, type_by_unary, type_by_binary, type_by_many, type_by_binder}
use Rattle.eb_narrow.specs.Narrow as narrow
use Rattle.eb_narrow.specs.Narrow.{narrowed}

pub narrowed-truth : (b : Bool) → narrowed (term.truth b) ≡ narrow.predicate (λ d. term.truth b)
narrowed-truth b = search (rules, the_lemmas)

pub narrowed-literal : (v : Value) (t : EbType) → narrowed (term.literal v t) ≡ narrow.expression (Some t) (λ d. term.literal v t)
narrowed-literal v t = search (rules, the_lemmas)

pub narrowed-reference : (place : ℕ) (t : EbType) → narrowed (term.reference place t) ≡ narrow.expression (Some t) (λ d. term.reference place t)
narrowed-reference place t = search (rules, the_lemmas)

pub narrowed-variable : (k : ℕ) (path : List Side) (t : EbType) → narrowed (term.variable k path t) ≡ narrow.expression (Some t) (λ d. term.variable k path t)
narrowed-variable k path t = search (rules, the_lemmas)

pub narrowed-infinite : (i : Infinite) → narrowed (term.infinite i) ≡ narrow.infinite_set i
narrowed-infinite i = search (rules, the_lemmas)

pub narrowed-identity : (t : EbType) → narrowed (term.identity t) ≡ narrow.expression (Some (relation t t)) (narrow.identity t)
narrowed-identity t = search (rules, the_lemmas)

pub narrowed-projection : (s : Side) (a b : EbType) → narrowed (term.projection s a b) ≡ narrow.expression (type_step (head.Projection s a b)) (narrow.projection s a b)
narrowed-projection s a b = search (rules, the_lemmas)

pub narrowed-unary : (o : Unary) (a : Term) → narrowed (term.unary o a) ≡ narrow.by_unary o (type_by_unary o (narrowed a).ty) (narrowed a)
narrowed-unary o a = search (rules, the_lemmas)

pub narrowed-binary : (o : Binary) (a b : Term) → narrowed (term.binary o a b) ≡ narrow.by_binary o (type_by_binary o (narrowed a).ty (narrowed b).ty) (narrowed a) (narrowed b)
narrowed-binary o a b = search (rules, the_lemmas)

pub narrowed-many : (o : Many) (es : List Term) → narrowed (term.many o es) ≡ narrow.by_many o (type_by_many o (map (λ e. e.ty) (map narrowed es))) (map narrowed es)
narrowed-many o es = search (rules, the_lemmas)

pub narrowed-over : (o : Binder) (range body : Term) → narrowed (term.over o range body) ≡ narrow.by_range o (type_by_binder o (narrowed body).ty) (λ k d p. term.over k ((narrowed range).term d) p) (narrowed body)
narrowed-over o range body = search (rules, the_lemmas)

pub narrowed-all : (o : Binder) (t : EbType) (body : Term) → narrowed (term.all o t body) ≡ narrow.by_range o (type_by_binder o (narrowed body).ty) (λ k d p. term.all k t p) (narrowed body)
narrowed-all o t body = search (rules, the_lemmas)
