-- Unary and binary operators in narrow form.
use Rattle.std.proofs.Common.{◌≡◌, refl, sym, subst, ℕ, Bool, true, false, ◌||◌, if◌then◌else◌, List, [], ◌∷◌, ◌++◌, length, Option, Some, pos, append-nil}
use Rattle.eb_syntax.specs.declared.ast.Prefix.{Prefix}
use Rattle.eb_syntax.specs.declared.ast.Prefix.TheVariants as prefix
use Rattle.eb_syntax.specs.declared.ast.Call.{Call}
use Rattle.eb_syntax.specs.declared.ast.Call.TheVariants as call
use Rattle.eb_syntax.specs.declared.ast.Operator.{Operator}
use Rattle.eb_syntax.specs.declared.ast.Operator.TheVariants as op
use Rattle.eb_value.specs.declared.types.EbType.{EbType}
use Rattle.eb_value.specs.Types.{integer, power}
use Rattle.type_table.specs.Rows.{Sort, predicate, expression, Choice, sort, relation, prefix_row, call_row, operator_row}
use Rattle.eb_term.specs.declared.operators.Unary.TheVariants as unary
use Rattle.eb_term.specs.declared.operators.Binder.TheVariants as binder
use Rattle.eb_term.specs.declared.term.Term.{Term}
use Rattle.eb_term.specs.Terms as term
use Rattle.narrow_terms.specs.Building.{operation, negation, conjunction, equal, at_most, subset, is_defined, whole}
use Rattle.term_types.specs.Types.{type_in}
use Rattle.eb_narrow.specs.Narrow as narrow
use Rattle.eb_narrow.specs.Narrow.{Narrowed, element_type}
use Rattle.narrow_typing.proofs.Judging.{Judges, collects}
use Rattle.narrow_typing.proofs.Built.{IsPredicate, every, is_not, is_equal, is_at_most, is_subset, is_and, defined_is, innermost_is}
use Rattle.narrow_typing.proofs.Narrowing.{IsSet, IsTyped, plain, element_is}
use Rattle.narrow_typing.proofs.SetForms.{power_typed, nonempty_typed, product_typed, arrow_typed, interval_typed}

module _ (G : List EbType → Term → Sort → Type 0) (J : Judges G) (bound : List EbType) where
  abbrev Made : Narrowed → Sort → Type 0
  Made n s = n.ty ≡ type_in s → IsTyped G J bound n s

  -- ---- one part

  pub prefix_typed : (o : Prefix) (v : Choice) (ty : Option EbType) (a : Narrowed) → IsTyped G J bound a (sort v (prefix_row o).part) → Made (narrow.by_prefix o ty a) (sort v (prefix_row o).whole)
  prefix_typed prefix.Not v ty a d e = plain G J bound _ (λ k. negation (a.term k)) predicate (is_not G J bound (a.term (length bound)) d.term) refl
  prefix_typed prefix.Minus v ty a d e = plain G J bound ty (λ k. operation op.Minus (term.integer (pos 0)) (a.term k)) (expression integer)
      (J.operator bound (term.integer (pos 0)) (a.term (length bound)) op.Minus (every integer) (J.int_literal bound (pos 0) refl) d.term) e

  called : (o : Call) (v : Choice) (ty : Option EbType) (a : Narrowed) → IsTyped G J bound a (sort v (call_row o).part) → ty ≡ type_in (sort v (call_row o).whole)
      → IsTyped G J bound (narrow.expression ty (λ k. term.unary (unary.Call o) (a.term k))) (sort v (call_row o).whole)
  called o v ty a d e = plain G J bound ty (λ k. term.unary (unary.Call o) (a.term k)) (sort v (call_row o).whole) (J.call bound (a.term (length bound)) o v d.term) e

  union_typed : (ty : Option EbType) (a : Narrowed) (t : EbType) → IsTyped G J bound a (expression (power (power t))) → ty ≡ Some (power t)
      → IsTyped G J bound (narrow.expression ty (narrow.union_of_members a)) (expression (power t))
  union_typed ty a t d e = plain G J bound ty (narrow.union_of_members a) (expression (power t))
      (J.over bound (a.term (length bound)) (whole (length bound) (element_type a.ty)) binder.Collect (expression (power t)) (power t) (collects t) d.term
      (subst (λ u. G (bound ++ power t ∷ []) (whole (length bound) u) (expression (power t))) (sym (element_is a.ty (power t) d.ty)) (innermost_is G J bound (power t)))) e

  pub call_typed : (o : Call) (v : Choice) (ty : Option EbType) (a : Narrowed) → IsTyped G J bound a (sort v (call_row o).part) → Made (narrow.by_call o ty a) (sort v (call_row o).whole)
  call_typed call.PowerSet v ty a d e = power_typed G J bound ty a v.for_a e d
  call_typed call.NonemptyPowerSet v ty a d e = nonempty_typed G J bound ty a v.for_a e d
  call_typed call.Finite v ty a d e = plain G J bound _ (λ k. is_defined (a.term k)) predicate (defined_is G J bound (a.term (length bound)) (power v.for_a, d.term)) refl
  call_typed call.GeneralizedUnion v ty a d e = union_typed ty a v.for_a d e
  call_typed call.Cardinality v ty a d e = called call.Cardinality v ty a d e
  call_typed call.Minimum v ty a d e = called call.Minimum v ty a d e
  call_typed call.Maximum v ty a d e = called call.Maximum v ty a d e
  call_typed call.Domain v ty a d e = called call.Domain v ty a d e
  call_typed call.Range v ty a d e = called call.Range v ty a d e
  call_typed call.GeneralizedIntersection v ty a d e = called call.GeneralizedIntersection v ty a d e
  call_typed call.BoolOf v ty a d e = called call.BoolOf v ty a d e

  -- ---- memberships

  has_here : (f : Narrowed) (t : EbType) (a : Term) → IsSet G J bound f t → G bound a (expression t) → IsPredicate G J bound (f.has (length bound) 0 a)
  has_here f t a s h = subst (λ ts. IsPredicate G J ts (f.has (length bound) 0 a)) (append-nil bound) (s.has [] a (subst (λ ts. G ts a (expression t)) (sym (append-nil bound)) h))

  within_here : (f : Narrowed) (t : EbType) (a : Term) → IsSet G J bound f t → G bound a (expression (power t)) → IsPredicate G J bound (f.has_members (length bound) 0 a)
  within_here f t a s h = subst (λ ts. IsPredicate G J ts (f.has_members (length bound) 0 a)) (append-nil bound) (s.within [] a (subst (λ ts. G ts a (expression (power t))) (sym (append-nil bound)) h))

  proper_by : (b : Bool) (f : Narrowed) (t : EbType) (a : Term) → IsTyped G J bound f (expression (power t)) → G bound a (expression (power t))
      → IsPredicate G J bound (if b then f.has_members (length bound) 0 a else conjunction (subset a (f.term (length bound))) (negation (equal a (f.term (length bound)))))
  proper_by true f t a d h = within_here f t a (d.sets t refl) h
  proper_by false f t a d h =
      let x : Term = f.term (length bound) in
      is_and G J bound (subset a x) (negation (equal a x)) (is_subset G J bound a x t h d.term) (is_not G J bound (equal a x) (is_equal G J bound a x (power t) h d.term))

  proper_is : (e f : Narrowed) (t : EbType) → IsTyped G J bound e (expression (power t)) → IsTyped G J bound f (expression (power t)) → IsPredicate G J bound (narrow.proper_subset e f (length bound))
  proper_is e f t c d = proper_by f.is_form f t (e.term (length bound)) d c.term

  -- a predicate
  so : (f : ℕ → Term) → IsPredicate G J bound (f (length bound)) → IsTyped G J bound (narrow.predicate f) predicate
  so f h = plain G J bound _ f predicate h refl

  not_so : (f : ℕ → Term) → IsPredicate G J bound (f (length bound)) → IsTyped G J bound (narrow.predicate (λ k. negation (f k))) predicate
  not_so f h = so (λ k. negation (f k)) (is_not G J bound (f (length bound)) h)

  -- ---- two parts

  stays : (o : Operator) (v : Choice) (ty : Option EbType) (a b : Narrowed) → IsTyped G J bound a (sort v (operator_row o).left) → IsTyped G J bound b (sort v (operator_row o).right)
      → ty ≡ type_in (sort v (operator_row o).whole) → IsTyped G J bound (narrow.expression ty (λ k. operation o (a.term k) (b.term k))) (sort v (operator_row o).whole)
  stays o v ty a b c d e = plain G J bound ty (λ k. operation o (a.term k) (b.term k)) (sort v (operator_row o).whole) (J.operator bound (a.term (length bound)) (b.term (length bound)) o v c.term d.term) e

  product_by : (b : Bool) (v : Choice) (ty : Option EbType) (f g : Narrowed) → IsTyped G J bound f (expression (power v.for_a)) → IsTyped G J bound g (expression (power v.for_b))
      → Made (if b then narrow.product_form ty f g else narrow.by_relation op.Product ty f g) (expression (relation v.for_a v.for_b))
  product_by true v ty f g c d e = product_typed G J bound ty f g v.for_a v.for_b e c d
  product_by false v ty f g c d e = stays op.Product v ty f g c d e

  pub operator_typed : (o : Operator) (v : Choice) (ty : Option EbType) (a b : Narrowed) → IsTyped G J bound a (sort v (operator_row o).left) → IsTyped G J bound b (sort v (operator_row o).right)
      → Made (narrow.by_operator o ty a b) (sort v (operator_row o).whole)
  operator_typed op.Unequal v ty a b c d e = not_so (λ k. equal (a.term k) (b.term k)) (is_equal G J bound (a.term (length bound)) (b.term (length bound)) v.for_a c.term d.term)
  operator_typed op.Less v ty a b c d e = not_so (λ k. at_most (b.term k) (a.term k)) (is_at_most G J bound (b.term (length bound)) (a.term (length bound)) d.term c.term)
  operator_typed op.Greater v ty a b c d e = not_so (λ k. at_most (a.term k) (b.term k)) (is_at_most G J bound (a.term (length bound)) (b.term (length bound)) c.term d.term)
  operator_typed op.AtLeast v ty a b c d e = so (λ k. at_most (b.term k) (a.term k)) (is_at_most G J bound (b.term (length bound)) (a.term (length bound)) d.term c.term)
  operator_typed op.MemberOf v ty a f c d e = so (λ k. f.has k 0 (a.term k)) (has_here f v.for_a (a.term (length bound)) (d.sets v.for_a refl) c.term)
  operator_typed op.NotMemberOf v ty a f c d e = not_so (λ k. f.has k 0 (a.term k)) (has_here f v.for_a (a.term (length bound)) (d.sets v.for_a refl) c.term)
  operator_typed op.SubsetOf v ty a f c d e = so (λ k. f.has_members k 0 (a.term k)) (within_here f v.for_a (a.term (length bound)) (d.sets v.for_a refl) c.term)
  operator_typed op.NotSubsetOf v ty a f c d e = not_so (λ k. f.has_members k 0 (a.term k)) (within_here f v.for_a (a.term (length bound)) (d.sets v.for_a refl) c.term)
  operator_typed op.ProperSubsetOf v ty a f c d e = so (narrow.proper_subset a f) (proper_is a f v.for_a c d)
  operator_typed op.NotProperSubsetOf v ty a f c d e = not_so (narrow.proper_subset a f) (proper_is a f v.for_a c d)
  operator_typed op.BackwardComposition v ty r s c d e = plain G J bound ty (λ k. operation op.ForwardComposition (s.term k) (r.term k)) (expression (relation v.for_a v.for_c))
      (J.operator bound (s.term (length bound)) (r.term (length bound)) op.ForwardComposition v d.term c.term) e
  operator_typed op.UpTo v ty a b c d e = interval_typed G J bound ty a b e c d
  operator_typed op.Product v ty f g c d e = product_by (f.is_form || g.is_form) v ty f g c d e
  operator_typed op.Relation v ty f g c d e = arrow_typed G J bound op.Relation ty f g v.for_a v.for_b e c d
  operator_typed op.TotalRelation v ty f g c d e = arrow_typed G J bound op.TotalRelation ty f g v.for_a v.for_b e c d
  operator_typed op.SurjectiveRelation v ty f g c d e = arrow_typed G J bound op.SurjectiveRelation ty f g v.for_a v.for_b e c d
  operator_typed op.TotalSurjectiveRelation v ty f g c d e = arrow_typed G J bound op.TotalSurjectiveRelation ty f g v.for_a v.for_b e c d
  operator_typed op.PartialFunction v ty f g c d e = arrow_typed G J bound op.PartialFunction ty f g v.for_a v.for_b e c d
  operator_typed op.TotalFunction v ty f g c d e = arrow_typed G J bound op.TotalFunction ty f g v.for_a v.for_b e c d
  operator_typed op.PartialInjection v ty f g c d e = arrow_typed G J bound op.PartialInjection ty f g v.for_a v.for_b e c d
  operator_typed op.TotalInjection v ty f g c d e = arrow_typed G J bound op.TotalInjection ty f g v.for_a v.for_b e c d
  operator_typed op.PartialSurjection v ty f g c d e = arrow_typed G J bound op.PartialSurjection ty f g v.for_a v.for_b e c d
  operator_typed op.TotalSurjection v ty f g c d e = arrow_typed G J bound op.TotalSurjection ty f g v.for_a v.for_b e c d
  operator_typed op.Bijection v ty f g c d e = arrow_typed G J bound op.Bijection ty f g v.for_a v.for_b e c d
  operator_typed o v ty a b c d e = stays o v ty a b c d e
