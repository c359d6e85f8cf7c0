-- What holds of a term part by part holds of its narrow form: two parts, many parts, and binders.
use Rattle.std.proofs.Common.{◌≡◌, sym, subst, ℕ, ◌+◌, Bool, true, false, ◌&&◌, ◌||◌, if◌then◌else◌, List, [], ◌∷◌, map, Option, Some}
use Rattle.std.specs.List.{AllByRecursion}
use Rattle.eb_syntax.specs.declared.ast.Operator.{Operator}
use Rattle.eb_syntax.specs.declared.ast.Operator.TheVariants as op
use Rattle.eb_value.specs.declared.types.EbType.{EbType}
use Rattle.type_table.specs.Rows.{relation}
use Rattle.eb_term.specs.declared.operators.Binary.{Binary}
use Rattle.eb_term.specs.declared.operators.Binary.TheVariants as binary
use Rattle.eb_term.specs.declared.operators.Many.{Many}
use Rattle.eb_term.specs.declared.operators.Many.TheVariants as many
use Rattle.eb_term.specs.declared.operators.Binder.{Binder}
use Rattle.eb_term.specs.declared.operators.Binder.TheVariants as binder
use Rattle.eb_term.specs.declared.operators.Side.{Side}
use Rattle.eb_term.specs.declared.operators.Side.TheVariants as side
use Rattle.eb_term.specs.declared.term.Term.{Term}
use Rattle.eb_term.specs.declared.term.Head.TheOpen as head
use Rattle.eb_term.specs.Terms as term
use Rattle.eb_meaning.specs.Meaning.{is_product, is_arrow}
use Rattle.narrow_terms.specs.Shifting.{shift}
use Rattle.narrow_terms.specs.Building.{operation, negation, conjunction, both, equal, at_most, subset, extension, pair, whole, union_on, union_of, are_apart, disjoint_parts, empty_set, partition}
use Rattle.term_types.specs.Types.{type_step, type_by_unary, type_by_binary, type_by_many, type_by_binder}
use Rattle.eb_narrow.specs.Narrow as narrow
use Rattle.eb_narrow.specs.Narrow.{Narrowed, narrowed}
use Rattle.narrow_typing.proofs.TermInduction.{ind_term}
use Rattle.narrow_typing.proofs.NarrowHeads.{narrowed-truth, narrowed-literal, narrowed-reference, narrowed-variable, narrowed-infinite, narrowed-identity, narrowed-projection, narrowed-unary, narrowed-binary, narrowed-many, narrowed-over, narrowed-all}
use Rattle.narrow_typing.proofs.Keeping.{Closed, Keeps, plain, operation_is, not_is, both_from, product_keeps, arrow_keeps, infinite_keeps, unary_keeps}

module _ (K : Term → Type 0) (C : Closed K) where
  -- ---- two parts

  proper_by : (b : Bool) (f : Narrowed) (d : ℕ) (a : Term) → Keeps K C f → K a → K (if b then f.has_members d 0 a else conjunction (subset a (f.term d)) (negation (equal a (f.term d))))
  proper_by true f d a h k = h.within d 0 a k
  proper_by false f d a h k =
      operation_is K C op.And (subset a (f.term d)) (negation (equal a (f.term d))) (operation_is K C op.SubsetOf a (f.term d) k (h.term d))
      (not_is K C (equal a (f.term d)) (operation_is K C op.Equal a (f.term d) k (h.term d)))

  proper_is : (e f : Narrowed) (d : ℕ) → Keeps K C e → Keeps K C f → K (narrow.proper_subset e f d)
  proper_is e f d h k = proper_by f.is_form f d (e.term d) k (h.term d)

  so : (f : ℕ → Term) → ((d : ℕ) → K (f d)) → Keeps K C (narrow.predicate f)
  so f h = plain K C _ f h

  not_so : (f : ℕ → Term) → ((d : ℕ) → K (f d)) → Keeps K C (narrow.predicate (λ d. negation (f d)))
  not_so f h = so (λ d. negation (f d)) (λ d. not_is K C (f d) (h d))

  interval_keeps : (ty : Option EbType) (a b : Narrowed) → Keeps K C a → Keeps K C b → Keeps K C (narrow.interval ty a b)
  interval_keeps ty a b h k =
      let p = plain K C ty (λ d. operation op.UpTo (a.term d) (b.term d)) (λ d. operation_is K C op.UpTo (a.term d) (b.term d) (h.term d) (k.term d)) in record {
        term = p.term;
        values = p.values;
        has = λ d x e l. C.binary binary.Both (at_most (shift d x (a.term d)) e) (at_most e (shift d x (b.term d)))
            (operation_is K C op.AtMost (shift d x (a.term d)) e (C.shifted d x (a.term d) (h.term d)) l) (operation_is K C op.AtMost e (shift d x (b.term d)) l (C.shifted d x (b.term d) (k.term d)));
        within = p.within;
        whole = p.whole;
      }

  relation_keeps : (o : Operator) (ty : Option EbType) (a b : Narrowed) → Keeps K C a → Keeps K C b → Keeps K C (narrow.by_relation o ty a b)
  relation_keeps op.Unequal ty a b h k = not_so (λ d. equal (a.term d) (b.term d)) (λ d. operation_is K C op.Equal (a.term d) (b.term d) (h.term d) (k.term d))
  relation_keeps op.Less ty a b h k = not_so (λ d. at_most (b.term d) (a.term d)) (λ d. operation_is K C op.AtMost (b.term d) (a.term d) (k.term d) (h.term d))
  relation_keeps op.Greater ty a b h k = not_so (λ d. at_most (a.term d) (b.term d)) (λ d. operation_is K C op.AtMost (a.term d) (b.term d) (h.term d) (k.term d))
  relation_keeps op.AtLeast ty a b h k = so (λ d. at_most (b.term d) (a.term d)) (λ d. operation_is K C op.AtMost (b.term d) (a.term d) (k.term d) (h.term d))
  relation_keeps op.MemberOf ty a f h k = so (λ d. f.has d 0 (a.term d)) (λ d. k.has d 0 (a.term d) (h.term d))
  relation_keeps op.NotMemberOf ty a f h k = not_so (λ d. f.has d 0 (a.term d)) (λ d. k.has d 0 (a.term d) (h.term d))
  relation_keeps op.SubsetOf ty a f h k = so (λ d. f.has_members d 0 (a.term d)) (λ d. k.within d 0 (a.term d) (h.term d))
  relation_keeps op.NotSubsetOf ty a f h k = not_so (λ d. f.has_members d 0 (a.term d)) (λ d. k.within d 0 (a.term d) (h.term d))
  relation_keeps op.ProperSubsetOf ty a f h k = so (narrow.proper_subset a f) (λ d. proper_is a f d h k)
  relation_keeps op.NotProperSubsetOf ty a f h k = not_so (narrow.proper_subset a f) (λ d. proper_is a f d h k)
  relation_keeps op.BackwardComposition ty r s h k = plain K C ty (λ d. operation op.ForwardComposition (s.term d) (r.term d)) (λ d. operation_is K C op.ForwardComposition (s.term d) (r.term d) (k.term d) (h.term d))
  relation_keeps op.UpTo ty a b h k = interval_keeps ty a b h k
  relation_keeps o ty a b h k = plain K C ty (λ d. operation o (a.term d) (b.term d)) (λ d. operation_is K C o (a.term d) (b.term d) (h.term d) (k.term d))

  product_by : (c : Bool) (o : Operator) (ty : Option EbType) (a b : Narrowed) → Keeps K C a → Keeps K C b → Keeps K C (if c then narrow.product_form ty a b else narrow.by_relation o ty a b)
  product_by true o ty a b h k = product_keeps K C ty a b h k
  product_by false o ty a b h k = relation_keeps o ty a b h k

  arrow_by : (c p : Bool) (o : Operator) (ty : Option EbType) (a b : Narrowed) → Keeps K C a → Keeps K C b
      → Keeps K C (if c then narrow.arrow_form o ty a b else (if p then narrow.product_form ty a b else narrow.by_relation o ty a b))
  arrow_by true p o ty a b h k = arrow_keeps K C o ty a b h k
  arrow_by false p o ty a b h k = product_by p o ty a b h k

  binary_keeps : (o : Binary) (ty : Option EbType) (a b : Narrowed) → Keeps K C a → Keeps K C b → Keeps K C (narrow.by_binary o ty a b)
  binary_keeps (binary.Operator o) ty a b h k = arrow_by (is_arrow o) (is_product o && (a.is_form || b.is_form)) o ty a b h k
  binary_keeps binary.Both ty a b h k = plain K C _ (λ d. both (a.term d) (b.term d)) (λ d. C.binary binary.Both (a.term d) (b.term d) (h.term d) (k.term d))
  binary_keeps binary.If ty a b h k = plain K C ty (λ d. term.binary binary.If (a.term d) (b.term d)) (λ d. C.binary binary.If (a.term d) (b.term d) (h.term d) (k.term d))

  -- ---- many parts

  union_from : (s : Term) (ss : List Term) → K s → AllByRecursion K ss → K (union_on s ss)
  union_from s [] h k = h
  union_from s (x ∷ xs) h k = union_from (operation op.Union s x) xs (operation_is K C op.Union s x h k.0) k.1

  union_all : (t : EbType) (ss : List Term) → AllByRecursion K ss → K (union_of t ss)
  union_all t [] h = C.literal _ t
  union_all t (s ∷ ss) h = union_from s ss h.0 h.1

  apart_are : (t : EbType) (before : Term) (ss : List Term) → K before → AllByRecursion K ss → AllByRecursion K (are_apart t before ss)
  apart_are t before [] h k = tt
  apart_are t before (s ∷ ss) h k = (
    operation_is K C op.Equal (operation op.Intersection before s) (empty_set t) (operation_is K C op.Intersection before s h k.0) (C.literal _ t),
    apart_are t (operation op.Union before s) ss (operation_is K C op.Union before s h k.0) k.1,
  )

  disjoint_are : (t : EbType) (ss : List Term) → AllByRecursion K ss → AllByRecursion K (disjoint_parts t ss)
  disjoint_are t [] h = tt
  disjoint_are t (s ∷ ss) h = apart_are t s ss h.0 h.1

  partition_is : (t : EbType) (ss : List Term) → AllByRecursion K ss → K (partition t ss)
  partition_is t [] h = C.truth false
  partition_is t (s ∷ ss) h = both_from K C (equal s (union_of t ss)) (disjoint_parts t ss) (operation_is K C op.Equal s (union_of t ss) h.0 (union_all t ss h.1)) (disjoint_are t ss h.1)

  terms_are : (ns : List Narrowed) → AllByRecursion (Keeps K C) ns → (d : ℕ) → AllByRecursion K (map (λ n. n.term d) ns)
  terms_are [] h d = tt
  terms_are (n ∷ ns) h d = (h.0.term d, terms_are ns h.1 d)

  many_keeps : (o : Many) (ty : Option EbType) (ns : List Narrowed) → AllByRecursion (Keeps K C) ns → Keeps K C (narrow.by_many o ty ns)
  many_keeps many.Extension ty ns h = plain K C ty (λ d. term.many many.Extension (map (λ e. e.term d) ns)) (λ d. C.many many.Extension (map (λ e. e.term d) ns) (terms_are ns h d))
  many_keeps many.Partition ty ns h = plain K C _ (λ d. partition (narrow.set_type ns) (map (λ e. e.term d) ns)) (λ d. partition_is (narrow.set_type ns) (map (λ e. e.term d) ns) (terms_are ns h d))

  -- ---- binders

  range_keeps : (o : Binder) (ty : Option EbType) (bind : Binder → ℕ → Term → Term) (p : Narrowed) → ((o : Binder) (d : ℕ) (b : Term) → K b → K (bind o d b)) → Keeps K C p → Keeps K C (narrow.by_range o ty bind p)
  range_keeps binder.ForAll ty bind p h k = not_so (λ d. bind binder.Exists d (negation (p.term (d + 1)))) (λ d. h binder.Exists d (negation (p.term (d + 1))) (not_is K C (p.term (d + 1)) (k.term (d + 1))))
  range_keeps binder.Exists ty bind p h k = so (λ d. bind binder.Exists d (p.term (d + 1))) (λ d. h binder.Exists d (p.term (d + 1)) (k.term (d + 1)))
  range_keeps binder.Collect ty bind p h k = plain K C ty (λ d. bind binder.Collect d (p.term (d + 1))) (λ d. h binder.Collect d (p.term (d + 1)) (k.term (d + 1)))

  pair_is : (a b : Term) → K a → K b → K (pair a b)
  pair_is a b h k = operation_is K C op.MapsTo a b h k

  extension_is : (e : Term) → K e → K (extension e)
  extension_is e h = C.many many.Extension (e ∷ []) (h, tt)

  whole_is : (k : ℕ) (t : EbType) → K (whole k t)
  whole_is k t = C.variable k [] t

  identity_is : (t : EbType) (d : ℕ) → K (narrow.identity t d)
  identity_is t d = C.all binder.Collect t (extension (pair (whole d t) (whole d t))) (extension_is (pair (whole d t) (whole d t)) (pair_is (whole d t) (whole d t) (whole_is d t) (whole_is d t)))

  chosen_is : (s : Side) (x y : Term) → K x → K y → K (narrow.chosen s x y)
  chosen_is side.First x y h k = h
  chosen_is side.Second x y h k = k

  projection_is : (s : Side) (a b : EbType) (d : ℕ) → K (narrow.projection s a b d)
  projection_is s a b d =
      let x : Term = whole d a in
      let y : Term = whole (d + 1) b in
      let e : Term = extension (pair (pair x y) (narrow.chosen s x y)) in
      C.all binder.Collect a (term.all binder.Collect b e) (C.all binder.Collect b e
      (extension_is (pair (pair x y) (narrow.chosen s x y)) (pair_is (pair x y) (narrow.chosen s x y) (pair_is x y (whole_is d a) (whole_is (d + 1) b)) (chosen_is s x y (whole_is d a) (whole_is (d + 1) b)))))

  -- ---- by induction, where it holds of the parts of what it holds of

  pub record Splits : Type 0 where
    pub unary : (o : _) (a : Term) → K (term.unary o a) → K a
    pub left : (o : Binary) (a b : Term) → K (term.binary o a b) → K a
    pub right : (o : Binary) (a b : Term) → K (term.binary o a b) → K b
    pub many : (o : Many) (es : List Term) → K (term.many o es) → AllByRecursion K es
    pub range : (o : Binder) (e b : Term) → K (term.over o e b) → K e
    pub body : (o : Binder) (e b : Term) → K (term.over o e b) → K b
    pub all : (o : Binder) (t : EbType) (b : Term) → K (term.all o t b) → K b

  module _ (S : Splits) where
    abbrev IsKept : Term → Type 0
    IsKept t = K t → Keeps K C (narrowed t)

    by : (t : Term) (n : Narrowed) → narrowed t ≡ n → Keeps K C n → Keeps K C (narrowed t)
    by t n e h = subst (Keeps K C) (sym e) h

    each_kept : (es : List Term) → AllByRecursion IsKept es → AllByRecursion K es → AllByRecursion (Keeps K C) (map narrowed es)
    each_kept [] h k = tt
    each_kept (e ∷ es) h k = (h.0 k.0, each_kept es h.1 k.1)

    pub narrowed_keeps : (t : Term) → K t → Keeps K C (narrowed t)
    narrowed_keeps = ind_term IsKept (record {
      truth = λ b k. by (term.truth b) (narrow.predicate (λ d. term.truth b)) (narrowed-truth b) (so (λ d. term.truth b) (λ d. k));
      literal = λ v t k. by (term.literal v t) (narrow.expression (Some t) (λ d. term.literal v t)) (narrowed-literal v t) (plain K C (Some t) (λ d. term.literal v t) (λ d. k));
      reference = λ place t k. by (term.reference place t) (narrow.expression (Some t) (λ d. term.reference place t)) (narrowed-reference place t) (plain K C (Some t) (λ d. term.reference place t) (λ d. k));
      variable = λ j path t k. by (term.variable j path t) (narrow.expression (Some t) (λ d. term.variable j path t)) (narrowed-variable j path t) (plain K C (Some t) (λ d. term.variable j path t) (λ d. k));
      infinite = λ i k. by (term.infinite i) (narrow.infinite_set i) (narrowed-infinite i) (infinite_keeps K C i);
      identity = λ t k. by (term.identity t) (narrow.expression (Some (relation t t)) (narrow.identity t)) (narrowed-identity t) (plain K C (Some (relation t t)) (narrow.identity t) (identity_is t));
      projection = λ s a b k. by (term.projection s a b) (narrow.expression (type_step (head.Projection s a b)) (narrow.projection s a b)) (narrowed-projection s a b)
          (plain K C (type_step (head.Projection s a b)) (narrow.projection s a b) (projection_is s a b));
      unary = λ o a p k. by (term.unary o a) (narrow.by_unary o (type_by_unary o (narrowed a).ty) (narrowed a)) (narrowed-unary o a)
          (unary_keeps K C o (type_by_unary o (narrowed a).ty) (narrowed a) (p (S.unary o a k)));
      binary = λ o a b p q k. by (term.binary o a b) (narrow.by_binary o (type_by_binary o (narrowed a).ty (narrowed b).ty) (narrowed a) (narrowed b)) (narrowed-binary o a b)
          (binary_keeps o (type_by_binary o (narrowed a).ty (narrowed b).ty) (narrowed a) (narrowed b) (p (S.left o a b k)) (q (S.right o a b k)));
      many = λ o es p k. by (term.many o es) (narrow.by_many o (type_by_many o (map (λ e. e.ty) (map narrowed es))) (map narrowed es)) (narrowed-many o es)
          (many_keeps o (type_by_many o (map (λ e. e.ty) (map narrowed es))) (map narrowed es) (each_kept es p (S.many o es k)));
      over = λ o e b p q k. by (term.over o e b) (narrow.by_range o (type_by_binder o (narrowed b).ty) (λ j d r. term.over j ((narrowed e).term d) r) (narrowed b)) (narrowed-over o e b)
          (range_keeps o (type_by_binder o (narrowed b).ty) (λ j d r. term.over j ((narrowed e).term d) r) (narrowed b)
          (λ j d r h. C.over j ((narrowed e).term d) r ((p (S.range o e b k)).term d) h) (q (S.body o e b k)));
      all = λ o t b p k. by (term.all o t b) (narrow.by_range o (type_by_binder o (narrowed b).ty) (λ j d r. term.all j t r) (narrowed b)) (narrowed-all o t b)
          (range_keeps o (type_by_binder o (narrowed b).ty) (λ j d r. term.all j t r) (narrowed b) (λ j d r h. C.all j t r h) (p (S.all o t b k)));
    })
