-- What holds of a term part by part, whatever its types, holds of its narrow form.
use Rattle.std.proofs.Common.{ℕ, ◌+◌, Bool, true, false, List, [], ◌∷◌, ◌++◌, map, Option, Some, pos}
use Rattle.std.specs.List.{AllByRecursion}
use Rattle.eb_syntax.specs.declared.ast.Prefix.TheVariants as prefix
use Rattle.eb_syntax.specs.declared.ast.Call.{Call}
use Rattle.eb_syntax.specs.declared.ast.Call.TheVariants as call
use Rattle.eb_syntax.specs.declared.ast.Operator.{Operator}
use Rattle.eb_syntax.specs.declared.ast.Operator.TheVariants as op
use Rattle.eb_value.specs.declared.types.EbType.{EbType}
use Rattle.eb_value.specs.declared.value.Value.{Value}
use Rattle.eb_value.specs.Types.{integer, power}
use Rattle.eb_term.specs.declared.operators.Unary.{Unary}
use Rattle.eb_term.specs.declared.operators.Unary.TheVariants as unary
use Rattle.eb_term.specs.declared.operators.Binary.{Binary}
use Rattle.eb_term.specs.declared.operators.Binary.TheVariants as binary
use Rattle.eb_term.specs.declared.operators.Many.{Many}
use Rattle.eb_term.specs.declared.operators.Binder.{Binder}
use Rattle.eb_term.specs.declared.operators.Binder.TheVariants as binder
use Rattle.eb_term.specs.declared.operators.Infinite.{Infinite}
use Rattle.eb_term.specs.declared.operators.Infinite.TheVariants as infinite
use Rattle.eb_term.specs.declared.operators.Side.{Side}
use Rattle.eb_term.specs.declared.operators.Side.TheVariants as side
use Rattle.eb_term.specs.declared.term.Term.{Term}
use Rattle.eb_term.specs.Terms as term
use Rattle.eb_meaning.specs.Meaning.{is_total, is_surjective, is_function, is_injection}
use Rattle.narrow_terms.specs.Shifting.{shift}
use Rattle.narrow_terms.specs.Building.{operation, negation, both, equal, part, domain, range, inverse, functional, is_defined, empty_set, no_value, whole, both_on, both_of, infinite_has}
use Rattle.eb_narrow.specs.Narrow as narrow
use Rattle.eb_narrow.specs.Narrow.{Narrowed, element_type, type_or_any, covers, if_asked, each_member, no_set_is_all}
use Rattle.narrow_typing.proofs.Built.{all_joined}

-- it holds of what is made of parts of which it holds, and of a term that is put under more binders
pub record Closed (K : Term → Type 0) : Type 0 where
  pub truth : (b : Bool) → K (term.truth b)
  pub literal : (v : Value) (t : EbType) → K (term.literal v t)
  pub variable : (k : ℕ) (path : List Side) (t : EbType) → K (term.variable k path t)
  pub unary : (o : Unary) (a : Term) → K a → K (term.unary o a)
  pub binary : (o : Binary) (a b : Term) → K a → K b → K (term.binary o a b)
  pub many : (o : Many) (es : List Term) → AllByRecursion K es → K (term.many o es)
  pub over : (o : Binder) (a b : Term) → K a → K b → K (term.over o a b)
  pub all : (o : Binder) (t : EbType) (b : Term) → K b → K (term.all o t b)
  pub shifted : (from by : ℕ) (a : Term) → K a → K (shift from by a)

module _ (K : Term → Type 0) (C : Closed K) where
  pub record Keeps (n : Narrowed) : Type 0 where
    pub term : (d : ℕ) → K (n.term d)
    pub values : (d : ℕ) → AllByRecursion K (n.values d)
    pub has : (d x : ℕ) (e : Term) → K e → K (n.has d x e)
    pub within : (d x : ℕ) (e : Term) → K e → K (n.has_members d x e)
    pub whole : (d x : ℕ) (e : Term) → K e → K (n.is_all d x e)

  -- ---- what narrow form writes

  pub operation_is : (o : Operator) (a b : Term) → K a → K b → K (operation o a b)
  operation_is o a b h k = C.binary (binary.Operator o) a b h k

  pub not_is : (p : Term) → K p → K (negation p)
  not_is p h = C.unary (unary.Prefix prefix.Not) p h

  defined_is : (e : Term) → K e → K (is_defined e)
  defined_is e h = operation_is op.Equal e e h h

  none_is : (t : EbType) → K (no_value t)
  none_is t = C.unary (unary.Call call.GeneralizedIntersection) (empty_set (power t)) (C.literal _ (power t))

  pub both_from : (p : Term) (qs : List Term) → K p → AllByRecursion K qs → K (both_on p qs)
  both_from p [] h k = h
  both_from p (q ∷ qs) h k = both_from (both p q) qs (C.binary binary.Both p q h k.0) k.1

  both_are : (ps : List Term) → AllByRecursion K ps → K (both_of ps)
  both_are [] h = C.truth true
  both_are (p ∷ ps) h = both_from p ps h.0 h.1

  values_are : (d x : ℕ) (vs : List Term) → AllByRecursion K vs → AllByRecursion K (map (λ v. is_defined (shift d x v)) vs)
  values_are d x [] h = tt
  values_are d x (v ∷ vs) h = (defined_is (shift d x v) (C.shifted d x v h.0), values_are d x vs h.1)

  given_is : (d x : ℕ) (vs : List Term) (p : Term) → AllByRecursion K vs → K p → K (both_of (map (λ v. is_defined (shift d x v)) vs ++ p ∷ []))
  given_is d x vs p h k = both_are (map (λ v. is_defined (shift d x v)) vs ++ p ∷ []) (all_joined K (map (λ v. is_defined (shift d x v)) vs) (p ∷ []) (values_are d x vs h) (k, tt))

  infinite_is : (i : Infinite) (e : Term) → K e → K (infinite_has i e)
  infinite_is infinite.Integers e h = defined_is e h
  infinite_is infinite.Naturals e h = operation_is op.AtMost (term.integer (pos 0)) e (C.literal _ integer) h
  infinite_is infinite.PositiveNaturals e h = operation_is op.AtMost (term.integer (pos 1)) e (C.literal _ integer) h

  -- ---- expressions and forms

  pub plain : (ty : Option EbType) (f : ℕ → Term) → ((d : ℕ) → K (f d)) → Keeps (narrow.expression ty f)
  plain ty f h = record {
    term = h;
    values = λ d. (h d, tt);
    has = λ d x e k. operation_is op.MemberOf e (shift d x (f d)) k (C.shifted d x (f d) (h d));
    within = λ d x e k. operation_is op.SubsetOf e (shift d x (f d)) k (C.shifted d x (f d) (h d));
    whole = λ d x e k. operation_is op.Equal e (shift d x (f d)) k (C.shifted d x (f d) (h d));
  }

  formed : (ty : Option EbType) (vs : ℕ → List Term) (has : ℕ → ℕ → Term → Term) → ((d : ℕ) → AllByRecursion K (vs d)) → ((d x : ℕ) (e : Term) → K e → K (has d x e)) → Keeps (narrow.form ty vs has)
  formed ty vs has h k = record {
    term = λ d. none_is (type_or_any ty);
    values = h;
    has = k;
    within = λ d x e l.
        let member : Term = has d (x + 1) (whole (d + x) (element_type ty)) in
        given_is d x (vs d) (negation (term.over binder.Exists e (negation member))) (h d)
        (not_is (term.over binder.Exists e (negation member)) (C.over binder.Exists e (negation member) l
        (not_is member (k d (x + 1) (whole (d + x) (element_type ty)) (C.variable (d + x) [] (element_type ty))))));
    whole = λ d x e l. given_is d x (vs d) (negation (is_defined e)) (h d) (not_is (is_defined e) (defined_is e l));
  }

  pub infinite_keeps : (i : Infinite) → Keeps (narrow.infinite_set i)
  infinite_keeps infinite.Integers =
      let f = formed (Some (power integer)) (λ d. []) (λ d x e. infinite_has infinite.Integers e) (λ d. tt) (λ d x e h. infinite_is infinite.Integers e h) in
      record { term = λ d. none_is (power integer); values = f.values; has = f.has; within = λ d x e h. defined_is e h; whole = f.whole }
  infinite_keeps infinite.Naturals = formed (Some (power integer)) (λ d. []) (λ d x e. infinite_has infinite.Naturals e) (λ d. tt) (λ d x e h. infinite_is infinite.Naturals e h)
  infinite_keeps infinite.PositiveNaturals = formed (Some (power integer)) (λ d. []) (λ d x e. infinite_has infinite.PositiveNaturals e) (λ d. tt) (λ d x e h. infinite_is infinite.PositiveNaturals e h)

  covers_is : (b : Bool) (f : Narrowed) → Keeps f → (d x : ℕ) (e : Term) → K e → K (covers b f d x e)
  covers_is true f h d x e k = h.whole d x e k
  covers_is false f h d x e k = h.within d x e k

  asked_are : (b : Bool) (p : Term) → K p → AllByRecursion K (if_asked b p)
  asked_are true p h = (h, tt)
  asked_are false p h = tt

  pub arrow_keeps : (o : Operator) (ty : Option EbType) (f g : Narrowed) → Keeps f → Keeps g → Keeps (narrow.arrow_form o ty f g)
  arrow_keeps o ty f g h k =
      formed ty (λ d. f.values d ++ g.values d)
      (λ d x e. both_of (covers (is_total o) f d x (domain e) ∷ covers (is_surjective o) g d x (range e) ∷ (if_asked (is_function o) (functional e) ++ if_asked (is_injection o) (functional (inverse e)))))
      (λ d. all_joined K (f.values d) (g.values d) (h.values d) (k.values d))
      (λ d x e l. both_are (covers (is_total o) f d x (domain e) ∷ covers (is_surjective o) g d x (range e) ∷ (if_asked (is_function o) (functional e) ++ if_asked (is_injection o) (functional (inverse e)))) (
        covers_is (is_total o) f h d x (domain e) (C.unary (unary.Call call.Domain) e l),
        (
          covers_is (is_surjective o) g k d x (range e) (C.unary (unary.Call call.Range) e l),
          all_joined K (if_asked (is_function o) (functional e)) (if_asked (is_injection o) (functional (inverse e)))
              (asked_are (is_function o) (functional e) (C.unary unary.Functional e l))
              (asked_are (is_injection o) (functional (inverse e)) (C.unary unary.Functional (inverse e) (C.unary unary.Inverse e l))),
        ),
      ))

  pub product_keeps : (ty : Option EbType) (f g : Narrowed) → Keeps f → Keeps g → Keeps (narrow.product_form ty f g)
  product_keeps ty f g h k =
      formed ty (λ d. f.values d ++ g.values d) (λ d x e. both (f.has d x (part side.First e)) (g.has d x (part side.Second e)))
      (λ d. all_joined K (f.values d) (g.values d) (h.values d) (k.values d))
      (λ d x e l. C.binary binary.Both (f.has d x (part side.First e)) (g.has d x (part side.Second e))
      (h.has d x (part side.First e) (C.unary (unary.Part side.First) e l)) (k.has d x (part side.Second e) (C.unary (unary.Part side.Second) e l)))

  -- ---- one part

  union_keeps : (ty : Option EbType) (a : Narrowed) → Keeps a → Keeps (narrow.expression ty (narrow.union_of_members a))
  union_keeps ty a h = plain ty (narrow.union_of_members a) (λ d. C.over binder.Collect (a.term d) (whole d (element_type a.ty)) (h.term d) (C.variable d [] (element_type a.ty)))

  called : (o : Call) (ty : Option EbType) (a : Narrowed) → Keeps a → Keeps (narrow.expression ty (λ d. term.unary (unary.Call o) (a.term d)))
  called o ty a h = plain ty (λ d. term.unary (unary.Call o) (a.term d)) (λ d. C.unary (unary.Call o) (a.term d) (h.term d))

  nonempty_keeps : (ty : Option EbType) (f : Narrowed) → Keeps f → Keeps (narrow.nonempty_power_set ty f)
  nonempty_keeps ty f h =
      formed ty f.values (λ d x e. both (f.has_members d x e) (negation (equal e (empty_set (type_or_any f.ty))))) h.values
      (λ d x e k. C.binary binary.Both (f.has_members d x e) (negation (equal e (empty_set (type_or_any f.ty)))) (h.within d x e k)
      (not_is (equal e (empty_set (type_or_any f.ty))) (operation_is op.Equal e (empty_set (type_or_any f.ty)) k (C.literal _ (type_or_any f.ty)))))

  call_keeps : (o : Call) (ty : Option EbType) (a : Narrowed) → Keeps a → Keeps (narrow.by_call o ty a)
  call_keeps call.PowerSet ty a h = formed ty a.values a.has_members h.values h.within
  call_keeps call.NonemptyPowerSet ty a h = nonempty_keeps ty a h
  call_keeps call.Finite ty a h = plain _ (λ d. is_defined (a.term d)) (λ d. defined_is (a.term d) (h.term d))
  call_keeps call.GeneralizedUnion ty a h = union_keeps ty a h
  call_keeps call.Cardinality ty a h = called call.Cardinality ty a h
  call_keeps call.Minimum ty a h = called call.Minimum ty a h
  call_keeps call.Maximum ty a h = called call.Maximum ty a h
  call_keeps call.Domain ty a h = called call.Domain ty a h
  call_keeps call.Range ty a h = called call.Range ty a h
  call_keeps call.GeneralizedIntersection ty a h = called call.GeneralizedIntersection ty a h
  call_keeps call.BoolOf ty a h = called call.BoolOf ty a h

  pub unary_keeps : (o : Unary) (ty : Option EbType) (a : Narrowed) → Keeps a → Keeps (narrow.by_unary o ty a)
  unary_keeps (unary.Prefix prefix.Not) ty a h = plain _ (λ d. negation (a.term d)) (λ d. not_is (a.term d) (h.term d))
  unary_keeps (unary.Prefix prefix.Minus) ty a h = plain ty (λ d. operation op.Minus (term.integer (pos 0)) (a.term d)) (λ d. operation_is op.Minus (term.integer (pos 0)) (a.term d) (C.literal _ integer) (h.term d))
  unary_keeps (unary.Call c) ty a h = call_keeps c ty a h
  unary_keeps unary.Inverse ty a h = plain ty (λ d. inverse (a.term d)) (λ d. C.unary unary.Inverse (a.term d) (h.term d))
  unary_keeps unary.Defined ty a h = plain _ (λ d. term.unary unary.Defined (a.term d)) (λ d. C.unary unary.Defined (a.term d) (h.term d))
  unary_keeps unary.Functional ty a h = plain _ (λ d. functional (a.term d)) (λ d. C.unary unary.Functional (a.term d) (h.term d))
  unary_keeps (unary.Part s) ty a h = plain ty (λ d. part s (a.term d)) (λ d. C.unary (unary.Part s) (a.term d) (h.term d))
