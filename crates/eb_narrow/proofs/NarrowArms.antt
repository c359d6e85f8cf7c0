-- Narrow form arm by arm of the code.
use Rattle.std.proofs.Common.{◌≡◌, ◌∙◌, refl, sym, ap, ap₂, subst, ℕ, Bool, true, false, ◌||◌, List, [], ◌∷◌, ◌++◌, map, Option, Some, None, unwrap_or, rules}
use Rattle.eb_syntax.specs.declared.ast.Operator.{Operator}
use Rattle.eb_syntax.specs.declared.ast.Operator.TheVariants as op
use Rattle.eb_value.specs.declared.types.EbType.{EbType}
use Rattle.eb_value.specs.Types.{boolean}
use Rattle.eb_term.specs.declared.operators.Unary.{Unary}
use Rattle.eb_term.specs.declared.operators.Binary.{Binary}
use Rattle.eb_term.specs.declared.operators.Binder.{Binder}
use Rattle.eb_term.specs.declared.operators.Binder.TheVariants as binder
use Rattle.eb_term.specs.declared.operators.Many.{Many}
use Rattle.eb_term.specs.declared.operators.Many.TheVariants as many
use Rattle.eb_term.specs.declared.operators.Infinite.{Infinite}
use Rattle.eb_term.specs.declared.operators.Infinite.TheVariants as infinite
use Rattle.eb_term.specs.declared.operators.Side.{Side}
use Rattle.eb_term.specs.declared.operators.Side.TheVariants as side
use Rattle.eb_term.specs.declared.term.Term.{Term, fold_out-Term}
use Rattle.eb_term.specs.declared.term.Head.{the_lemmas}
use Rattle.eb_term.specs.declared.term.Head.TheVariants as head
use Rattle.eb_term.specs.Terms as term
use Rattle.eb_meaning.specs.Meaning.{is_total, is_surjective, is_function, is_injection}
use Rattle.narrow_terms.specs.Shifting.{shift}
use Rattle.narrow_terms.specs.Building as built
use Rattle.narrow_terms.specs.Building.{operation, both, both_of, at_most, whole, is_defined, no_value}
use Rattle.eb_narrow.specs.declared.kinds.UnaryKind.TheVariants as kind
use Rattle.eb_narrow.specs.declared.kinds.BinaryKind.{BinaryKind}
use Rattle.eb_narrow.specs.declared.kinds.BinaryKind.TheVariants as of
use Rattle.eb_narrow.specs.declared.kinds.Question.{Question}
use Rattle.term_types.specs.Types.{type_of, type_by_binary}
use Rattle.eb_narrow.specs.Narrow as narrow
use Rattle.eb_narrow.specs.Narrow.{Narrowed, narrowed, expression, predicate, by_many, set_type, infinite_set}
use Rattle.eb_narrow.specs.steps.Kinds.{unary_kind, binary_kind, kind_with, as_unary, as_binary, two_parts, is_form_kind, beyond}
use Rattle.eb_narrow.specs.steps.Narrowing as step
use Rattle.eb_narrow.proofs.TermInduction.{ind_term}
use Rattle.eb_narrow.proofs.NarrowAt as at
use Rattle.eb_narrow.proofs.ByKinds.{unary_of, binary_of}

-- ---- the term itself

pub infinite_term : (t : Term) (i : Infinite) (d : ℕ) → t.head ≡ head.Infinite i → step.no_value_of t ≡ (narrowed t).term d
infinite_term t i d p = search (rules, fold_out-Term, the_lemmas, p)

pub identity_term : (t : Term) (ty : EbType) (d : ℕ) → t.head ≡ head.Identity ty → narrow.identity ty d ≡ (narrowed t).term d
identity_term t ty d p = search (rules, fold_out-Term, the_lemmas, p)

pub projection_term : (t : Term) (s : _) (a b : EbType) (d : ℕ) → t.head ≡ head.Projection s a b → narrow.projection s a b d ≡ (narrowed t).term d
projection_term t s a b d p = search (rules, fold_out-Term, the_lemmas, p)

pub unary_term : (t a : Term) (o : Unary) (d : ℕ) → t.head ≡ head.Unary o a → (as_unary (unary_kind o) o (type_of t) (narrowed a)).term d ≡ (narrowed t).term d
unary_term t a o d p =
    ap (λ ty. (as_unary (unary_kind o) o ty (narrowed a)).term d) (at.unary_ty t a o p) ∙ sym (ap (λ n. n.term d) (unary_of t a o (unary_kind o) p refl))

form_kind : (k : BinaryKind) (o : Binary) (ty : Option EbType) (a b : Narrowed) (d : ℕ) → is_form_kind k ≡ true → no_value (unwrap_or ty boolean) ≡ (as_binary k o ty a b).term d
form_kind (of.Arrow arrow) o ty a b d h = refl
form_kind of.Product o ty a b d h = refl
form_kind of.Interval o ty a b d h = let none : false ≡ true = h in absurd cc
form_kind (of.Membership q n) o ty a b d h = let none : false ≡ true = h in absurd cc
form_kind of.Other o ty a b d h = let none : false ≡ true = h in absurd cc

pub form_term : (t a b : Term) (o : Binary) (k : BinaryKind) (d : ℕ) → t.head ≡ head.Binary o a b → kind_with (binary_kind o) ((narrowed a).is_form || (narrowed b).is_form) ≡ k
    → is_form_kind k ≡ true → step.no_value_of t ≡ (narrowed t).term d
form_term t a b o k d p q h =
    let ty = type_by_binary o (narrowed a).ty (narrowed b).ty in
    ap (λ ty. no_value (unwrap_or ty boolean)) (at.binary_ty t a b o p) ∙ (form_kind k o ty (narrowed a) (narrowed b) d h ∙ sym (ap (λ n. n.term d) (binary_of t a b o k p q)))

beyond_kind : (k : BinaryKind) (o : Binary) (ty : Option EbType) (a b : Narrowed) (d : ℕ) → is_form_kind k ≡ false → beyond k o (a.term d) b d ≡ (as_binary k o ty a b).term d
beyond_kind (of.Arrow arrow) o ty a b d h = let none : true ≡ false = h in absurd cc
beyond_kind of.Product o ty a b d h = let none : true ≡ false = h in absurd cc
beyond_kind of.Interval o ty a b d h = refl
beyond_kind (of.Membership q n) o ty a b d h = refl
beyond_kind of.Other o ty a b d h = refl

pub beyond_term : (t a b : Term) (o : Binary) (k : BinaryKind) (d : ℕ) → t.head ≡ head.Binary o a b → kind_with (binary_kind o) ((narrowed a).is_form || (narrowed b).is_form) ≡ k
    → is_form_kind k ≡ false → beyond k o ((narrowed a).term d) (narrowed b) d ≡ (narrowed t).term d
beyond_term t a b o k d p q h = beyond_kind k o _ (narrowed a) (narrowed b) d h ∙ sym (ap (λ n. n.term d) (binary_of t a b o k p q))

-- what stands behind a membership's left side, and behind another
pub other_is : (k : BinaryKind) (o : Binary) (a : Term) (f : Narrowed) (d : ℕ) → ((q : Question) (n : Bool) → k ≡ of.Membership q n → ⊥) → two_parts o a (f.term d) ≡ beyond k o a f d
other_is (of.Arrow arrow) o a f d h = refl
other_is of.Product o a f d h = refl
other_is of.Interval o a f d h = refl
other_is (of.Membership q n) o a f d h = absurd (h q n refl)
other_is of.Other o a f d h = refl

untyped_many : (o : Many) (ty : Option EbType) (es : List Narrowed) (d : ℕ) → (by_many o None es).term d ≡ (by_many o ty es).term d
untyped_many many.Extension ty es d = refl
untyped_many many.Partition ty es d = refl

pub many_term : (t : Term) (o : Many) (ts : List Term) (d : ℕ) → t.head ≡ head.Many o ts → (by_many o None (map narrowed ts)).term d ≡ (narrowed t).term d
many_term t o ts d p = untyped_many o _ (map narrowed ts) d ∙ sym (ap (λ n. n.term d) (at.many_is t o ts p))

-- ---- by kinds

pub union_is : (a s : Term) (ty : EbType) (d : ℕ) → s ≡ (narrowed a).term d → ty ≡ narrow.element_type (type_of a)
    → term.over binder.Collect s (whole d ty) ≡ narrow.union_of_members (narrowed a) d
union_is a s ty d p q =
    ap₂ (λ s ty. term.over binder.Collect s (whole d ty)) p q
    ∙ ap (λ ty. term.over binder.Collect ((narrowed a).term d) (whole d (narrow.element_type ty))) (sym (at.same_type a))

pub first_type_is : (ts : List Term) → step.first_type ts ≡ set_type (map narrowed ts)
first_type_is [] = refl
first_type_is (t ∷ ts) = ap (λ ty. unwrap_or ty boolean) (sym (at.same_type t))

pub nonempty_is : (a all : Term) (ty : EbType) (d x : ℕ) (e : Term) → all ≡ (narrowed a).has_members d x e → ty ≡ unwrap_or (type_of a) boolean
    → both all (built.negation (built.equal e (built.empty_set ty))) ≡ (narrow.nonempty_power_set None (narrowed a)).has d x e
nonempty_is a all ty d x e p q =
    ap₂ (λ all ty. both all (built.negation (built.equal e (built.empty_set ty)))) p q
    ∙ ap (λ ty. both ((narrowed a).has_members d x e) (built.negation (built.equal e (built.empty_set (narrow.type_or_any ty))))) (sym (at.same_type a))

-- an expression or a predicate: it has what is a member of it
abbrev pub Plain : Narrowed → Type 0
Plain n = (d x : ℕ) (e : Term) → operation op.MemberOf e (shift d x (n.term d)) ≡ n.has d x e

plain_expression : (ty : Option EbType) (t : ℕ → Term) → Plain (expression ty t)
plain_expression ty t d x e = refl

moved : (n m : Narrowed) → n ≡ m → Plain m → Plain n
moved n m p h = subst Plain (sym p) h

pub plain_unary : (t a : Term) (o : Unary) → t.head ≡ head.Unary o a → unary_kind o ≡ kind.Other → Plain (narrowed t)
plain_unary t a o p q = moved (narrowed t) _ (unary_of t a o kind.Other p q) (λ d x e. refl)

pub plain_union : (t a : Term) (o : Unary) → t.head ≡ head.Unary o a → unary_kind o ≡ kind.UnionOfMembers → Plain (narrowed t)
plain_union t a o p q = moved (narrowed t) _ (unary_of t a o kind.UnionOfMembers p q) (λ d x e. refl)

pub plain_binary : (t a b : Term) (o : Binary) → t.head ≡ head.Binary o a b → kind_with (binary_kind o) ((narrowed a).is_form || (narrowed b).is_form) ≡ of.Other → Plain (narrowed t)
plain_binary t a b o p q = moved (narrowed t) _ (binary_of t a b o of.Other p q) (λ d x e. refl)

pub plain_membership : (t a b : Term) (o : Binary) (question : Question) (n : Bool) → t.head ≡ head.Binary o a b
    → kind_with (binary_kind o) ((narrowed a).is_form || (narrowed b).is_form) ≡ of.Membership question n → Plain (narrowed t)
plain_membership t a b o question n p q = moved (narrowed t) _ (binary_of t a b o (of.Membership question n) p q) (λ d x e. refl)

pub power_has : (t a : Term) (o : Unary) (d x : ℕ) (e : Term) → t.head ≡ head.Unary o a → unary_kind o ≡ kind.PowerSet → (narrowed a).has_members d x e ≡ (narrowed t).has d x e
power_has t a o d x e p q = sym (ap (λ n. n.has d x e) (unary_of t a o kind.PowerSet p q))

pub nonempty_has : (t a : Term) (o : Unary) (d x : ℕ) (e : Term) → t.head ≡ head.Unary o a → unary_kind o ≡ kind.NonemptyPowerSet
    → (narrow.nonempty_power_set None (narrowed a)).has d x e ≡ (narrowed t).has d x e
nonempty_has t a o d x e p q = sym (ap (λ n. n.has d x e) (unary_of t a o kind.NonemptyPowerSet p q))

pub arrow_has : (t a b : Term) (o : Binary) (arrow : Operator) (d x : ℕ) (e from to : Term) → t.head ≡ head.Binary o a b
    → kind_with (binary_kind o) ((narrowed a).is_form || (narrowed b).is_form) ≡ of.Arrow arrow
    → from ≡ narrow.covers (is_total arrow) (narrowed a) d x (built.domain e)
    → to ≡ narrow.covers (is_surjective arrow) (narrowed b) d x (built.range e)
    → both_of (from ∷ to ∷ (narrow.if_asked (is_function arrow) (built.functional e) ++ narrow.if_asked (is_injection arrow) (built.functional (built.inverse e)))) ≡ (narrowed t).has d x e
arrow_has t a b o arrow d x e from to p q h k =
    ap₂ (λ from to. both_of (from ∷ to ∷ (narrow.if_asked (is_function arrow) (built.functional e) ++ narrow.if_asked (is_injection arrow) (built.functional (built.inverse e))))) h k
    ∙ sym (ap (λ n. n.has d x e) (binary_of t a b o (of.Arrow arrow) p q))

pub product_has : (t a b : Term) (o : Binary) (d x : ℕ) (e first second : Term) → t.head ≡ head.Binary o a b
    → kind_with (binary_kind o) ((narrowed a).is_form || (narrowed b).is_form) ≡ of.Product
    → first ≡ (narrowed a).has d x (built.part side.First e) → second ≡ (narrowed b).has d x (built.part side.Second e)
    → both first second ≡ (narrowed t).has d x e
product_has t a b o d x e first second p q h k = ap₂ both h k ∙ sym (ap (λ n. n.has d x e) (binary_of t a b o of.Product p q))

pub interval_has : (t a b : Term) (o : Binary) (d x : ℕ) (e low high : Term) → t.head ≡ head.Binary o a b
    → kind_with (binary_kind o) ((narrowed a).is_form || (narrowed b).is_form) ≡ of.Interval
    → low ≡ shift d x ((narrowed a).term d) → high ≡ shift d x ((narrowed b).term d)
    → both (at_most low e) (at_most e high) ≡ (narrowed t).has d x e
interval_has t a b o d x e low high p q h k = ap₂ (λ low high. both (at_most low e) (at_most e high)) h k ∙ sym (ap (λ n. n.has d x e) (binary_of t a b o of.Interval p q))

pub infinite_has : (t : Term) (i : Infinite) (d x : ℕ) (e : Term) → t.head ≡ head.Infinite i → built.infinite_has i e ≡ (narrowed t).has d x e
infinite_has t i d x e p = search (rules, fold_out-Term, the_lemmas, p)

-- ---- other heads

abbrev pub NoInfinite : Term → Type 0
NoInfinite t = (i : Infinite) → t.head ≡ head.Infinite i → ⊥

abbrev pub NoUnary : Term → Type 0
NoUnary t = (o : Unary) (a : Term) → t.head ≡ head.Unary o a → ⊥

abbrev pub NoBinary : Term → Type 0
NoBinary t = (o : Binary) (a b : Term) → t.head ≡ head.Binary o a b → ⊥

plain_many : (o : Many) (ty : Option EbType) (es : List Narrowed) → Plain (by_many o ty es)
plain_many many.Extension ty es d x e = refl
plain_many many.Partition ty es d x e = refl

plain_range : (o : Binder) (ty : Option EbType) (bind : Binder → ℕ → Term → Term) (p : Narrowed) → Plain (narrow.by_range o ty bind p)
plain_range binder.ForAll ty bind p d x e = refl
plain_range binder.Exists ty bind p d x e = refl
plain_range binder.Collect ty bind p d x e = refl

pub plain_other : (t : Term) → NoInfinite t → NoUnary t → NoBinary t → Plain (narrowed t)
plain_other = ind_term (λ t. NoInfinite t → NoUnary t → NoBinary t → Plain (narrowed t)) (record {
  truth = λ b i u n. moved (narrowed (term.truth b)) (predicate (λ d. term.truth b)) (search (rules, the_lemmas)) (plain_expression None (λ d. term.truth b));
  literal = λ v ty i u n. moved (narrowed (term.literal v ty)) (expression (Some ty) (λ d. term.literal v ty)) (search (rules, the_lemmas)) (plain_expression (Some ty) (λ d. term.literal v ty));
  reference = λ place ty i u n. moved (narrowed (term.reference place ty)) (expression (Some ty) (λ d. term.reference place ty)) (search (rules, the_lemmas)) (plain_expression (Some ty) (λ d. term.reference place ty));
  variable = λ k path ty i u n. moved (narrowed (term.variable k path ty)) (expression (Some ty) (λ d. term.variable k path ty)) (search (rules, the_lemmas)) (plain_expression (Some ty) (λ d. term.variable k path ty));
  infinite = λ set i u n. absurd (i set (search (rules, the_lemmas)));
  identity = λ ty i u n d x e. search (rules, the_lemmas);
  projection = λ s a b i u n d x e. search (rules, the_lemmas);
  unary = λ o a p i u n. absurd (u o a (search (rules, the_lemmas)));
  binary = λ o a b p q i u n. absurd (n o a b (search (rules, the_lemmas)));
  many = λ o ts p i u n. moved (narrowed (term.many o ts)) _ (at.many_is (term.many o ts) o ts (search (rules, the_lemmas))) (plain_many o _ (map narrowed ts));
  over = λ o s body p q i u n. moved (narrowed (term.over o s body)) _ (at.over_is (term.over o s body) s body o (search (rules, the_lemmas))) (plain_range o _ _ (narrowed body));
  all = λ o ty body p i u n. moved (narrowed (term.all o ty body)) _ (at.all_is (term.all o ty body) body o ty (search (rules, the_lemmas))) (plain_range o _ _ (narrowed body));
})

-- what has no parts is narrow
pub leaf_term : (t : Term) (d : ℕ) → NoInfinite t → ((ty : EbType) → t.head ≡ head.Identity ty → ⊥) → ((s : Side) (a b : EbType) → t.head ≡ head.Projection s a b → ⊥) → NoUnary t → NoBinary t
    → ((o : Many) (ts : List Term) → t.head ≡ head.Many o ts → ⊥) → ((o : Binder) (s body : Term) → t.head ≡ head.Over o s body → ⊥) → ((o : Binder) (ty : EbType) (body : Term) → t.head ≡ head.All o ty body → ⊥)
    → t ≡ (narrowed t).term d
leaf_term t d = ind_term (λ t. NoInfinite t → ((ty : EbType) → t.head ≡ head.Identity ty → ⊥) → ((s : Side) (a b : EbType) → t.head ≡ head.Projection s a b → ⊥) → NoUnary t → NoBinary t
    → ((o : Many) (ts : List Term) → t.head ≡ head.Many o ts → ⊥) → ((o : Binder) (s body : Term) → t.head ≡ head.Over o s body → ⊥) → ((o : Binder) (ty : EbType) (body : Term) → t.head ≡ head.All o ty body → ⊥)
    → t ≡ (narrowed t).term d) (record {
      truth = λ b i e j u n m v w. search (rules, the_lemmas);
      literal = λ x ty i e j u n m v w. search (rules, the_lemmas);
      reference = λ place ty i e j u n m v w. search (rules, the_lemmas);
      variable = λ k path ty i e j u n m v w. search (rules, the_lemmas);
      infinite = λ set i e j u n m v w. absurd (i set (search (rules, the_lemmas)));
      identity = λ ty i e j u n m v w. absurd (e ty (search (rules, the_lemmas)));
      projection = λ s a b i e j u n m v w. absurd (j s a b (search (rules, the_lemmas)));
      unary = λ o a p i e j u n m v w. absurd (u o a (search (rules, the_lemmas)));
      binary = λ o a b p q i e j u n m v w. absurd (n o a b (search (rules, the_lemmas)));
      many = λ o ts p i e j u n m v w. absurd (m o ts (search (rules, the_lemmas)));
      over = λ o s body p q i e j u n m v w. absurd (v o s body (search (rules, the_lemmas)));
      all = λ o ty body p i e j u n m v w. absurd (w o ty body (search (rules, the_lemmas)));
    }) t

-- a form that is made of no parts has none that are values
pub no_values : (t : Term) (d : ℕ) → NoUnary t → NoBinary t → (narrowed t).is_form ≡ true → (narrowed t).values d ≡ []
no_values t d = ind_term (λ t. NoUnary t → NoBinary t → (narrowed t).is_form ≡ true → (narrowed t).values d ≡ []) (record {
  truth = λ b u n h. (let is : (narrowed (term.truth b)).is_form ≡ false = search (rules, the_lemmas) in let none : false ≡ true = sym is ∙ h in absurd cc);
  literal = λ v ty u n h. (let is : (narrowed (term.literal v ty)).is_form ≡ false = search (rules, the_lemmas) in let none : false ≡ true = sym is ∙ h in absurd cc);
  reference = λ place ty u n h. (let is : (narrowed (term.reference place ty)).is_form ≡ false = search (rules, the_lemmas) in let none : false ≡ true = sym is ∙ h in absurd cc);
  variable = λ k path ty u n h. (let is : (narrowed (term.variable k path ty)).is_form ≡ false = search (rules, the_lemmas) in let none : false ≡ true = sym is ∙ h in absurd cc);
  infinite = λ i u n h. search (rules, the_lemmas);
  identity = λ ty u n h. (let is : (narrowed (term.identity ty)).is_form ≡ false = search (rules, the_lemmas) in let none : false ≡ true = sym is ∙ h in absurd cc);
  projection = λ s a b u n h. (let is : (narrowed (term.projection s a b)).is_form ≡ false = search (rules, the_lemmas) in let none : false ≡ true = sym is ∙ h in absurd cc);
  unary = λ o a p u n h. absurd (u o a (search (rules, the_lemmas)));
  binary = λ o a b p q u n h. absurd (n o a b (search (rules, the_lemmas)));
  many = λ o ts p u n h. (let none : false ≡ true = sym (many_form o _ (map narrowed ts)) ∙ (sym (ap (λ m. m.is_form) (at.many_is (term.many o ts) o ts (search (rules, the_lemmas)))) ∙ h) in absurd cc);
  over = λ o s body p q u n h. (let none : false ≡ true = sym (range_form o _ _ (narrowed body)) ∙ (sym (ap (λ m. m.is_form) (at.over_is (term.over o s body) s body o (search (rules, the_lemmas)))) ∙ h) in absurd cc);
  all = λ o ty body p u n h. (let none : false ≡ true = sym (range_form o _ _ (narrowed body)) ∙ (sym (ap (λ m. m.is_form) (at.all_is (term.all o ty body) body o ty (search (rules, the_lemmas)))) ∙ h) in absurd cc);
}) t
  where
    many_form : (o : Many) (ty : Option EbType) (es : List Narrowed) → (by_many o ty es).is_form ≡ false
    many_form many.Extension ty es = refl
    many_form many.Partition ty es = refl

    range_form : (o : Binder) (ty : Option EbType) (bind : Binder → ℕ → Term → Term) (p : Narrowed) → (narrow.by_range o ty bind p).is_form ≡ false
    range_form binder.ForAll ty bind p = refl
    range_form binder.Exists ty bind p = refl
    range_form binder.Collect ty bind p = refl

-- INT has each member of what is defined
integers_at : (i : Infinite) (d x : ℕ) (e : Term) → step.is_integers (term.infinite i) ≡ true → is_defined e ≡ (infinite_set i).has_members d x e
integers_at infinite.Integers d x e h = refl
integers_at infinite.Naturals d x e h = let is : step.is_integers (term.infinite infinite.Naturals) ≡ false = search (rules, the_lemmas) in let none : false ≡ true = sym is ∙ h in absurd cc
integers_at infinite.PositiveNaturals d x e h = let is : step.is_integers (term.infinite infinite.PositiveNaturals) ≡ false = search (rules, the_lemmas) in let none : false ≡ true = sym is ∙ h in absurd cc

refused : {A : Type 0} (b : Bool) → b ≡ false → b ≡ true → A
refused b p q = let none : false ≡ true = sym p ∙ q in absurd cc

pub integers_are : (t : Term) (d x : ℕ) (e : Term) → step.is_integers t ≡ true → is_defined e ≡ (narrowed t).has_members d x e
integers_are t d x e = ind_term (λ t. step.is_integers t ≡ true → is_defined e ≡ (narrowed t).has_members d x e) (record {
  truth = λ b h. refused (step.is_integers (term.truth b)) (search (rules, the_lemmas)) h;
  literal = λ v ty h. refused (step.is_integers (term.literal v ty)) (search (rules, the_lemmas)) h;
  reference = λ place ty h. refused (step.is_integers (term.reference place ty)) (search (rules, the_lemmas)) h;
  variable = λ k path ty h. refused (step.is_integers (term.variable k path ty)) (search (rules, the_lemmas)) h;
  infinite = λ i h. integers_at i d x e h ∙ sym (ap (λ n. n.has_members d x e) (infinite_is i));
  identity = λ ty h. refused (step.is_integers (term.identity ty)) (search (rules, the_lemmas)) h;
  projection = λ s a b h. refused (step.is_integers (term.projection s a b)) (search (rules, the_lemmas)) h;
  unary = λ o a p h. refused (step.is_integers (term.unary o a)) (search (rules, the_lemmas)) h;
  binary = λ o a b p q h. refused (step.is_integers (term.binary o a b)) (search (rules, the_lemmas)) h;
  many = λ o ts p h. refused (step.is_integers (term.many o ts)) (search (rules, the_lemmas)) h;
  over = λ o s body p q h. refused (step.is_integers (term.over o s body)) (search (rules, the_lemmas)) h;
  all = λ o ty body p h. refused (step.is_integers (term.all o ty body)) (search (rules, the_lemmas)) h;
}) t
  where
    infinite_is : (i : Infinite) → narrowed (term.infinite i) ≡ infinite_set i
    infinite_is i = search (rules, the_lemmas)
