-- The counts are those of narrow form.
use Rattle.std.proofs.Common.{◌≡◌, ◌∙◌, refl, sym, ap, ap₂, subst, ℕ, suc, ◌+◌, ◌*◌, Bool, true, false, ◌&&◌, ◌||◌, if◌then◌else◌, List, [], ◌∷◌, ◌++◌, map, Option, Some, None, pos, zero-add, add-zero, arith, rules}
use Rattle.std.proofs.Math.Nat.{add-mul, mul-suc}
use Rattle.std.specs.List.{AllByRecursion, fold, sum}
use Rattle.eb_syntax.specs.declared.ast.Prefix.TheVariants as prefix
use Rattle.eb_syntax.specs.declared.ast.Call.{Call}
use Rattle.eb_syntax.specs.declared.ast.Call.TheVariants as call
use Rattle.eb_syntax.specs.declared.ast.Operator.{Operator}
use Rattle.eb_syntax.specs.declared.ast.Operator.TheVariants as op
use Rattle.eb_value.specs.declared.types.EbType.{EbType}
use Rattle.eb_value.specs.Types.{product, integer, power}
use Rattle.eb_value.specs.Values.{int, set}
use Rattle.type_table.specs.Rows.{relation}
use Rattle.eb_term.specs.Typed.{of_two}
use Rattle.eb_term.specs.declared.operators.Unary.{Unary}
use Rattle.eb_term.specs.declared.operators.Unary.TheVariants as unary
use Rattle.eb_term.specs.declared.operators.Binary.{Binary}
use Rattle.eb_term.specs.declared.operators.Binary.TheVariants as binary
use Rattle.eb_term.specs.declared.operators.Binder.{Binder}
use Rattle.eb_term.specs.declared.operators.Binder.TheVariants as binder
use Rattle.eb_term.specs.declared.operators.Many.{Many}
use Rattle.eb_term.specs.declared.operators.Many.TheVariants as many
use Rattle.eb_term.specs.declared.operators.Infinite.{Infinite}
use Rattle.eb_term.specs.declared.operators.Infinite.TheVariants as infinite
use Rattle.eb_term.specs.declared.operators.Side.{Side}
use Rattle.eb_term.specs.declared.operators.Side.TheVariants as side
use Rattle.eb_term.specs.declared.term.Term.{Term}
use Rattle.eb_term.specs.declared.term.Head.{the_lemmas}
use Rattle.eb_term.specs.Terms as term
use Rattle.eb_meaning.specs.Meaning.{is_product, is_arrow, is_total, is_surjective, is_function, is_injection}
use Rattle.narrow_terms.specs.Shifting.{shift}
use Rattle.narrow_terms.specs.Building as built
use Rattle.narrow_terms.specs.Building.{operation, negation, both, both_on, both_of, equal, at_most, part, domain, range, inverse, functional, is_defined, whole, empty_set, union_on, are_apart}
use Rattle.eb_narrow.specs.declared.counts.Linear.{Linear}
use Rattle.eb_narrow.specs.declared.counts.Counts.{Counts}
use Rattle.eb_narrow.specs.declared.counts.Parts.TheVariants as parts
use Rattle.term_types.specs.Types.{type_by_unary, type_by_binary, type_by_many, type_by_binder}
use Rattle.eb_narrow.specs.Narrow as narrow
use Rattle.eb_narrow.specs.Narrow.{Narrowed, narrowed, set_type}
use Rattle.eb_narrow.specs.steps.Counting as count
use Rattle.eb_narrow.specs.steps.Counting.{nodes}
use Rattle.eb_narrow.proofs.TermInduction.{ind_term}
use Rattle.eb_narrow.proofs.NarrowAt as at
use Rattle.eb_narrow.proofs.Nodes

-- so many nodes, whatever the term and the numbers of binders
abbrev Counts_as : (ℕ → ℕ → Term → Term) → Linear → Type 0
Counts_as has l = (d x : ℕ) (e : Term) → nodes (has d x e) ≡ l.base + l.times * nodes e

pub record Counted (n : Narrowed) (c : Counts) : Type 0 where
  pub term : (d : ℕ) → nodes (n.term d) ≡ c.term
  pub is_form : n.is_form ≡ c.is_form
  pub given : (d : ℕ) → Nodes.given_of (n.values d) ≡ c.given
  pub has : Counts_as n.has c.has
  pub has_members : Counts_as n.has_members c.has_members
  pub is_all : Counts_as n.is_all c.is_all

-- ---- expressions and forms

beside : (o : Operator) (t : ℕ → Term) (n : ℕ) → ((d : ℕ) → nodes (t d) ≡ n) → Counts_as (λ d x e. operation o e (shift d x (t d))) (count.beside sum n)
beside o t n h d x e = let whole = Nodes.nodes-beside o d x e (t d) in let is = h d in omega arith

counted_expression : (ty : Option EbType) (t : ℕ → Term) (n : ℕ) → ((d : ℕ) → nodes (t d) ≡ n) → Counted (narrow.expression ty t) (count.expression sum n)
counted_expression ty t n h = record {
  term = h;
  is_form = refl;
  given = λ d. (let is = h d in omega arith);
  has = beside op.MemberOf t n h;
  has_members = beside op.SubsetOf t n h;
  is_all = beside op.Equal t n h;
}

each_counts : (ty : Option EbType) (values : ℕ → List Term) (has : ℕ → ℕ → Term → Term) (g : ℕ) (l : Linear)
    → ((d : ℕ) → Nodes.given_of (values d) ≡ g) → Counts_as has l → Counts_as (narrow.each_member ty values has) (count.linear (sum (3 ∷ g ∷ l.base ∷ l.times ∷ [])) 1)
each_counts ty values has g l h k d x e =
    let m = whole (d + x) (narrow.element_type ty) in
    let inner : nodes (has d (x + 1) m) ≡ l.base + l.times * 1 = k d (x + 1) m ∙ ap (λ n. l.base + l.times * n) (Nodes.nodes-whole (d + x) (narrow.element_type ty)) in
    let body = has d (x + 1) m in
    let all = Nodes.nodes-given (values d) d x (negation (term.over binder.Exists e (negation body))) in
    let outer = Nodes.nodes-not (term.over binder.Exists e (negation body)) in
    let some = Nodes.nodes-over binder.Exists e (negation body) in
    let out = Nodes.nodes-not body in
    let parts = h d in
    omega arith

never_counts : (values : ℕ → List Term) (g : ℕ) → ((d : ℕ) → Nodes.given_of (values d) ≡ g) → Counts_as (narrow.no_set_is_all values) (count.linear (sum (2 ∷ g ∷ [])) 2)
never_counts values g h d x e =
    let all = Nodes.nodes-given (values d) d x (negation (is_defined e)) in
    let outer = Nodes.nodes-not (is_defined e) in
    let same = Nodes.nodes-operation op.Equal e e in
    let parts = h d in
    omega arith

counted_form : (ty : Option EbType) (values : ℕ → List Term) (has : ℕ → ℕ → Term → Term) (g : ℕ) (l : Linear)
    → ((d : ℕ) → Nodes.given_of (values d) ≡ g) → Counts_as has l → Counted (narrow.form ty values has) (count.form sum g l)
counted_form ty values has g l h k = record {
  term = λ d. Nodes.nodes-none (narrow.type_or_any ty);
  is_form = refl;
  given = h;
  has = k;
  has_members = each_counts ty values has g l h k;
  is_all = never_counts values g h;
}

-- ---- sets of no value

least : (n : Term) → nodes n ≡ 1 → Counts_as (λ d x e. at_most n e) (count.linear 2 1)
least n h d x e = let whole = Nodes.nodes-operation op.AtMost n e in omega arith

defined : Counts_as (λ d x e. is_defined e) (count.linear 1 2)
defined d x e = let whole = Nodes.nodes-operation op.Equal e e in omega arith

counted_infinite : (i : Infinite) → Counted (narrow.infinite_set i) (count.infinite_set sum i)
counted_infinite infinite.Integers = record {
  term = λ d. Nodes.nodes-none (power integer);
  is_form = refl;
  given = λ d. refl;
  has = defined;
  has_members = defined;
  is_all = never_counts (λ d. []) 0 (λ d. refl);
}
counted_infinite infinite.Naturals = counted_form (Some (power integer)) (λ d. []) (λ d x e. built.infinite_has infinite.Naturals e) 0 (count.linear 2 1) (λ d. refl) (least _ (Nodes.nodes-literal _ _))
counted_infinite infinite.PositiveNaturals = counted_form (Some (power integer)) (λ d. []) (λ d x e. built.infinite_has infinite.PositiveNaturals e) 0 (count.linear 2 1) (λ d. refl) (least _ (Nodes.nodes-literal _ _))

-- ---- unary operators

module _ (ty : Option EbType) (a : Narrowed) (c : Counts) (h : Counted a c) where
  one_more : (o : Unary) → Counted (narrow.expression ty (λ d. term.unary o (a.term d))) (count.expression sum (sum (1 ∷ c.term ∷ [])))
  one_more o = counted_expression ty (λ d. term.unary o (a.term d)) _ (λ d. (let whole = Nodes.nodes-unary o (a.term d) in let is = h.term d in omega arith))

  pub counted_call : (w : Call) → Counted (narrow.by_call w ty a) (count.by_call sum w c)
  counted_call call.PowerSet = counted_form ty a.values a.has_members c.given c.has_members h.given h.has_members
  counted_call call.NonemptyPowerSet =
      counted_form ty a.values (λ d x e. both (a.has_members d x e) (negation (equal e (empty_set (narrow.type_or_any a.ty))))) c.given _ h.given
      (λ d x e.
      (let whole = Nodes.nodes-both (a.has_members d x e) (negation (equal e (empty_set (narrow.type_or_any a.ty)))) in
      let outer = Nodes.nodes-not (equal e (empty_set (narrow.type_or_any a.ty))) in
      let same = Nodes.nodes-operation op.Equal e (empty_set (narrow.type_or_any a.ty)) in
      let none = Nodes.nodes-literal (set []) (narrow.type_or_any a.ty) in
      let members = h.has_members d x e in
      let more = add-mul 1 c.has_members.times (nodes e) in
      omega arith))
  counted_call call.Finite = counted_expression None (λ d. is_defined (a.term d)) _ (λ d. (let whole = Nodes.nodes-operation op.Equal (a.term d) (a.term d) in let is = h.term d in omega arith))
  counted_call call.GeneralizedUnion = counted_expression ty (narrow.union_of_members a) _
      (λ d. (let outer = Nodes.nodes-over binder.Collect (a.term d) (whole d (narrow.element_type a.ty)) in let member = Nodes.nodes-whole d (narrow.element_type a.ty) in let is = h.term d in omega arith))
  counted_call call.BoolOf = one_more (unary.Call call.BoolOf)
  counted_call call.Cardinality = one_more (unary.Call call.Cardinality)
  counted_call call.Minimum = one_more (unary.Call call.Minimum)
  counted_call call.Maximum = one_more (unary.Call call.Maximum)
  counted_call call.Domain = one_more (unary.Call call.Domain)
  counted_call call.Range = one_more (unary.Call call.Range)
  counted_call call.GeneralizedIntersection = one_more (unary.Call call.GeneralizedIntersection)

  pub counted_unary : (o : Unary) → Counted (narrow.by_unary o ty a) (count.by_unary sum o c)
  counted_unary (unary.Prefix prefix.Not) = counted_expression None (λ d. negation (a.term d)) _ (λ d. (let outer = Nodes.nodes-not (a.term d) in let is = h.term d in omega arith))
  counted_unary (unary.Prefix prefix.Minus) = counted_expression ty (λ d. operation op.Minus (term.integer (pos 0)) (a.term d)) _
      (λ d. (let outer = Nodes.nodes-operation op.Minus (term.integer (pos 0)) (a.term d) in let zero = Nodes.nodes-literal (int (pos 0)) integer in let is = h.term d in omega arith))
  counted_unary (unary.Call w) = counted_call w
  counted_unary unary.Inverse = one_more unary.Inverse
  counted_unary unary.Defined = counted_expression None (λ d. term.unary unary.Defined (a.term d)) _ (λ d. (let whole = Nodes.nodes-unary unary.Defined (a.term d) in let is = h.term d in omega arith))
  counted_unary unary.Functional = counted_expression None (λ d. functional (a.term d)) _ (λ d. (let whole = Nodes.nodes-unary unary.Functional (a.term d) in let is = h.term d in omega arith))
  counted_unary (unary.Part s) = one_more (unary.Part s)

-- ---- relations and operations

-- a part of e in place of e
of_part : (o : Unary) (has : ℕ → ℕ → Term → Term) (l : Linear) → Counts_as has l → Counts_as (λ d x e. has d x (term.unary o e)) (count.linear (l.base + l.times) l.times)
of_part o has l h d x e =
    let all : nodes (has d x (term.unary o e)) ≡ l.base + l.times * suc (nodes e) = h d x (term.unary o e) ∙ ap (λ n. l.base + l.times * n) (Nodes.nodes-unary o e) in
    let more = mul-suc l.times (nodes e) in
    omega arith

covered : (b : Bool) (a : Narrowed) (c : Counts) → Counted a c → Counts_as (narrow.covers b a) (count.covers b c)
covered true a c h = h.is_all
covered false a c h = h.has_members

spread : (a b c d n : ℕ) → (((a + b) + c) + d) * n ≡ ((a * n + b * n) + c * n) + d * n
spread a b c d n =
    let first = add-mul ((a + b) + c) d n in
    let second = add-mul (a + b) c n in
    let third = add-mul a b n in
    omega arith

module _ (from to : ℕ → ℕ → Term → Term) (l m : Linear) (h : Counts_as from l) (k : Counts_as to m) where
  arrow_counts : (p q : Bool) → Counts_as (λ d x e. both_of (from d x (domain e) ∷ to d x (range e) ∷ (narrow.if_asked p (functional e) ++ narrow.if_asked q (functional (inverse e)))))
      (count.linear (sum (1 ∷ l.base ∷ l.times ∷ m.base ∷ m.times ∷ count.if_asked p 2 ∷ count.if_asked q 3 ∷ [])) (sum (l.times ∷ m.times ∷ count.if_asked p 1 ∷ count.if_asked q 1 ∷ [])))
  arrow_counts false false d x e =
      let left = of_part (unary.Call call.Domain) from l h d x e in
      let right = of_part (unary.Call call.Range) to m k d x e in
      let sides = Nodes.nodes-both (from d x (domain e)) (to d x (range e)) in
      let more = spread l.times m.times 0 0 (nodes e) in
      omega arith
  arrow_counts true false d x e =
      let left = of_part (unary.Call call.Domain) from l h d x e in
      let right = of_part (unary.Call call.Range) to m k d x e in
      let sides = Nodes.nodes-both (from d x (domain e)) (to d x (range e)) in
      let functions = Nodes.nodes-both (both (from d x (domain e)) (to d x (range e))) (functional e) in
      let function = Nodes.nodes-unary unary.Functional e in
      let more = spread l.times m.times 1 0 (nodes e) in
      omega arith
  arrow_counts false true d x e =
      let left = of_part (unary.Call call.Domain) from l h d x e in
      let right = of_part (unary.Call call.Range) to m k d x e in
      let sides = Nodes.nodes-both (from d x (domain e)) (to d x (range e)) in
      let injections = Nodes.nodes-both (both (from d x (domain e)) (to d x (range e))) (functional (inverse e)) in
      let injection = Nodes.nodes-unary unary.Functional (inverse e) in
      let turned = Nodes.nodes-unary unary.Inverse e in
      let more = spread l.times m.times 0 1 (nodes e) in
      omega arith
  arrow_counts true true d x e =
      let left = of_part (unary.Call call.Domain) from l h d x e in
      let right = of_part (unary.Call call.Range) to m k d x e in
      let sides = Nodes.nodes-both (from d x (domain e)) (to d x (range e)) in
      let functions = Nodes.nodes-both (both (from d x (domain e)) (to d x (range e))) (functional e) in
      let function = Nodes.nodes-unary unary.Functional e in
      let injections = Nodes.nodes-both (both (both (from d x (domain e)) (to d x (range e))) (functional e)) (functional (inverse e)) in
      let injection = Nodes.nodes-unary unary.Functional (inverse e) in
      let turned = Nodes.nodes-unary unary.Inverse e in
      let more = spread l.times m.times 1 1 (nodes e) in
      omega arith

module _ (ty : Option EbType) (a b : Narrowed) (c k : Counts) (h : Counted a c) (g : Counted b k) where
  two : (o : Binary) (d : ℕ) → nodes (term.binary o (a.term d) (b.term d)) ≡ count.operation sum c k
  two o d = let whole = Nodes.nodes-binary o (a.term d) (b.term d) in let left = h.term d in let right = g.term d in omega arith

  turned : (o : Binary) (d : ℕ) → nodes (term.binary o (b.term d) (a.term d)) ≡ count.operation sum c k
  turned o d = let whole = Nodes.nodes-binary o (b.term d) (a.term d) in let left = h.term d in let right = g.term d in omega arith

  not_so : (p : ℕ → Term) (n : ℕ) → ((d : ℕ) → nodes (p d) ≡ n) → Counted (narrow.predicate (λ d. negation (p d))) (count.expression sum (sum (1 ∷ n ∷ [])))
  not_so p n is = counted_expression None (λ d. negation (p d)) _ (λ d. (let whole = Nodes.nodes-not (p d) in let same = is d in omega arith))

  asked : (has : ℕ → ℕ → Term → Term) (l : Linear) → Counts_as has l → (d : ℕ) → nodes (has d 0 (a.term d)) ≡ count.at sum l c.term
  asked has l is d = let all : nodes (has d 0 (a.term d)) ≡ l.base + l.times * c.term = is d 0 (a.term d) ∙ ap (λ n. l.base + l.times * n) (h.term d) in omega arith

  both_values : (d : ℕ) → Nodes.given_of (a.values d ++ b.values d) ≡ sum (c.given ∷ k.given ∷ [])
  both_values d = let all = Nodes.given-append (a.values d) (b.values d) in let left = h.given d in let right = g.given d in omega arith

  proper_at : (p q : Bool) (d : ℕ) → p ≡ q
      → nodes (if p then b.has_members d 0 (a.term d) else built.conjunction (built.subset (a.term d) (b.term d)) (negation (equal (a.term d) (b.term d))))
      ≡ (if q then count.at sum k.has_members c.term else sum (4 ∷ c.term ∷ c.term ∷ k.term ∷ k.term ∷ []))
  proper_at true true d e = asked b.has_members k.has_members g.has_members d
  proper_at false false d e =
      let whole = Nodes.nodes-operation op.And (built.subset (a.term d) (b.term d)) (negation (equal (a.term d) (b.term d))) in
      let outer = Nodes.nodes-not (equal (a.term d) (b.term d)) in
      let within = two (binary.Operator op.SubsetOf) d in
      let same = two (binary.Operator op.Equal) d in
      omega arith
  proper_at true false d e = let none : true ≡ false = e in absurd cc
  proper_at false true d e = let none : false ≡ true = e in absurd cc

  proper : (d : ℕ) → nodes (narrow.proper_subset a b d) ≡ count.proper_subset sum c k
  proper d = proper_at b.is_form k.is_form d g.is_form

  counted_interval : Counted (narrow.interval ty a b) (count.interval sum c k)
  counted_interval =
      let t : ℕ → Term = λ d. operation op.UpTo (a.term d) (b.term d) in
      let n = count.operation sum c k in
      record {
        term = two (binary.Operator op.UpTo);
        is_form = refl;
        given = λ d. (let is = two (binary.Operator op.UpTo) d in omega arith);
        has = λ d x e.
            (let low = Nodes.nodes-operation op.AtMost (shift d x (a.term d)) e in
            let high = Nodes.nodes-operation op.AtMost e (shift d x (b.term d)) in
            let whole = Nodes.nodes-both (at_most (shift d x (a.term d)) e) (at_most e (shift d x (b.term d))) in
            let left = Nodes.nodes-shift d x (a.term d) in
            let right = Nodes.nodes-shift d x (b.term d) in
            let first = h.term d in
            let last = g.term d in
            omega arith);
        has_members = beside op.SubsetOf t n (two (binary.Operator op.UpTo));
        is_all = beside op.Equal t n (two (binary.Operator op.UpTo));
      }

  counted_relation : (o : Operator) → Counted (narrow.by_relation o ty a b) (count.by_relation sum o c k)
  counted_relation op.Unequal = counted_expression None (λ d. negation (equal (a.term d) (b.term d))) _ (λ d. (let whole = Nodes.nodes-not (equal (a.term d) (b.term d)) in let is = two (binary.Operator op.Equal) d in omega arith))
  counted_relation op.Less = counted_expression None (λ d. negation (at_most (b.term d) (a.term d))) _ (λ d. (let whole = Nodes.nodes-not (at_most (b.term d) (a.term d)) in let is = turned (binary.Operator op.AtMost) d in omega arith))
  counted_relation op.Greater = counted_expression None (λ d. negation (at_most (a.term d) (b.term d))) _ (λ d. (let whole = Nodes.nodes-not (at_most (a.term d) (b.term d)) in let is = two (binary.Operator op.AtMost) d in omega arith))
  counted_relation op.AtLeast = counted_expression None (λ d. at_most (b.term d) (a.term d)) _ (turned (binary.Operator op.AtMost))
  counted_relation op.MemberOf = counted_expression None (λ d. b.has d 0 (a.term d)) _ (asked b.has k.has g.has)
  counted_relation op.NotMemberOf = not_so (λ d. b.has d 0 (a.term d)) _ (asked b.has k.has g.has)
  counted_relation op.SubsetOf = counted_expression None (λ d. b.has_members d 0 (a.term d)) _ (asked b.has_members k.has_members g.has_members)
  counted_relation op.NotSubsetOf = not_so (λ d. b.has_members d 0 (a.term d)) _ (asked b.has_members k.has_members g.has_members)
  counted_relation op.ProperSubsetOf = counted_expression None (narrow.proper_subset a b) _ proper
  counted_relation op.NotProperSubsetOf = not_so (narrow.proper_subset a b) _ proper
  counted_relation op.BackwardComposition = counted_expression ty (λ d. operation op.ForwardComposition (b.term d) (a.term d)) _ (turned (binary.Operator op.ForwardComposition))
  counted_relation op.UpTo = counted_interval
  counted_relation o = counted_expression ty (λ d. operation o (a.term d) (b.term d)) _ (two (binary.Operator o))

  counted_product : Counted (narrow.product_form ty a b) (count.product_form sum c k)
  counted_product =
      counted_form ty (λ d. a.values d ++ b.values d) (λ d x e. both (a.has d x (part side.First e)) (b.has d x (part side.Second e))) (sum (c.given ∷ k.given ∷ [])) _ both_values
      (λ d x e.
      (let left = of_part (unary.Part side.First) a.has c.has h.has d x e in
      let right = of_part (unary.Part side.Second) b.has k.has g.has d x e in
      let whole = Nodes.nodes-both (a.has d x (part side.First e)) (b.has d x (part side.Second e)) in
      let more = add-mul c.has.times k.has.times (nodes e) in
      omega arith))

  counted_arrow : (o : Operator) → Counted (narrow.arrow_form o ty a b) (count.arrow_form sum o c k)
  counted_arrow o =
      counted_form ty (λ d. a.values d ++ b.values d) _ (sum (c.given ∷ k.given ∷ [])) _ both_values
      (arrow_counts (narrow.covers (is_total o) a) (narrow.covers (is_surjective o) b) (count.covers (is_total o) c) (count.covers (is_surjective o) k)
      (covered (is_total o) a c h) (covered (is_surjective o) b k g) (is_function o) (is_injection o))

  picked : (p q r : Bool) → q ≡ r → (o : Operator)
      → Counted (if p then narrow.arrow_form o ty a b else (if q then narrow.product_form ty a b else narrow.by_relation o ty a b))
      (if p then count.arrow_form sum o c k else (if r then count.product_form sum c k else count.by_relation sum o c k))
  picked true q r e o = counted_arrow o
  picked false true true e o = counted_product
  picked false false false e o = counted_relation o
  picked false true false e o = let none : true ≡ false = e in absurd cc
  picked false false true e o = let none : false ≡ true = e in absurd cc

  pub counted_binary : (o : Binary) → Counted (narrow.by_binary o ty a b) (count.by_binary sum o c k)
  counted_binary (binary.Operator o) = picked (is_arrow o) (is_product o && (a.is_form || b.is_form)) (is_product o && (c.is_form || k.is_form)) (ap₂ (λ x y. is_product o && (x || y)) h.is_form g.is_form) o
  counted_binary binary.Both = counted_expression None (λ d. both (a.term d) (b.term d)) _ (two binary.Both)
  counted_binary binary.If = counted_expression ty (λ d. term.binary binary.If (a.term d) (b.term d)) _ (two binary.If)

-- ---- many parts

regroup : (m n k : ℕ) → (n + m) + k ≡ n + ((0 + m) + k)
regroup m n k = omega arith

-- the sum of a list from a number on
sum_on : (n : ℕ) (ns : List ℕ) → fold (λ a b. a + b) n ns ≡ n + sum ns
sum_on n [] = sym (add-zero n)
sum_on n (m ∷ ns) = sum_on (n + m) ns ∙ (regroup m n (sum ns) ∙ sym (ap (λ k. n + k) (sum_on (0 + m) ns)))

in_sum : (ts : List Term) → Nodes.nodes_in ts ≡ sum (map nodes ts)
in_sum [] = refl
in_sum (t ∷ ts) = ap (λ n. nodes t + n) (in_sum ts) ∙ (ap (λ n. n + sum (map nodes ts)) (sym (zero-add (nodes t))) ∙ sym (sum_on (0 + nodes t) (map nodes ts)))

abbrev union_count : ℕ → List ℕ → ℕ
union_count b [] = b
union_count b (n ∷ ns) = union_count (sum (1 ∷ b ∷ n ∷ [])) ns

abbrev apart_count : ℕ → List ℕ → ℕ
apart_count b [] = 0
apart_count b (n ∷ ns) = sum (4 ∷ b ∷ n ∷ []) + apart_count (sum (1 ∷ b ∷ n ∷ [])) ns

united : (before t : Term) (b : ℕ) → nodes before ≡ b → nodes (operation op.Union before t) ≡ sum (1 ∷ b ∷ nodes t ∷ [])
united before t b h = let whole = Nodes.nodes-operation op.Union before t in omega arith

union_nodes : (before : Term) (b : ℕ) (ts : List Term) → nodes before ≡ b → nodes (union_on before ts) ≡ union_count b (map nodes ts)
union_nodes before b [] h = h
union_nodes before b (t ∷ ts) h = union_nodes (operation op.Union before t) (sum (1 ∷ b ∷ nodes t ∷ [])) ts (united before t b h)

apart_from : (ty : EbType) (p before t : Term) (b k : ℕ) → nodes before ≡ b
    → nodes (both p (equal (operation op.Intersection before t) (empty_set ty))) + k ≡ nodes p + (sum (4 ∷ b ∷ nodes t ∷ []) + k)
apart_from ty p before t b k h =
    let joined = Nodes.nodes-both p (equal (operation op.Intersection before t) (empty_set ty)) in
    let apart = Nodes.nodes-operation op.Equal (operation op.Intersection before t) (empty_set ty) in
    let shared = Nodes.nodes-operation op.Intersection before t in
    let none = Nodes.nodes-literal (set []) ty in
    omega arith

apart_nodes : (ty : EbType) (p before : Term) (b : ℕ) (ts : List Term) → nodes before ≡ b → nodes (both_on p (are_apart ty before ts)) ≡ nodes p + apart_count b (map nodes ts)
apart_nodes ty p before b [] h = sym (add-zero (nodes p))
apart_nodes ty p before b (t ∷ ts) h =
    apart_nodes ty (both p (equal (operation op.Intersection before t) (empty_set ty))) (operation op.Union before t) (sum (1 ∷ b ∷ nodes t ∷ [])) ts (united before t b h)
    ∙ apart_from ty p before t b (apart_count (sum (1 ∷ b ∷ nodes t ∷ [])) (map nodes ts)) h

from_step : (P U Q all b n : ℕ) → P + sum (1 ∷ b ∷ n ∷ []) ≡ (sum (5 ∷ all ∷ b ∷ n ∷ n ∷ []) + U) + Q → P + b ≡ (all + U) + (sum (4 ∷ b ∷ n ∷ []) + Q)
from_step P U Q all b n h = omega arith

from_is : (b all : ℕ) (ns : List ℕ) → count.partition_from sum (parts.Sets b all) ns + b ≡ (all + union_count b ns) + apart_count b ns
from_is b all [] = sym (add-zero (all + b))
from_is b all (n ∷ ns) =
    from_step (count.partition_from sum (parts.Sets (sum (1 ∷ b ∷ n ∷ [])) (sum (5 ∷ all ∷ b ∷ n ∷ n ∷ []))) ns) (union_count (sum (1 ∷ b ∷ n ∷ [])) ns) (apart_count (sum (1 ∷ b ∷ n ∷ [])) ns) all b n
    (from_is (sum (1 ∷ b ∷ n ∷ [])) (sum (5 ∷ all ∷ b ∷ n ∷ n ∷ [])) ns)

partition_one : (ty : EbType) (s : Term) → nodes (equal s (empty_set ty)) ≡ sum (2 ∷ nodes s ∷ [])
partition_one ty s = let whole = Nodes.nodes-operation op.Equal s (empty_set ty) in let none = Nodes.nodes-literal (set []) ty in omega arith

partition_more : (whole s t u P U Q n : ℕ) → n ≡ whole + Q → whole ≡ suc (s + u) → u ≡ U → P + t ≡ (sum (1 ∷ s ∷ t ∷ []) + U) + Q → n ≡ P
partition_more whole s t u P U Q n a b c h = omega arith

partition_nodes : (ty : EbType) (ts : List Term) → nodes (built.partition ty ts) ≡ count.partition sum (map nodes ts)
partition_nodes ty [] = Nodes.nodes-truth false
partition_nodes ty (s ∷ []) = partition_one ty s
partition_nodes ty (s ∷ t ∷ ts) =
    partition_more (nodes (equal s (union_on t ts))) (nodes s) (nodes t) (nodes (union_on t ts)) (count.partition_from sum (parts.Sets (nodes t) (sum (1 ∷ nodes s ∷ nodes t ∷ []))) (map nodes ts))
    (union_count (nodes t) (map nodes ts)) (apart_count (nodes t) (map nodes ts)) _
    (apart_nodes ty (equal s (union_on t ts)) t (nodes t) ts refl) (Nodes.nodes-operation op.Equal s (union_on t ts)) (union_nodes t (nodes t) ts refl)
    (from_is (nodes t) (sum (1 ∷ nodes s ∷ nodes t ∷ [])) (map nodes ts))

-- ---- by the head

each_nodes : (ts : List Term) (d : ℕ) → AllByRecursion (λ t. Counted (narrowed t) (count.counted sum t)) ts
    → map nodes (map (λ e. e.term d) (map narrowed ts)) ≡ map (λ c. c.term) (map (count.counted sum) ts)
each_nodes [] d h = refl
each_nodes (t ∷ ts) d h = ap₂ (λ n ns. n ∷ ns) (h.0.term d) (each_nodes ts d h.1)

counted_many : (ty : Option EbType) (ts : List Term) → AllByRecursion (λ t. Counted (narrowed t) (count.counted sum t)) ts → (o : Many)
    → Counted (narrow.by_many o ty (map narrowed ts)) (count.by_many sum o (map (λ c. c.term) (map (count.counted sum) ts)))
counted_many ty ts h many.Extension = counted_expression ty (λ d. term.many many.Extension (map (λ e. e.term d) (map narrowed ts))) _
    (λ d. (let us = map (λ e. e.term d) (map narrowed ts) in
    let whole = Nodes.nodes-many many.Extension us in
    let parts : Nodes.nodes_in us ≡ sum (map (λ c. c.term) (map (count.counted sum) ts)) = in_sum us ∙ ap sum (each_nodes ts d h) in
    omega arith))
counted_many ty ts h many.Partition = counted_expression None (λ d. built.partition (set_type (map narrowed ts)) (map (λ e. e.term d) (map narrowed ts))) _
    (λ d. partition_nodes (set_type (map narrowed ts)) (map (λ e. e.term d) (map narrowed ts)) ∙ ap (count.partition sum) (each_nodes ts d h))

counted_range : (ty : Option EbType) (bind : Binder → ℕ → Term → Term) (p : Narrowed) (c : Counts) (r : ℕ) → ((k : Binder) (d : ℕ) (q : Term) → nodes (bind k d q) ≡ suc (r + nodes q))
    → Counted p c → (o : Binder) → Counted (narrow.by_range o ty bind p) (count.expression sum (count.by_range sum o r c.term))
counted_range ty bind p c r is h binder.ForAll = counted_expression None (λ d. negation (bind binder.Exists d (negation (p.term (d + 1))))) _
    (λ d. (let outer = Nodes.nodes-not (bind binder.Exists d (negation (p.term (d + 1)))) in
    let some = is binder.Exists d (negation (p.term (d + 1))) in
    let out = Nodes.nodes-not (p.term (d + 1)) in
    let body = h.term (d + 1) in
    omega arith))
counted_range ty bind p c r is h binder.Exists = counted_expression None (λ d. bind binder.Exists d (p.term (d + 1))) _
    (λ d. (let some = is binder.Exists d (p.term (d + 1)) in let body = h.term (d + 1) in omega arith))
counted_range ty bind p c r is h binder.Collect = counted_expression ty (λ d. bind binder.Collect d (p.term (d + 1))) _
    (λ d. (let some = is binder.Collect d (p.term (d + 1)) in let body = h.term (d + 1) in omega arith))

identity_nodes : (ty : EbType) (d : ℕ) → nodes (narrow.identity ty d) ≡ 5
identity_nodes ty d =
    let outer = Nodes.nodes-all binder.Collect ty (built.extension (built.pair (whole d ty) (whole d ty))) in
    let set = Nodes.nodes-many many.Extension (built.pair (whole d ty) (whole d ty) ∷ []) in
    let pair = Nodes.nodes-operation op.MapsTo (whole d ty) (whole d ty) in
    let member = Nodes.nodes-whole d ty in
    omega arith

chosen_nodes : (s : Side) (d : ℕ) (a b : EbType) → nodes (narrow.chosen s (whole d a) (whole (d + 1) b)) ≡ 1
chosen_nodes side.First d a b = Nodes.nodes-whole d a
chosen_nodes side.Second d a b = Nodes.nodes-whole (d + 1) b

projection_nodes : (s : Side) (a b : EbType) (d : ℕ) → nodes (narrow.projection s a b d) ≡ 8
projection_nodes s a b d =
    let inner = built.pair (whole d a) (whole (d + 1) b) in
    let chosen = narrow.chosen s (whole d a) (whole (d + 1) b) in
    let set = built.extension (built.pair inner chosen) in
    let outer = Nodes.nodes-all binder.Collect a (term.all binder.Collect b set) in
    let second = Nodes.nodes-all binder.Collect b set in
    let one = Nodes.nodes-many many.Extension (built.pair inner chosen ∷ []) in
    let maplet = Nodes.nodes-operation op.MapsTo inner chosen in
    let pair = Nodes.nodes-operation op.MapsTo (whole d a) (whole (d + 1) b) in
    let left = Nodes.nodes-whole d a in
    let right = Nodes.nodes-whole (d + 1) b in
    let last = chosen_nodes s d a b in
    omega arith

moved : (t : Term) (n : Narrowed) (c : Counts) → narrowed t ≡ n → count.counted sum t ≡ c → Counted n c → Counted (narrowed t) (count.counted sum t)
moved t n c p q k = subst (λ m. Counted m (count.counted sum t)) (sym p) (subst (λ x. Counted n x) (sym q) k)

unary_counts : (o : Unary) (a : Term) → count.counted sum (term.unary o a) ≡ count.by_unary sum o (count.counted sum a)
unary_counts o a = search (rules, the_lemmas)

binary_counts : (o : Binary) (a b : Term) → count.counted sum (term.binary o a b) ≡ count.by_binary sum o (count.counted sum a) (count.counted sum b)
binary_counts o a b = search (rules, the_lemmas)

many_counts : (o : Many) (ts : List Term) → count.counted sum (term.many o ts) ≡ count.by_many sum o (map (λ c. c.term) (map (count.counted sum) ts))
many_counts o ts = search (rules, the_lemmas)

over_counts : (o : Binder) (s body : Term) → count.counted sum (term.over o s body) ≡ count.expression sum (count.by_range sum o (count.counted sum s).term (count.counted sum body).term)
over_counts o s body = search (rules, the_lemmas)

all_counts : (o : Binder) (ty : EbType) (body : Term) → count.counted sum (term.all o ty body) ≡ count.expression sum (count.by_range sum o 0 (count.counted sum body).term)
all_counts o ty body = search (rules, the_lemmas)

pub is_counted : (t : Term) → Counted (narrowed t) (count.counted sum t)
is_counted = ind_term (λ t. Counted (narrowed t) (count.counted sum t)) (record {
  truth = λ b. moved (term.truth b) (narrow.predicate (λ d. term.truth b)) (count.expression sum 1) (search (rules, the_lemmas)) (search (rules, the_lemmas)) (counted_expression None (λ d. term.truth b) 1 (λ d. Nodes.nodes-truth b));
  literal = λ v ty. moved (term.literal v ty) (narrow.expression (Some ty) (λ d. term.literal v ty)) (count.expression sum 1) (search (rules, the_lemmas)) (search (rules, the_lemmas)) (counted_expression (Some ty) (λ d. term.literal v ty) 1 (λ d. Nodes.nodes-literal v ty));
  reference = λ place ty. moved (term.reference place ty) (narrow.expression (Some ty) (λ d. term.reference place ty)) (count.expression sum 1) (search (rules, the_lemmas)) (search (rules, the_lemmas)) (counted_expression (Some ty) (λ d. term.reference place ty) 1 (λ d. Nodes.nodes-reference place ty));
  variable = λ k path ty. moved (term.variable k path ty) (narrow.expression (Some ty) (λ d. term.variable k path ty)) (count.expression sum 1) (search (rules, the_lemmas)) (search (rules, the_lemmas)) (counted_expression (Some ty) (λ d. term.variable k path ty) 1 (λ d. Nodes.nodes-variable k path ty));
  infinite = λ i. moved (term.infinite i) (narrow.infinite_set i) (count.infinite_set sum i) (search (rules, the_lemmas)) (search (rules, the_lemmas)) (counted_infinite i);
  identity = λ ty. moved (term.identity ty) (narrow.expression (Some (relation ty ty)) (narrow.identity ty)) (count.expression sum 5) (search (rules, the_lemmas)) (search (rules, the_lemmas)) (counted_expression (Some (relation ty ty)) (narrow.identity ty) 5 (identity_nodes ty));
  projection = λ s a b. moved (term.projection s a b) (narrow.expression (Some (relation (product a b) (of_two s a b))) (narrow.projection s a b)) (count.expression sum 8) (search (rules, the_lemmas)) (search (rules, the_lemmas)) (counted_expression (Some (relation (product a b) (of_two s a b))) (narrow.projection s a b) 8 (projection_nodes s a b));
  unary = λ o a p. moved (term.unary o a) (narrow.by_unary o (type_by_unary o (narrowed a).ty) (narrowed a)) (count.by_unary sum o (count.counted sum a)) (at.unary_is (term.unary o a) a o (search (rules, the_lemmas))) (unary_counts o a)
      (counted_unary (type_by_unary o (narrowed a).ty) (narrowed a) (count.counted sum a) p o);
  binary = λ o a b p q. moved (term.binary o a b) (narrow.by_binary o (type_by_binary o (narrowed a).ty (narrowed b).ty) (narrowed a) (narrowed b)) (count.by_binary sum o (count.counted sum a) (count.counted sum b)) (at.binary_is (term.binary o a b) a b o (search (rules, the_lemmas))) (binary_counts o a b)
      (counted_binary (type_by_binary o (narrowed a).ty (narrowed b).ty) (narrowed a) (narrowed b) (count.counted sum a) (count.counted sum b) p q o);
  many = λ o ts p. moved (term.many o ts) (narrow.by_many o (type_by_many o (map (λ e. e.ty) (map narrowed ts))) (map narrowed ts)) (count.by_many sum o (map (λ c. c.term) (map (count.counted sum) ts))) (at.many_is (term.many o ts) o ts (search (rules, the_lemmas))) (many_counts o ts)
      (counted_many (type_by_many o (map (λ e. e.ty) (map narrowed ts))) ts p o);
  over = λ o s body p q. moved (term.over o s body) (narrow.by_range o (type_by_binder o (narrowed body).ty) (λ k d r. term.over k ((narrowed s).term d) r) (narrowed body)) _ (at.over_is (term.over o s body) s body o (search (rules, the_lemmas))) (over_counts o s body)
      (counted_range (type_by_binder o (narrowed body).ty) (λ k d r. term.over k ((narrowed s).term d) r) (narrowed body) (count.counted sum body) (count.counted sum s).term
      (λ k d r. Nodes.nodes-over k ((narrowed s).term d) r ∙ ap (λ n. suc (n + nodes r)) (p.term d)) q o);
  all = λ o ty body p. moved (term.all o ty body) (narrow.by_range o (type_by_binder o (narrowed body).ty) (λ k d r. term.all k ty r) (narrowed body)) _ (at.all_is (term.all o ty body) body o ty (search (rules, the_lemmas))) (all_counts o ty body)
      (counted_range (type_by_binder o (narrowed body).ty) (λ k d r. term.all k ty r) (narrowed body) (count.counted sum body) 0 (λ k d r. Nodes.nodes-all k ty r ∙ ap suc (sym (zero-add (nodes r)))) p o);
})
