-- The nodes of terms, of terms put under more binders, and of what narrow form writes.
use Rattle.std.proofs.Common.{◌≡◌, ◌∙◌, refl, sym, ap, ap₂, ℕ, suc, ◌+◌, List, [], ◌∷◌, ◌++◌, length, map, length-append, zero-add, add_assoc, arith, rules}
use Rattle.std.specs.List.{AllByRecursion, flat_map}
use Rattle.eb_value.specs.declared.types.EbType.{EbType}
use Rattle.eb_value.specs.declared.value.Value.{Value}
use Rattle.eb_syntax.specs.declared.ast.Operator.{Operator}
use Rattle.eb_term.specs.declared.operators.Unary.{Unary}
use Rattle.eb_term.specs.declared.operators.Binary.{Binary}
use Rattle.eb_term.specs.declared.operators.Binary.TheVariants as binary
use Rattle.eb_term.specs.declared.operators.Binder.{Binder}
use Rattle.eb_term.specs.declared.operators.Many.{Many}
use Rattle.eb_term.specs.declared.operators.Side.{Side}
use Rattle.eb_term.specs.declared.term.Term.{Term}
use Rattle.eb_term.specs.declared.term.Head.{the_lemmas}
use Rattle.eb_term.specs.Terms as term
use Rattle.eb_term.specs.Terms.{by_parts}
use Rattle.eb_term.specs.Nodes.{Listed, listed_step, subterms}
use Rattle.narrow_terms.specs.Shifting.{shift}
use Rattle.narrow_terms.specs.Building.{operation, negation, both, both_on, both_of, is_defined, whole, no_value, empty_set}
use Rattle.eb_narrow.specs.steps.Counting.{nodes}
use Rattle.eb_narrow.proofs.TermInduction.{ind_term}
use Rattle.eb_narrow.proofs.Shifts as shifts

-- ---- by the head

pub nodes-truth : (b : _) → nodes (term.truth b) ≡ 1
unfolding nodes
nodes-truth b = search (rules, the_lemmas)

pub nodes-literal : (v : Value) (ty : EbType) → nodes (term.literal v ty) ≡ 1
unfolding nodes
nodes-literal v ty = search (rules, the_lemmas)

pub nodes-reference : (place : ℕ) (ty : EbType) → nodes (term.reference place ty) ≡ 1
unfolding nodes
nodes-reference place ty = search (rules, the_lemmas)

pub nodes-variable : (k : ℕ) (path : List Side) (ty : EbType) → nodes (term.variable k path ty) ≡ 1
unfolding nodes
nodes-variable k path ty = search (rules, the_lemmas)

pub nodes-unary : (o : Unary) (a : Term) → nodes (term.unary o a) ≡ suc (nodes a)
unfolding nodes
nodes-unary o a = search (rules, the_lemmas)

long-binary : (o : Binary) (a b : Term) → length (subterms (term.binary o a b)) ≡ suc (length (subterms a ++ subterms b))
long-binary o a b = search (rules, the_lemmas)

pub nodes-binary : (o : Binary) (a b : Term) → nodes (term.binary o a b) ≡ suc (nodes a + nodes b)
unfolding nodes
nodes-binary o a b = long-binary o a b ∙ ap suc (length-append (subterms a) (subterms b))

long-over : (o : Binder) (a b : Term) → length (subterms (term.over o a b)) ≡ suc (length (subterms a ++ subterms b))
long-over o a b = search (rules, the_lemmas)

pub nodes-over : (o : Binder) (a b : Term) → nodes (term.over o a b) ≡ suc (nodes a + nodes b)
unfolding nodes
nodes-over o a b = long-over o a b ∙ ap suc (length-append (subterms a) (subterms b))

pub nodes-all : (o : Binder) (ty : EbType) (body : Term) → nodes (term.all o ty body) ≡ suc (nodes body)
unfolding nodes
nodes-all o ty body = search (rules, the_lemmas)

long-many : (o : Many) (ts : List Term) → length (subterms (term.many o ts)) ≡ suc (length (flat_map (λ l. l.nodes) (map (by_parts Listed listed_step) ts)))
long-many o ts = search (rules, the_lemmas)

-- the nodes of each
abbrev pub nodes_in : List Term → ℕ
nodes_in [] = 0
nodes_in (t ∷ ts) = nodes t + nodes_in ts

each_length : (ts : List Term) → length (flat_map (λ l. l.nodes) (map (by_parts Listed listed_step) ts)) ≡ nodes_in ts
unfolding nodes
each_length [] = refl
each_length (t ∷ ts) = length-append (subterms t) (flat_map (λ l. l.nodes) (map (by_parts Listed listed_step) ts)) ∙ ap (λ n. length (subterms t) + n) (each_length ts)

pub nodes-many : (o : Many) (ts : List Term) → nodes (term.many o ts) ≡ suc (nodes_in ts)
unfolding nodes
nodes-many o ts = long-many o ts ∙ ap suc (each_length ts)

-- ---- under more binders

leaf_shift : (from by : ℕ) (t s : Term) → shift from by t ≡ s → nodes s ≡ nodes t → nodes (shift from by t) ≡ nodes t
leaf_shift from by t s p q = ap nodes p ∙ q

in_shift : (from by : ℕ) (ts : List Term) → AllByRecursion (λ t. nodes (shift from by t) ≡ nodes t) ts → nodes_in (map (shift from by) ts) ≡ nodes_in ts
in_shift from by [] h = refl
in_shift from by (t ∷ ts) h = ap₂ (λ a b. a + b) h.0 (in_shift from by ts h.1)

pub nodes-shift : (from by : ℕ) (t : Term) → nodes (shift from by t) ≡ nodes t
nodes-shift from by = ind_term (λ t. nodes (shift from by t) ≡ nodes t) (record {
  truth = λ b. ap nodes (search (rules, the_lemmas));
  literal = λ v ty. ap nodes (search (rules, the_lemmas));
  reference = λ place ty. ap nodes (search (rules, the_lemmas));
  variable = λ k path ty. ap nodes (shifts.shift_variable from by k path ty) ∙ (nodes-variable _ path ty ∙ sym (nodes-variable k path ty));
  infinite = λ i. ap nodes (search (rules, the_lemmas));
  identity = λ ty. ap nodes (search (rules, the_lemmas));
  projection = λ s a b. ap nodes (search (rules, the_lemmas));
  unary = λ o a p. ap nodes (shifts.shift_unary from by o a) ∙ (nodes-unary o (shift from by a) ∙ (ap suc p ∙ sym (nodes-unary o a)));
  binary = λ o a b p q. ap nodes (shifts.shift_binary from by o a b) ∙ (nodes-binary o (shift from by a) (shift from by b) ∙ (ap₂ (λ m n. suc (m + n)) p q ∙ sym (nodes-binary o a b)));
  many = λ o ts p. ap nodes (shifts.shift_many from by o ts) ∙ (nodes-many o (map (shift from by) ts) ∙ (ap suc (in_shift from by ts p) ∙ sym (nodes-many o ts)));
  over = λ o a b p q. ap nodes (shifts.shift_over from by o a b) ∙ (nodes-over o (shift from by a) (shift from by b) ∙ (ap₂ (λ m n. suc (m + n)) p q ∙ sym (nodes-over o a b)));
  all = λ o ty body p. ap nodes (shifts.shift_all from by o ty body) ∙ (nodes-all o ty (shift from by body) ∙ (ap suc p ∙ sym (nodes-all o ty body)));
})

-- ---- what narrow form writes

pub nodes-operation : (o : Operator) (a b : Term) → nodes (operation o a b) ≡ suc (nodes a + nodes b)
nodes-operation o a b = nodes-binary (binary.Operator o) a b

pub nodes-both : (p q : Term) → nodes (both p q) ≡ suc (nodes p + nodes q)
nodes-both p q = nodes-binary binary.Both p q

pub nodes-not : (p : Term) → nodes (negation p) ≡ suc (nodes p)
nodes-not p = nodes-unary _ p

pub nodes-whole : (k : ℕ) (ty : EbType) → nodes (whole k ty) ≡ 1
nodes-whole k ty = nodes-variable k [] ty

pub nodes-none : (t : EbType) → nodes (no_value t) ≡ 2
nodes-none t = nodes-unary _ (empty_set _) ∙ ap suc (nodes-literal _ _)

pub nodes-defined : (d x : ℕ) (v : Term) → nodes (is_defined (shift d x v)) ≡ suc (nodes v + nodes v)
nodes-defined d x v = nodes-operation _ (shift d x v) (shift d x v) ∙ ap (λ n. suc (n + n)) (nodes-shift d x v)

-- an expression beside e
pub nodes-beside : (o : Operator) (d x : ℕ) (e t : Term) → nodes (operation o e (shift d x t)) ≡ suc (nodes e + nodes t)
nodes-beside o d x e t = nodes-operation o e (shift d x t) ∙ ap (λ n. suc (nodes e + n)) (nodes-shift d x t)

-- that each of these is defined, and what joins that to more
abbrev pub given_of : List Term → ℕ
given_of [] = 0
given_of (v ∷ vs) = (2 + nodes v + nodes v) + given_of vs

joined : (p : Term) (vs : List Term) (d x : ℕ) (q : Term) → nodes (both_on p (map (λ v. is_defined (shift d x v)) vs ++ q ∷ [])) ≡ suc (nodes p + (given_of vs + nodes q))
joined p [] d x q = nodes-both p q ∙ ap (λ n. suc (nodes p + n)) (sym (zero-add (nodes q)))
joined p (v ∷ vs) d x q =
    let rest = joined (both p (is_defined (shift d x v))) vs d x q in
    let first = nodes-both p (is_defined (shift d x v)) in
    let value = nodes-defined d x v in
    omega arith

pub nodes-given : (vs : List Term) (d x : ℕ) (q : Term) → nodes (both_of (map (λ v. is_defined (shift d x v)) vs ++ q ∷ [])) ≡ given_of vs + nodes q
nodes-given [] d x q = sym (zero-add (nodes q))
nodes-given (v ∷ vs) d x q =
    let rest = joined (is_defined (shift d x v)) vs d x q in
    let value = nodes-defined d x v in
    omega arith

pub given-append : (us vs : List Term) → given_of (us ++ vs) ≡ given_of us + given_of vs
given-append [] vs = sym (zero-add (given_of vs))
given-append (u ∷ us) vs = ap (λ n. (2 + nodes u + nodes u) + n) (given-append us vs) ∙ sym (add_assoc (2 + nodes u + nodes u) (given_of us) (given_of vs))
