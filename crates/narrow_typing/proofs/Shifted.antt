-- A typed term that is put under more binders is typed alike, and what is asked of leaves is the same.
use Rattle.std.proofs.Common.{◌≡◌, ◌∙◌, refl, sym, ap, ap₂, subst, ℕ, zero, suc, ◌+◌, nat_lt, Bool, true, false, if◌then◌else◌, List, [], ◌∷◌, ◌++◌, length, map, append_assoc, append-nil, arith, rules}
use Rattle.std.proofs.lemmas.Bool.Decides.{nat_tests}
use Rattle.std.specs.List.{AllByRecursion, slice_get}
use Rattle.eb_value.specs.declared.types.EbType.{EbType}
use Rattle.eb_value.specs.declared.value.Value.{Value}
use Rattle.type_table.specs.Rows.{Sort}
use Rattle.eb_term.specs.declared.operators.Unary.{Unary}
use Rattle.eb_term.specs.declared.operators.Unary.TheVariants as unary
use Rattle.eb_term.specs.declared.operators.Binary.{Binary}
use Rattle.eb_term.specs.declared.operators.Binary.TheVariants as binary
use Rattle.eb_term.specs.declared.operators.Many.{Many}
use Rattle.eb_term.specs.declared.operators.Many.TheVariants as many
use Rattle.eb_term.specs.declared.operators.Binder.{Binder}
use Rattle.eb_term.specs.declared.operators.Binder.TheVariants as binder
use Rattle.eb_term.specs.declared.operators.Infinite.{Infinite}
use Rattle.eb_term.specs.declared.operators.Side.{Side}
use Rattle.eb_term.specs.declared.term.Term.{Term}
use Rattle.eb_term.specs.declared.term.Head.{Head-F, the_lemmas}
use Rattle.eb_term.specs.declared.term.Head.TheOpen as head
use Rattle.eb_term.specs.Terms as term
use Rattle.eb_term.specs.Terms.{by_parts}
use Rattle.eb_term.specs.Typed.{HasSort, HaveSort}
use Rattle.eb_term.specs.Typed as typing
use Rattle.narrow_terms.specs.Shifting.{shift}
use Rattle.narrow_typing.proofs.TermInduction.{ind_term}

-- ---- by the head

module _ (from by : ℕ) where
  shift-truth : (b : Bool) → shift from by (term.truth b) ≡ term.truth b
  shift-truth b = search (rules, the_lemmas)

  shift-literal : (v : Value) (t : EbType) → shift from by (term.literal v t) ≡ term.literal v t
  shift-literal v t = search (rules, the_lemmas)

  shift-reference : (place : ℕ) (t : EbType) → shift from by (term.reference place t) ≡ term.reference place t
  shift-reference place t = search (rules, the_lemmas)

  shift-variable : (k : ℕ) (path : List Side) (t : EbType) → shift from by (term.variable k path t) ≡ term.variable (if nat_lt k from then k else k + by) path t
  shift-variable k path t = search (rules, the_lemmas)

  shift-infinite : (i : Infinite) → shift from by (term.infinite i) ≡ term.infinite i
  shift-infinite i = search (rules, the_lemmas)

  shift-identity : (t : EbType) → shift from by (term.identity t) ≡ term.identity t
  shift-identity t = search (rules, the_lemmas)

  shift-projection : (s : Side) (a b : EbType) → shift from by (term.projection s a b) ≡ term.projection s a b
  shift-projection s a b = search (rules, the_lemmas)

  shift-unary : (o : Unary) (a : Term) → shift from by (term.unary o a) ≡ term.unary o (shift from by a)
  shift-unary o a = search (rules, the_lemmas)

  shift-binary : (o : Binary) (a b : Term) → shift from by (term.binary o a b) ≡ term.binary o (shift from by a) (shift from by b)
  shift-binary o a b = search (rules, the_lemmas)

  shift-many : (o : Many) (ts : List Term) → shift from by (term.many o ts) ≡ term.many o (map (shift from by) ts)
  shift-many o ts = search (rules, the_lemmas)

  shift-over : (o : Binder) (range body : Term) → shift from by (term.over o range body) ≡ term.over o (shift from by range) (shift from by body)
  shift-over o range body = search (rules, the_lemmas)

  shift-all : (o : Binder) (t : EbType) (body : Term) → shift from by (term.all o t body) ≡ term.all o t (shift from by body)
  shift-all o t body = search (rules, the_lemmas)

-- ---- what goes by the parts, and not by the numbers of binders

module _ (A : Type 0) (step : Head-F A A → A) (free : (j k : ℕ) (path : List Side) (t : EbType) → step (head.Variable j path t) ≡ step (head.Variable k path t)) (from by : ℕ) where
  abbrev of : Term → A
  of = by_parts A step

  of-variable : (k : ℕ) (path : List Side) (t : EbType) → of (term.variable k path t) ≡ step (head.Variable k path t)
  of-variable k path t = search (rules, the_lemmas)

  of-unary : (o : Unary) (a : Term) → of (term.unary o a) ≡ step (head.Unary o (of a))
  of-unary o a = search (rules, the_lemmas)

  of-binary : (o : Binary) (a b : Term) → of (term.binary o a b) ≡ step (head.Binary o (of a) (of b))
  of-binary o a b = search (rules, the_lemmas)

  of-many : (o : Many) (ts : List Term) → of (term.many o ts) ≡ step (head.Many o (map of ts))
  of-many o ts = search (rules, the_lemmas)

  of-over : (o : Binder) (range body : Term) → of (term.over o range body) ≡ step (head.Over o (of range) (of body))
  of-over o range body = search (rules, the_lemmas)

  of-all : (o : Binder) (t : EbType) (body : Term) → of (term.all o t body) ≡ step (head.All o t (of body))
  of-all o t body = search (rules, the_lemmas)

  abbrev IsKept : Term → Type 0
  IsKept t = of (shift from by t) ≡ of t

  all_kept : (ts : List Term) → AllByRecursion IsKept ts → map of (map (shift from by) ts) ≡ map of ts
  all_kept [] h = refl
  all_kept (t ∷ ts) h = ap₂ (λ x xs. x ∷ xs) h.0 (all_kept ts h.1)

  pub kept : (t : Term) → of (shift from by t) ≡ of t
  kept = ind_term IsKept (record {
    truth = λ b. ap of (shift-truth from by b);
    literal = λ v t. ap of (shift-literal from by v t);
    reference = λ place t. ap of (shift-reference from by place t);
    variable = λ k path t. ap of (shift-variable from by k path t)
        ∙ (of-variable (if nat_lt k from then k else k + by) path t ∙ (free (if nat_lt k from then k else k + by) k path t ∙ sym (of-variable k path t)));
    infinite = λ i. ap of (shift-infinite from by i);
    identity = λ t. ap of (shift-identity from by t);
    projection = λ s a b. ap of (shift-projection from by s a b);
    unary = λ o a p. ap of (shift-unary from by o a) ∙ (of-unary o (shift from by a) ∙ (ap (λ x. step (head.Unary o x)) p ∙ sym (of-unary o a)));
    binary = λ o a b p q. ap of (shift-binary from by o a b) ∙ (of-binary o (shift from by a) (shift from by b) ∙ (ap₂ (λ x y. step (head.Binary o x y)) p q ∙ sym (of-binary o a b)));
    many = λ o ts p. ap of (shift-many from by o ts) ∙ (of-many o (map (shift from by) ts) ∙ (ap (λ xs. step (head.Many o xs)) (all_kept ts p) ∙ sym (of-many o ts)));
    over = λ o range body p q. ap of (shift-over from by o range body) ∙ (of-over o (shift from by range) (shift from by body) ∙ (ap₂ (λ x y. step (head.Over o x y)) p q ∙ sym (of-over o range body)));
    all = λ o t body p. ap of (shift-all from by o t body) ∙ (of-all o t (shift from by body) ∙ (ap (λ x. step (head.All o t x)) p ∙ sym (of-all o t body)));
  })

-- ---- places past others

past : (more back : List EbType) (k : ℕ) → slice_get (more ++ back) (k + length more) ≡ slice_get back k
past [] back k = ap (slice_get back) (omega arith)
past (t ∷ more) back k = ap (slice_get (t ∷ (more ++ back))) (add_suc k (length more)) ∙ past more back k
  where
    add_suc : (a b : ℕ) → a + suc b ≡ suc (a + b)
    add_suc a b = omega arith

add_suc_left : (k by : ℕ) → suc k + by ≡ suc (k + by)
add_suc_left k by = omega arith

next_if : (t : EbType) (ts : List EbType) (b : Bool) (k by : ℕ) → slice_get (t ∷ ts) (if b then suc k else suc k + by) ≡ slice_get ts (if b then k else k + by)
next_if t ts true k by = refl
next_if t ts false k by = ap (slice_get (t ∷ ts)) (add_suc_left k by)

none_below : (k : ℕ) → nat_lt k 0 ≡ false
none_below k = grind (arith, nat_tests)

both_less : (k n : ℕ) → nat_lt (suc k) (suc n) ≡ nat_lt k n
both_less k n = grind (arith, nat_tests)

first_below : (n : ℕ) → nat_lt 0 (suc n) ≡ true
first_below n = grind (arith, nat_tests)

at_shifted : (front more back : List EbType) (k : ℕ) → slice_get (front ++ (more ++ back)) (if nat_lt k (length front) then k else k + length more) ≡ slice_get (front ++ back) k
at_shifted [] more back k = rw (none_below k) (past more back k)
at_shifted (t ∷ front) more back zero = rw (first_below (length front)) refl
at_shifted (t ∷ front) more back (suc k) = rw (both_less k (length front)) (next_if t (front ++ (more ++ back)) (nat_lt k (length front)) k (length more) ∙ at_shifted front more back k)

-- ---- the types

module _ (front more : List EbType) where
  abbrev put : Term → Term
  put = shift (length front) (length more)

  deepest : (back : List EbType) (t : EbType) → (front ++ (more ++ back)) ++ t ∷ [] ≡ front ++ (more ++ (back ++ t ∷ []))
  deepest back t = append_assoc front (more ++ back) (t ∷ []) ∙ ap (λ ts. front ++ ts) (append_assoc more back (t ∷ []))

  deeper : (types back : List EbType) (t : EbType) → types ≡ front ++ back → types ++ t ∷ [] ≡ front ++ (back ++ t ∷ [])
  deeper types back t e = ap (λ ts. ts ++ t ∷ []) e ∙ append_assoc front back (t ∷ [])

  body : (back : List EbType) (t : EbType) (a : Term) (s : Sort) → HasSort (front ++ (more ++ (back ++ t ∷ []))) a s → HasSort ((front ++ (more ++ back)) ++ t ∷ []) a s
  body back t a s h = subst (λ ts. HasSort ts a s) (sym (deepest back t)) h

  so : (back : List EbType) (a b : Term) (s : Sort) → a ≡ b → HasSort (front ++ (more ++ back)) b s → HasSort (front ++ (more ++ back)) a s
  so back a b s e h = subst (λ x. HasSort (front ++ (more ++ back)) x s) (sym e) h

  mutual
    typed_under : {types : List EbType} {t : Term} {s : Sort} → HasSort types t s → (back : List EbType) → types ≡ front ++ back → HasSort (front ++ (more ++ back)) (put t) s
    typed_under (typing.truth b) back e = so back _ _ _ (shift-truth (length front) (length more) b) (typing.truth b)
    typed_under (typing.literal v t) back e = so back _ _ _ (shift-literal (length front) (length more) v t) (typing.literal v t)
    typed_under (typing.reference place t) back e = so back _ _ _ (shift-reference (length front) (length more) place t) (typing.reference place t)
    typed_under (typing.variable k path whole t p q) back e = so back _ _ _ (shift-variable (length front) (length more) k path t)
        (typing.variable (if nat_lt k (length front) then k else k + length more) path whole t (at_shifted front more back k ∙ (ap (λ ts. slice_get ts k) (sym e) ∙ p)) q)
    typed_under (typing.infinite i) back e = so back _ _ _ (shift-infinite (length front) (length more) i) (typing.infinite i)
    typed_under (typing.identity t) back e = so back _ _ _ (shift-identity (length front) (length more) t) (typing.identity t)
    typed_under (typing.projection x a b) back e = so back _ _ _ (shift-projection (length front) (length more) x a b) (typing.projection x a b)
    typed_under (typing.prefix {a = a} o v d) back e = so back _ _ _ (shift-unary (length front) (length more) (unary.Prefix o) a) (typing.prefix o v (typed_under d back e))
    typed_under (typing.call {a = a} o v d) back e = so back _ _ _ (shift-unary (length front) (length more) (unary.Call o) a) (typing.call o v (typed_under d back e))
    typed_under (typing.inverse {a = a} v d) back e = so back _ _ _ (shift-unary (length front) (length more) unary.Inverse a) (typing.inverse v (typed_under d back e))
    typed_under (typing.defined {a = a} t d) back e = so back _ _ _ (shift-unary (length front) (length more) unary.Defined a) (typing.defined t (typed_under d back e))
    typed_under (typing.functional {a = a} s t d) back e = so back _ _ _ (shift-unary (length front) (length more) unary.Functional a) (typing.functional s t (typed_under d back e))
    typed_under (typing.part {a = a} x s t d) back e = so back _ _ _ (shift-unary (length front) (length more) (unary.Part x) a) (typing.part x s t (typed_under d back e))
    typed_under (typing.operator {a = a} {b = b} o v d g) back e = so back _ _ _ (shift-binary (length front) (length more) (binary.Operator o) a b) (typing.operator o v (typed_under d back e) (typed_under g back e))
    typed_under (typing.both {p = p} {q = q} d g) back e = so back _ _ _ (shift-binary (length front) (length more) binary.Both p q) (typing.both (typed_under d back e) (typed_under g back e))
    typed_under (typing.«if» {p = p} {s = s} t d g) back e = so back _ _ _ (shift-binary (length front) (length more) binary.If p s) (typing.«if» t (typed_under d back e) (typed_under g back e))
    typed_under (typing.extension {e = x} {es = xs} t d) back e = so back _ _ _ (shift-many (length front) (length more) many.Extension (x ∷ xs)) (typing.extension t (all_under d back e))
    typed_under (typing.partition {e = x} {es = xs} t d) back e = so back _ _ _ (shift-many (length front) (length more) many.Partition (x ∷ xs)) (typing.partition t (all_under d back e))
    typed_under (typing.quantified_over {bound = types} {e = x} {p = p} o t i d g) back e = so back _ _ _ (shift-over (length front) (length more) o x p)
        (typing.quantified_over o t i (typed_under d back e) (body back t (put p) _ (typed_under g (back ++ t ∷ []) (deeper types back t e))))
    typed_under (typing.quantified {bound = types} {p = p} o t i g) back e = so back _ _ _ (shift-all (length front) (length more) o t p)
        (typing.quantified o t i (body back t (put p) _ (typed_under g (back ++ t ∷ []) (deeper types back t e))))
    typed_under (typing.collected_over {bound = types} {e = x} {s = s} t u d g) back e = so back _ _ _ (shift-over (length front) (length more) binder.Collect x s)
        (typing.collected_over t u (typed_under d back e) (body back t (put s) _ (typed_under g (back ++ t ∷ []) (deeper types back t e))))
    typed_under (typing.collected {bound = types} {s = s} t u g) back e = so back _ _ _ (shift-all (length front) (length more) binder.Collect t s)
        (typing.collected t u (body back t (put s) _ (typed_under g (back ++ t ∷ []) (deeper types back t e))))

    all_under : {types : List EbType} {es : List Term} {s : Sort} → HaveSort types es s → (back : List EbType) → types ≡ front ++ back → HaveSort (front ++ (more ++ back)) (map put es) s
    all_under typing.none back e = typing.none
    all_under (typing.more d ds) back e = typing.more (typed_under d back e) (all_under ds back e)

  pub typed_shifted : (a : Term) (s : Sort) → HasSort front a s → HasSort (front ++ more) (put a) s
  typed_shifted a s d = subst (λ ts. HasSort (front ++ ts) (put a) s) (append-nil more) (typed_under d [] (sym (append-nil front)))
