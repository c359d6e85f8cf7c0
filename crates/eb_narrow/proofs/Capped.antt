-- Counts taken as far as a machine's number goes are the true ones as far as that.
use Rattle.std.proofs.Common.{◌≡◌, ◌∙◌, refl, sym, ap, ap₂, subst, ℕ, zero, suc, ◌+◌, ◌*◌, ◌-◌, ◌^◌, ◌<◌, ◌≤◌, min, Bool, true, false, ◌&&◌, ◌||◌, if◌then◌else◌, List, [], ◌∷◌, ◌++◌, map, length, take, drop, get_or, add-one, drop-cons, ◌⊎◌, inl, inr, fold, sum, mul-le-mul, mul_comm, arith, rules}
use Rattle.std.proofs.lemmas.List.{take_more}
use Rattle.std.specs.Prelude.{⊤}
use Rattle.std.specs.List.{AllByRecursion}
use Rattle.eb_syntax.specs.declared.ast.Prefix.TheVariants as prefix
use Rattle.eb_syntax.specs.declared.ast.Call.{Call}
use Rattle.eb_syntax.specs.declared.ast.Call.TheVariants as call
use Rattle.eb_syntax.specs.declared.ast.Operator.{Operator}
use Rattle.eb_syntax.specs.declared.ast.Operator.TheVariants as op
use Rattle.eb_value.specs.declared.types.EbType.{EbType}
use Rattle.eb_term.specs.declared.operators.Unary.{Unary}
use Rattle.eb_term.specs.declared.operators.Unary.TheVariants as unary
use Rattle.eb_term.specs.declared.operators.Binary.{Binary}
use Rattle.eb_term.specs.declared.operators.Binary.TheVariants as binary
use Rattle.eb_term.specs.declared.operators.Binder.{Binder}
use Rattle.eb_term.specs.declared.operators.Binder.TheVariants as binder
use Rattle.eb_term.specs.declared.operators.Many.{Many}
use Rattle.eb_term.specs.declared.operators.Many.TheVariants as many
use Rattle.eb_term.specs.declared.operators.Infinite.{Infinite}
use Rattle.eb_term.specs.declared.operators.Infinite.TheVariants as infinite
use Rattle.eb_term.specs.declared.term.Term.{Term, fold_out-Term}
use Rattle.eb_term.specs.declared.term.Head.{the_lemmas}
use Rattle.eb_term.specs.declared.term.Head.TheVariants as head
use Rattle.eb_term.specs.Terms as term
use Rattle.eb_meaning.specs.Meaning.{is_product, is_arrow, is_total, is_surjective, is_function, is_injection}
use Rattle.eb_narrow.specs.declared.counts.Linear.{Linear}
use Rattle.eb_narrow.specs.declared.counts.Counts.{Counts}
use Rattle.eb_narrow.specs.declared.counts.Parts.{Parts}
use Rattle.eb_narrow.specs.declared.counts.Parts.TheVariants as parts
use Rattle.eb_narrow.specs.steps.Counting as count
use Rattle.eb_narrow.specs.steps.Counting.{cap, capped}
use Rattle.eb_narrow.proofs.TermInduction.{ind_term}

-- ---- sums and products

lifted : (a b : ℕ) → (a ≤ b) ⊎ (b ≤ a) → (suc a ≤ suc b) ⊎ (suc b ≤ suc a)
lifted a b (inl h) = inl (omega arith)
lifted a b (inr h) = inr (omega arith)

order : (a b : ℕ) → (a ≤ b) ⊎ (b ≤ a)
order zero b = inl (omega arith)
order (suc a) zero = inr (omega arith)
order (suc a) (suc b) = lifted a b (order a b)

capped_zero : (m t : ℕ) → min (min t m * min zero m) m ≡ min (t * zero) m
capped_zero m t =
    let none : min zero m ≡ zero = omega arith in
    ap (λ n. min (min t m * n) m) none ∙ (let a : min t m * zero ≡ zero = omega arith in let b : t * zero ≡ zero = omega arith in omega arith)

-- a factor that is cut off, and one that isn't 0
capped_more : (m t n : ℕ) → m ≤ t → 0 < m → min (min t m * min (suc n) m) m ≡ min (t * suc n) m
capped_more m t n h pos =
    let a : m ≤ min t m = omega arith in
    let b : 1 ≤ min (suc n) m = omega arith in
    let c : 1 ≤ suc n = omega arith in
    let left : m * 1 ≤ min t m * min (suc n) m = mul-le-mul a b in
    let right : m * 1 ≤ t * suc n = mul-le-mul h c in
    omega arith

capped_less : (m t n : ℕ) → t ≤ m → n ≤ m → min (min t m * min n m) m ≡ min (t * n) m
capped_less m t n h k =
    let a : min t m ≡ t = omega arith in
    let b : min n m ≡ n = omega arith in
    ap₂ (λ x y. min (x * y) m) a b

swapped : (m t n : ℕ) → min (min n m * min t m) m ≡ min (n * t) m → min (min t m * min n m) m ≡ min (t * n) m
swapped m t n h = ap (λ x. min x m) (mul_comm (min t m) (min n m)) ∙ (h ∙ ap (λ x. min x m) (mul_comm n t))

capped_from : (m t n : ℕ) → 0 < m → (t ≤ m) ⊎ (m ≤ t) → (n ≤ m) ⊎ (m ≤ n) → min (min t m * min n m) m ≡ min (t * n) m
capped_from m t n pos (inl h) (inl k) = capped_less m t n h k
capped_from m t zero pos (inr h) k = capped_zero m t
capped_from m t (suc n) pos (inr h) k = capped_more m t n h pos
capped_from m zero n pos (inl h) (inr k) = swapped m zero n (capped_zero m n)
capped_from m (suc t) n pos (inl h) (inr k) = swapped m (suc t) n (capped_more m n t k pos)

product_cap : (t n : ℕ) → cap (cap t * cap n) ≡ cap (t * n)
unfolding cap
product_cap t n = capped_from (2 ^ 64 - 1) t n (omega arith) (order t (2 ^ 64 - 1)) (order n (2 ^ 64 - 1))

-- taken twice is as once
again : (n : ℕ) → cap (cap n) ≡ cap n
unfolding cap
again n = omega arith

pub sum_cap : (a b : ℕ) → cap (cap a + b) ≡ cap (a + b)
unfolding cap
sum_cap a b = omega arith

both_cap : (a b : ℕ) → cap (cap a + cap b) ≡ cap (a + b)
unfolding cap
both_cap a b = omega arith

pub of_zero : cap 0 ≡ 0
unfolding cap
of_zero = omega arith

of_one : cap 1 ≡ 1
unfolding cap
of_one = omega arith

of_two : cap 2 ≡ 2
unfolding cap
of_two = omega arith

of_five : cap 5 ≡ 5
unfolding cap
of_five = omega arith

of_eight : cap 8 ≡ 8
unfolding cap
of_eight = omega arith

-- the same as far as that, place by place
abbrev Alike : List ℕ → List ℕ → Type 0
Alike [] [] = ⊤
Alike (x ∷ xs) (y ∷ ys) = (cap x ≡ cap y) × Alike xs ys
Alike _ _ = ⊥

plus : (a b x y : ℕ) → cap a ≡ cap b → cap x ≡ cap y → cap (a + x) ≡ cap (b + y)
plus a b x y h k = sym (both_cap a x) ∙ (ap₂ (λ m n. cap (m + n)) h k ∙ both_cap b y)

sums_on : (a b : ℕ) (xs ys : List ℕ) → cap a ≡ cap b → Alike xs ys → cap (fold (λ m n. m + n) a xs) ≡ cap (fold (λ m n. m + n) b ys)
sums_on a b [] [] h k = h
sums_on a b [] (y ∷ ys) h k = elim k [ ]
sums_on a b (x ∷ xs) [] h k = elim k [ ]
sums_on a b (x ∷ xs) (y ∷ ys) h k = sums_on (a + x) (b + y) xs ys (plus a b x y h k.0) k.1

sums : (xs ys : List ℕ) → Alike xs ys → cap (sum xs) ≡ cap (sum ys)
sums xs ys h = sums_on 0 0 xs ys refl h

-- ---- counts

-- a number that was taken as far as that
raised : (x X : ℕ) → x ≡ cap X → cap x ≡ cap X
raised x X h = ap cap h ∙ again X

abbrev CappedLine : Linear → Linear → Type 0
CappedLine l L = (l.base ≡ cap L.base) × (l.times ≡ cap L.times)

pub record Capped (c C : Counts) : Type 0 where
  pub term : c.term ≡ cap C.term
  pub is_form : c.is_form ≡ C.is_form
  pub given : c.given ≡ cap C.given
  pub has : CappedLine c.has C.has
  pub has_members : CappedLine c.has_members C.has_members
  pub is_all : CappedLine c.is_all C.is_all

beside : (n N : ℕ) → n ≡ cap N → CappedLine (count.beside capped n) (count.beside sum N)
beside n N h = (sums (1 ∷ n ∷ []) (1 ∷ N ∷ []) (refl, (raised _ _ h, tt)), sym of_one)

expression : (n N : ℕ) → n ≡ cap N → Capped (count.expression capped n) (count.expression sum N)
expression n N h = record {
  term = h;
  is_form = refl;
  given = sums (2 ∷ n ∷ n ∷ []) (2 ∷ N ∷ N ∷ []) (refl, (raised _ _ h, (raised _ _ h, tt)));
  has = beside n N h;
  has_members = beside n N h;
  is_all = beside n N h;
}

form : (g G : ℕ) (l L : Linear) → g ≡ cap G → CappedLine l L → Capped (count.form capped g l) (count.form sum G L)
form g G l L h k = record {
  term = sym of_two;
  is_form = refl;
  given = h;
  has = k;
  has_members = (sums (3 ∷ g ∷ l.base ∷ l.times ∷ []) (3 ∷ G ∷ L.base ∷ L.times ∷ []) (refl, (raised _ _ h, (raised _ _ k.0, (raised _ _ k.1, tt)))), sym of_one);
  is_all = (sums (2 ∷ g ∷ []) (2 ∷ G ∷ []) (refl, (raised _ _ h, tt)), sym of_two);
}

infinite_set : (i : Infinite) → Capped (count.infinite_set capped i) (count.infinite_set sum i)
infinite_set infinite.Integers = record {
  term = sym of_two;
  is_form = refl;
  given = sym of_zero;
  has = (sym of_one, sym of_two);
  has_members = (sym of_one, sym of_two);
  is_all = (sym of_two, sym of_two);
}
infinite_set infinite.Naturals = form 0 0 (count.linear 2 1) (count.linear 2 1) (sym of_zero) (sym of_two, sym of_one)
infinite_set infinite.PositiveNaturals = form 0 0 (count.linear 2 1) (count.linear 2 1) (sym of_zero) (sym of_two, sym of_one)

at : (l L : Linear) (n N : ℕ) → CappedLine l L → n ≡ cap N → count.at capped l n ≡ cap (count.at sum L N)
at l L n N h k = sums (l.base ∷ l.times * n ∷ []) (L.base ∷ L.times * N ∷ []) (raised _ _ h.0, (ap₂ (λ x y. cap (x * y)) h.1 k ∙ product_cap L.times N, tt))

module _ (c C : Counts) (h : Capped c C) where
  more : (n : ℕ) → capped (n ∷ c.term ∷ []) ≡ cap (sum (n ∷ C.term ∷ []))
  more n = sums (n ∷ c.term ∷ []) (n ∷ C.term ∷ []) (refl, (raised _ _ h.term, tt))

  one_more : Capped (count.expression capped (capped (1 ∷ c.term ∷ []))) (count.expression sum (sum (1 ∷ C.term ∷ [])))
  one_more = expression _ _ (more 1)

  by_call : (w : Call) → Capped (count.by_call capped w c) (count.by_call sum w C)
  by_call call.PowerSet = form c.given C.given c.has_members C.has_members h.given h.has_members
  by_call call.NonemptyPowerSet = form c.given C.given _ _ h.given
      (sums (4 ∷ c.has_members.base ∷ []) (4 ∷ C.has_members.base ∷ []) (refl, (raised _ _ h.has_members.0, tt)), sums (1 ∷ c.has_members.times ∷ []) (1 ∷ C.has_members.times ∷ []) (refl, (raised _ _ h.has_members.1, tt)))
  by_call call.Finite = expression _ _ (sums (1 ∷ c.term ∷ c.term ∷ []) (1 ∷ C.term ∷ C.term ∷ []) (refl, (raised _ _ h.term, (raised _ _ h.term, tt))))
  by_call call.GeneralizedUnion = expression _ _ (more 2)
  by_call call.BoolOf = one_more
  by_call call.Cardinality = one_more
  by_call call.Minimum = one_more
  by_call call.Maximum = one_more
  by_call call.Domain = one_more
  by_call call.Range = one_more
  by_call call.GeneralizedIntersection = one_more

  by_unary : (o : Unary) → Capped (count.by_unary capped o c) (count.by_unary sum o C)
  by_unary (unary.Prefix prefix.Not) = one_more
  by_unary (unary.Prefix prefix.Minus) = expression _ _ (more 2)
  by_unary (unary.Call w) = by_call w
  by_unary unary.Inverse = one_more
  by_unary unary.Defined = one_more
  by_unary unary.Functional = one_more
  by_unary (unary.Part s) = one_more

covers : (b : Bool) (c C : Counts) → Capped c C → CappedLine (count.covers b c) (count.covers b C)
covers true c C h = h.is_all
covers false c C h = h.has_members

one : (n N : ℕ) → n ≡ cap N → capped (1 ∷ n ∷ []) ≡ cap (sum (1 ∷ N ∷ []))
one n N h = sums (1 ∷ n ∷ []) (1 ∷ N ∷ []) (refl, (raised _ _ h, tt))

arrow_has : (o : Operator) (l L m M : Linear) → CappedLine l L → CappedLine m M → CappedLine (count.arrow_has capped o l m) (count.arrow_has sum o L M)
arrow_has o l L m M h k = (
  sums (1 ∷ l.base ∷ l.times ∷ m.base ∷ m.times ∷ count.if_asked (is_function o) 2 ∷ count.if_asked (is_injection o) 3 ∷ []) (1 ∷ L.base ∷ L.times ∷ M.base ∷ M.times ∷ count.if_asked (is_function o) 2 ∷ count.if_asked (is_injection o) 3 ∷ [])
      (refl, (raised _ _ h.0, (raised _ _ h.1, (raised _ _ k.0, (raised _ _ k.1, (refl, (refl, tt))))))),
  sums (l.times ∷ m.times ∷ count.if_asked (is_function o) 1 ∷ count.if_asked (is_injection o) 1 ∷ []) (L.times ∷ M.times ∷ count.if_asked (is_function o) 1 ∷ count.if_asked (is_injection o) 1 ∷ [])
      (raised _ _ h.1, (raised _ _ k.1, (refl, (refl, tt)))),
)

module _ (c C k K : Counts) (h : Capped c C) (g : Capped k K) where
  operation : (n : ℕ) → capped (n ∷ c.term ∷ k.term ∷ []) ≡ cap (sum (n ∷ C.term ∷ K.term ∷ []))
  operation n = sums (n ∷ c.term ∷ k.term ∷ []) (n ∷ C.term ∷ K.term ∷ []) (refl, (raised _ _ h.term, (raised _ _ g.term, tt)))

  proper_at : (p q : Bool) → p ≡ q
      → (if p then count.at capped k.has_members c.term else capped (4 ∷ c.term ∷ c.term ∷ k.term ∷ k.term ∷ []))
      ≡ cap (if q then count.at sum K.has_members C.term else sum (4 ∷ C.term ∷ C.term ∷ K.term ∷ K.term ∷ []))
  proper_at true true e = at k.has_members K.has_members c.term C.term g.has_members h.term
  proper_at false false e = sums (4 ∷ c.term ∷ c.term ∷ k.term ∷ k.term ∷ []) (4 ∷ C.term ∷ C.term ∷ K.term ∷ K.term ∷ []) (refl, (raised _ _ h.term, (raised _ _ h.term, (raised _ _ g.term, (raised _ _ g.term, tt)))))
  proper_at true false e = let none : true ≡ false = e in absurd cc
  proper_at false true e = let none : false ≡ true = e in absurd cc

  proper_subset : count.proper_subset capped c k ≡ cap (count.proper_subset sum C K)
  proper_subset = proper_at k.is_form K.is_form g.is_form

  relation : (o : Operator) → count.relation capped o c k ≡ cap (count.relation sum o C K)
  relation op.Unequal = operation 2
  relation op.Less = operation 2
  relation op.Greater = operation 2
  relation op.MemberOf = at k.has K.has c.term C.term g.has h.term
  relation op.NotMemberOf = one _ _ (at k.has K.has c.term C.term g.has h.term)
  relation op.SubsetOf = at k.has_members K.has_members c.term C.term g.has_members h.term
  relation op.NotSubsetOf = one _ _ (at k.has_members K.has_members c.term C.term g.has_members h.term)
  relation op.ProperSubsetOf = proper_subset
  relation op.NotProperSubsetOf = one _ _ proper_subset
  relation _ = operation 1

  interval : Capped (count.interval capped c k) (count.interval sum C K)
  interval = let all = expression _ _ (operation 1) in record {
    term = all.term;
    is_form = refl;
    given = all.given;
    has = (operation 3, sym of_two);
    has_members = all.has_members;
    is_all = all.is_all;
  }

  by_relation : (o : Operator) → Capped (count.by_relation capped o c k) (count.by_relation sum o C K)
  by_relation op.UpTo = interval
  by_relation o = expression _ _ (relation o)

  givens : capped (c.given ∷ k.given ∷ []) ≡ cap (sum (C.given ∷ K.given ∷ []))
  givens = sums (c.given ∷ k.given ∷ []) (C.given ∷ K.given ∷ []) (raised _ _ h.given, (raised _ _ g.given, tt))

  product_form : Capped (count.product_form capped c k) (count.product_form sum C K)
  product_form = form _ _ _ _ givens (
    sums (1 ∷ c.has.base ∷ c.has.times ∷ k.has.base ∷ k.has.times ∷ []) (1 ∷ C.has.base ∷ C.has.times ∷ K.has.base ∷ K.has.times ∷ []) (refl, (raised _ _ h.has.0, (raised _ _ h.has.1, (raised _ _ g.has.0, (raised _ _ g.has.1, tt))))),
    sums (c.has.times ∷ k.has.times ∷ []) (C.has.times ∷ K.has.times ∷ []) (raised _ _ h.has.1, (raised _ _ g.has.1, tt)),
  )

  arrow_form : (o : Operator) → Capped (count.arrow_form capped o c k) (count.arrow_form sum o C K)
  arrow_form o = form _ _ _ _ givens (arrow_has o _ _ _ _ (covers (is_total o) c C h) (covers (is_surjective o) k K g))

  picked : (p q r : Bool) → q ≡ r → (o : Operator)
      → Capped (if p then count.arrow_form capped o c k else (if q then count.product_form capped c k else count.by_relation capped o c k))
      (if p then count.arrow_form sum o C K else (if r then count.product_form sum C K else count.by_relation sum o C K))
  picked true q r e o = arrow_form o
  picked false true true e o = product_form
  picked false false false e o = by_relation o
  picked false true false e o = let none : true ≡ false = e in absurd cc
  picked false false true e o = let none : false ≡ true = e in absurd cc

  by_binary : (o : Binary) → Capped (count.by_binary capped o c k) (count.by_binary sum o C K)
  by_binary (binary.Operator o) = picked (is_arrow o) (is_product o && (c.is_form || k.is_form)) (is_product o && (C.is_form || K.is_form)) (ap₂ (λ x y. is_product o && (x || y)) h.is_form g.is_form) o
  by_binary binary.Both = expression _ _ (operation 1)
  by_binary binary.If = expression _ _ (operation 1)

-- ---- many parts

abbrev AllCapped : List ℕ → List ℕ → Type 0
AllCapped [] [] = ⊤
AllCapped (n ∷ ns) (N ∷ Ns) = (n ≡ cap N) × AllCapped ns Ns
AllCapped _ _ = ⊥

alike : (ns Ns : List ℕ) → AllCapped ns Ns → Alike ns Ns
alike [] [] h = tt
alike [] (N ∷ Ns) h = elim h [ ]
alike (n ∷ ns) [] h = elim h [ ]
alike (n ∷ ns) (N ∷ Ns) h = (raised _ _ h.0, alike ns Ns h.1)

abbrev CappedParts : Parts → Parts → Type 0
CappedParts parts.Nothing parts.Nothing = ⊤
CappedParts (parts.Whole w) (parts.Whole W) = w ≡ cap W
CappedParts (parts.Sets u a) (parts.Sets U A) = (u ≡ cap U) × (a ≡ cap A)
CappedParts _ _ = ⊥

with_part : (p P : Parts) (n N : ℕ) → CappedParts p P → n ≡ cap N → CappedParts (count.with_part capped p n) (count.with_part sum P N)
with_part parts.Nothing parts.Nothing n N h k = k
with_part (parts.Whole w) (parts.Whole W) n N h k = (k, sums (1 ∷ w ∷ n ∷ []) (1 ∷ W ∷ N ∷ []) (refl, (raised _ _ h, (raised _ _ k, tt))))
with_part (parts.Sets u a) (parts.Sets U A) n N h k = (
  sums (1 ∷ u ∷ n ∷ []) (1 ∷ U ∷ N ∷ []) (refl, (raised _ _ h.0, (raised _ _ k, tt))),
  sums (5 ∷ a ∷ u ∷ n ∷ n ∷ []) (5 ∷ A ∷ U ∷ N ∷ N ∷ []) (refl, (raised _ _ h.1, (raised _ _ h.0, (raised _ _ k, (raised _ _ k, tt))))),
)
with_part parts.Nothing (parts.Whole W) n N h k = elim h [ ]
with_part parts.Nothing (parts.Sets U A) n N h k = elim h [ ]
with_part (parts.Whole w) parts.Nothing n N h k = elim h [ ]
with_part (parts.Whole w) (parts.Sets U A) n N h k = elim h [ ]
with_part (parts.Sets u a) parts.Nothing n N h k = elim h [ ]
with_part (parts.Sets u a) (parts.Whole W) n N h k = elim h [ ]

all_parts : (p P : Parts) → CappedParts p P → count.all_parts capped p ≡ cap (count.all_parts sum P)
all_parts parts.Nothing parts.Nothing h = sym of_one
all_parts (parts.Whole w) (parts.Whole W) h = sums (2 ∷ w ∷ []) (2 ∷ W ∷ []) (refl, (raised _ _ h, tt))
all_parts (parts.Sets u a) (parts.Sets U A) h = h.1
all_parts parts.Nothing (parts.Whole W) h = elim h [ ]
all_parts parts.Nothing (parts.Sets U A) h = elim h [ ]
all_parts (parts.Whole w) parts.Nothing h = elim h [ ]
all_parts (parts.Whole w) (parts.Sets U A) h = elim h [ ]
all_parts (parts.Sets u a) parts.Nothing h = elim h [ ]
all_parts (parts.Sets u a) (parts.Whole W) h = elim h [ ]

partition_from : (p P : Parts) (ns Ns : List ℕ) → CappedParts p P → AllCapped ns Ns → count.partition_from capped p ns ≡ cap (count.partition_from sum P Ns)
partition_from p P [] [] h e = all_parts p P h
partition_from p P [] (N ∷ Ns) h e = elim e [ ]
partition_from p P (n ∷ ns) [] h e = elim e [ ]
partition_from p P (n ∷ ns) (N ∷ Ns) h e = partition_from (count.with_part capped p n) (count.with_part sum P N) ns Ns (with_part p P n N h e.0) e.1

by_many : (o : Many) (ns Ns : List ℕ) → AllCapped ns Ns → Capped (count.by_many capped o ns) (count.by_many sum o Ns)
by_many many.Extension ns Ns h = expression _ _ (one _ _ (sums ns Ns (alike ns Ns h)))
by_many many.Partition ns Ns h = expression _ _ (partition_from parts.Nothing parts.Nothing ns Ns tt h)

each : (ts : List Term) → AllByRecursion (λ t. Capped (count.counted capped t) (count.counted sum t)) ts
    → AllCapped (map (λ c. c.term) (map (count.counted capped) ts)) (map (λ c. c.term) (map (count.counted sum) ts))
each [] h = tt
each (t ∷ ts) h = (h.0.term, each ts h.1)

-- ---- by the head

by_range : (o : Binder) (r R n N : ℕ) → r ≡ cap R → n ≡ cap N → count.by_range capped o r n ≡ cap (count.by_range sum o R N)
by_range binder.ForAll r R n N h k = sums (3 ∷ r ∷ n ∷ []) (3 ∷ R ∷ N ∷ []) (refl, (raised _ _ h, (raised _ _ k, tt)))
by_range binder.Exists r R n N h k = sums (1 ∷ r ∷ n ∷ []) (1 ∷ R ∷ N ∷ []) (refl, (raised _ _ h, (raised _ _ k, tt)))
by_range binder.Collect r R n N h k = sums (1 ∷ r ∷ n ∷ []) (1 ∷ R ∷ N ∷ []) (refl, (raised _ _ h, (raised _ _ k, tt)))

moved : (t : Term) (c C : Counts) → count.counted capped t ≡ c → count.counted sum t ≡ C → Capped c C → Capped (count.counted capped t) (count.counted sum t)
moved t c C p q k = subst (λ x. Capped x (count.counted sum t)) (sym p) (subst (λ x. Capped c x) (sym q) k)

unary_is : (S : count.Sum) (o : Unary) (a : Term) → count.counted S (term.unary o a) ≡ count.by_unary S o (count.counted S a)
unary_is S o a = search (rules, the_lemmas)

binary_is : (S : count.Sum) (o : Binary) (a b : Term) → count.counted S (term.binary o a b) ≡ count.by_binary S o (count.counted S a) (count.counted S b)
binary_is S o a b = search (rules, the_lemmas)

many_is : (S : count.Sum) (o : Many) (ts : List Term) → count.counted S (term.many o ts) ≡ count.by_many S o (map (λ c. c.term) (map (count.counted S) ts))
many_is S o ts = search (rules, the_lemmas)

over_is : (S : count.Sum) (o : Binder) (s body : Term) → count.counted S (term.over o s body) ≡ count.expression S (count.by_range S o (count.counted S s).term (count.counted S body).term)
over_is S o s body = search (rules, the_lemmas)

all_is : (S : count.Sum) (o : Binder) (ty : EbType) (body : Term) → count.counted S (term.all o ty body) ≡ count.expression S (count.by_range S o 0 (count.counted S body).term)
all_is S o ty body = search (rules, the_lemmas)

pub is_capped : (t : Term) → Capped (count.counted capped t) (count.counted sum t)
is_capped = ind_term (λ t. Capped (count.counted capped t) (count.counted sum t)) (record {
  truth = λ b. moved (term.truth b) (count.expression capped 1) (count.expression sum 1) (search (rules, the_lemmas)) (search (rules, the_lemmas)) (expression 1 1 (sym of_one));
  literal = λ v ty. moved (term.literal v ty) (count.expression capped 1) (count.expression sum 1) (search (rules, the_lemmas)) (search (rules, the_lemmas)) (expression 1 1 (sym of_one));
  reference = λ place ty. moved (term.reference place ty) (count.expression capped 1) (count.expression sum 1) (search (rules, the_lemmas)) (search (rules, the_lemmas)) (expression 1 1 (sym of_one));
  variable = λ k path ty. moved (term.variable k path ty) (count.expression capped 1) (count.expression sum 1) (search (rules, the_lemmas)) (search (rules, the_lemmas)) (expression 1 1 (sym of_one));
  infinite = λ i. moved (term.infinite i) (count.infinite_set capped i) (count.infinite_set sum i) (search (rules, the_lemmas)) (search (rules, the_lemmas)) (infinite_set i);
  identity = λ ty. moved (term.identity ty) (count.expression capped 5) (count.expression sum 5) (search (rules, the_lemmas)) (search (rules, the_lemmas)) (expression 5 5 (sym of_five));
  projection = λ s a b. moved (term.projection s a b) (count.expression capped 8) (count.expression sum 8) (search (rules, the_lemmas)) (search (rules, the_lemmas)) (expression 8 8 (sym of_eight));
  unary = λ o a p. moved (term.unary o a) _ _ (unary_is capped o a) (unary_is sum o a) (by_unary (count.counted capped a) (count.counted sum a) p o);
  binary = λ o a b p q. moved (term.binary o a b) _ _ (binary_is capped o a b) (binary_is sum o a b) (by_binary (count.counted capped a) (count.counted sum a) (count.counted capped b) (count.counted sum b) p q o);
  many = λ o ts p. moved (term.many o ts) _ _ (many_is capped o ts) (many_is sum o ts) (by_many o (map (λ c. c.term) (map (count.counted capped) ts)) (map (λ c. c.term) (map (count.counted sum) ts)) (each ts p));
  over = λ o s body p q. moved (term.over o s body) _ _ (over_is capped o s body) (over_is sum o s body) (expression _ _ (by_range o (count.counted capped s).term (count.counted sum s).term (count.counted capped body).term (count.counted sum body).term p.term q.term));
  all = λ o ty body p. moved (term.all o ty body) _ _ (all_is capped o ty body) (all_is sum o ty body) (expression _ _ (by_range o 0 0 (count.counted capped body).term (count.counted sum body).term (sym of_zero) p.term));
})

-- ---- the next of a list

fold_push : (n : ℕ) (ns : List ℕ) (m : ℕ) → fold (λ a b. a + b) n (ns ++ m ∷ []) ≡ fold (λ a b. a + b) n ns + m
fold_push n [] m = refl
fold_push n (x ∷ ns) m = fold_push (n + x) ns m

terms_push : (ts : List Term) (t : Term) → count.each_term capped (ts ++ t ∷ []) ≡ count.each_term capped ts ++ (count.counted capped t).term ∷ []
terms_push [] t = refl
terms_push (s ∷ ts) t = ap (λ ns. (count.counted capped s).term ∷ ns) (terms_push ts t)

pub sum_next : (ns : List ℕ) (i : ℕ) (d : ℕ) → i < length ns → cap (capped (take i ns) + get_or ns i d) ≡ capped (take (i + 1) ns)
sum_next ns i d h = sum_cap (sum (take i ns)) (get_or ns i d) ∙ sym (ap capped (take_more ns i d h) ∙ ap cap (fold_push 0 (take i ns) (get_or ns i d)))

pub term_next : (ts : List Term) (i : ℕ) (d : Term) → i < length ts → cap (capped (count.each_term capped (take i ts)) + (count.counted capped (get_or ts i d)).term) ≡ capped (count.each_term capped (take (i + 1) ts))
term_next ts i d h =
    sum_cap (sum (count.each_term capped (take i ts))) (count.counted capped (get_or ts i d)).term
    ∙ sym (ap (λ us. capped (count.each_term capped us)) (take_more ts i d h) ∙ (ap capped (terms_push (take i ts) (get_or ts i d)) ∙ ap cap (fold_push 0 (count.each_term capped (take i ts)) (count.counted capped (get_or ts i d)).term)))

pub part_next : (p : Parts) (ts : List Term) (i : ℕ) (d : Term) → i < length ts
    → count.partition_from capped p (count.each_term capped (drop i ts))
    ≡ count.partition_from capped (count.with_part capped p (count.counted capped (get_or ts i d)).term) (count.each_term capped (drop (i + 1) ts))
part_next p ts i d h =
    let next : drop i ts ≡ get_or ts i d ∷ drop (i + 1) ts = rw add-one (drop-cons ts i d h) in
    ap (λ us. count.partition_from capped p (count.each_term capped us)) next

pub many_head : (t : Term) (o : Many) (ts : List Term) → t.head ≡ head.Many o ts → count.counted capped t ≡ count.by_many capped o (count.each_term capped ts)
many_head t o ts p = search (rules, fold_out-Term, the_lemmas, p)
