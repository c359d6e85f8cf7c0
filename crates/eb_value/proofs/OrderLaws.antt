-- The order of values: its equations at the constructors, and that it is total.
use Rattle.std.proofs.Common.{◌≡◌, ◌≢◌, ◌∙◌, Bool, true, false, List, [], ◌∷◌, ℕ, ◌<◌, ◌≤◌, ℤ, ◌<ℤ◌, map, refl, sym, ap, arith, rules}
use Rattle.std.specs.List.{AllByRecursion}
use Rattle.std.specs.Cmp.{IsTotalOrder, int_cmp_total, nat_cmp_total, bool_cmp_total, then_flip, tied_itself, int_ranks, ranks}
use Rattle.std.specs.declared.cmp.Ordering.{Ordering}
use Rattle.std.specs.declared.cmp.Ordering.TheVariants.{Less, Equal, Greater}
use Rattle.std.specs.Ordering.{ordering_then, ordering_reverse, int_cmp, nat_cmp, bool_cmp, MatchOrdering}
use Rattle.eb_value.specs.declared.value.Value.{Value, the_lemmas}
use Rattle.eb_value.specs.declared.value.Form.{Form-F}
use Rattle.eb_value.specs.declared.value.Form.TheOpen as val
use Rattle.eb_value.specs.Values.{Layer, layer, int, truth, atom, pair, set, rank, rank_of, compare, compare_step, compare_all}
use Rattle.eb_value.proofs.Induction.{by_kind, ind_pair, as_int, as_truth, as_atom, as_pair, as_set, rank-int, rank-truth, rank-atom, rank-pair, rank-set}

pub compare-int : (m n : ℤ) → compare (int m) (int n) ≡ int_cmp m n
compare-int m n = search (rules, the_lemmas)

pub compare-truth : (b c : Bool) → compare (truth b) (truth c) ≡ bool_cmp b c
compare-truth b c = search (rules, the_lemmas)

pub compare-atom : (s m t n : ℕ) → compare (atom s m) (atom t n) ≡ ordering_then (nat_cmp s t) (nat_cmp m n)
compare-atom s m t n = search (rules, the_lemmas)

pub compare-pair : (a b c d : Value) → compare (pair a b) (pair c d) ≡ ordering_then (compare a c) (compare b d)
compare-pair a b c d = search (rules, the_lemmas)

pub compare-set : (xs ys : List Value) → compare (set xs) (set ys) ≡ compare_all xs ys
compare-set xs ys = search (rules, the_lemmas)

-- ---- two kinds

abbrev step_rank : Form-F (Value → Ordering) (Value → Ordering) → ℕ
step_rank (val.Int m) = 0
step_rank (val.Bool b) = 1
step_rank (val.Atom s k) = 2
step_rank (val.Pair f g) = 3
step_rank (val.Set fs) = 4

step_apart : (x : Form-F (Value → Ordering) (Value → Ordering)) (y : Layer) → step_rank x ≢ rank_of y → compare_step x y ≡ nat_cmp (step_rank x) (rank_of y)
step_apart (val.Int m) (val.Int n) h = absurd (h refl)
step_apart (val.Int m) y h = refl
step_apart (val.Bool b) (val.Bool c) h = absurd (h refl)
step_apart (val.Bool b) y h = refl
step_apart (val.Atom s k) (val.Atom t l) h = absurd (h refl)
step_apart (val.Atom s k) y h = refl
step_apart (val.Pair f g) (val.Pair c d) h = absurd (h refl)
step_apart (val.Pair f g) y h = refl
step_apart (val.Set fs) (val.Set ys) h = absurd (h refl)
step_apart (val.Set fs) y h = refl

-- of two kinds, the rank decides
pub compare-apart : (a b : Value) → rank a ≢ rank b → compare a b ≡ nat_cmp (rank a) (rank b)
compare-apart a b = by_kind (λ a. rank a ≢ rank b → compare a b ≡ nat_cmp (rank a) (rank b)) (record {
  int = λ m h. let e : compare (int m) b ≡ compare_step (val.Int m) (layer b) = search (rules, the_lemmas) in e ∙ step_apart (val.Int m) (layer b) (omega (arith, rank-int m, h)) ∙ ap (λ r. nat_cmp r (rank b)) (sym (rank-int m));
  truth = λ c h. let e : compare (truth c) b ≡ compare_step (val.Bool c) (layer b) = search (rules, the_lemmas) in e ∙ step_apart (val.Bool c) (layer b) (omega (arith, rank-truth c, h)) ∙ ap (λ r. nat_cmp r (rank b)) (sym (rank-truth c));
  atom = λ s k h. let e : compare (atom s k) b ≡ compare_step (val.Atom s k) (layer b) = search (rules, the_lemmas) in e ∙ step_apart (val.Atom s k) (layer b) (omega (arith, rank-atom s k, h)) ∙ ap (λ r. nat_cmp r (rank b)) (sym (rank-atom s k));
  pair = λ c d h. let e : compare (pair c d) b ≡ compare_step (val.Pair (compare c) (compare d)) (layer b) = search (rules, the_lemmas) in e ∙ step_apart (val.Pair (compare c) (compare d)) (layer b) (omega (arith, rank-pair c d, h)) ∙ ap (λ r. nat_cmp r (rank b)) (sym (rank-pair c d));
  set = λ xs h. let e : compare (set xs) b ≡ compare_step (val.Set (map compare xs)) (layer b) = search (rules, the_lemmas) in e ∙ step_apart (val.Set (map compare xs)) (layer b) (omega (arith, rank-set xs, h)) ∙ ap (λ r. nat_cmp r (rank b)) (sym (rank-set xs));
}) a

-- ---- the other way round

abbrev Turned : Value → Value → Type 0
Turned v w = compare w v ≡ ordering_reverse (compare v w)

turned_all : (xs ys : List Value) → AllByRecursion (λ v. (w : Value) → Turned v w) xs → compare_all ys xs ≡ ordering_reverse (compare_all xs ys)
turned_all [] [] h = refl
turned_all [] (y ∷ ys) h = refl
turned_all (x ∷ xs) [] h = refl
turned_all (x ∷ xs) (y ∷ ys) h = rw (h.0 y, turned_all xs ys h.1) (then_flip (compare x y) (compare_all xs ys))

pub reversed : (v w : Value) → compare w v ≡ ordering_reverse (compare v w)
reversed = ind_pair Turned (record {
  int = λ m n. rw (compare-int m n, compare-int n m) (int_cmp_total.antisymm n m);
  truth = λ b c. rw (compare-truth b c, compare-truth c b) (bool_cmp_total.antisymm c b);
  atom = λ s k t l. rw (compare-atom s k t l, compare-atom t l s k, nat_cmp_total.antisymm t s, nat_cmp_total.antisymm l k) (then_flip (nat_cmp s t) (nat_cmp k l));
  pair = λ a b c d p q. rw (compare-pair a b c d, compare-pair c d a b, p c, q d) (then_flip (compare a c) (compare b d));
  set = λ xs ys h. rw (compare-set xs ys, compare-set ys xs) (turned_all xs ys h);
  apart = λ a b h. rw (compare-apart a b h, compare-apart b a (λ e. h (sym e))) (nat_cmp_total.antisymm (rank b) (rank a));
})

-- ---- Equal is equal

then_equal : (o p : Ordering) → ordering_then o p ≡ Equal → (o ≡ Equal) × (p ≡ Equal)
then_equal Less p h = cc
then_equal Equal p h = (refl, h)
then_equal Greater p h = cc

abbrev Exact : Value → Value → Type 0
Exact v w = compare v w ≡ Equal → v ≡ w

same_int : (m n : ℤ) (o : Ordering) → MatchOrdering o (m <ℤ n) (m ≡ n) (n <ℤ m) → o ≡ Equal → m ≡ n
same_int m n Less h e = cc
same_int m n Equal h e = h
same_int m n Greater h e = cc

same_nat : (m n : ℕ) (o : Ordering) → MatchOrdering o (m < n) (m ≡ n) (n < m) → o ≡ Equal → m ≡ n
same_nat m n Less h e = cc
same_nat m n Equal h e = h
same_nat m n Greater h e = cc

same_bool : (b c : Bool) → bool_cmp b c ≡ Equal → b ≡ c
same_bool true true h = refl
same_bool true false h = cc
same_bool false true h = cc
same_bool false false h = refl

exact_all : (xs ys : List Value) → AllByRecursion (λ v. (w : Value) → Exact v w) xs → compare_all xs ys ≡ Equal → xs ≡ ys
exact_all [] [] h e = refl
exact_all [] (y ∷ ys) h e = cc
exact_all (x ∷ xs) [] h e = cc
exact_all (x ∷ xs) (y ∷ ys) h e =
    let both : (compare x y ≡ Equal) × (compare_all xs ys ≡ Equal) = then_equal (compare x y) (compare_all xs ys) e in
    let first : x ≡ y = h.0 y both.0 in
    let rest : xs ≡ ys = exact_all xs ys h.1 both.1 in
    cc

pub exact : (v w : Value) → compare v w ≡ Equal → v ≡ w
exact = ind_pair Exact (record {
  int = λ m n e. ap int (same_int m n (int_cmp m n) (int_ranks m n) (sym (compare-int m n) ∙ e));
  truth = λ b c e. ap truth (same_bool b c (sym (compare-truth b c) ∙ e));
  atom = λ s k t l e.
      let both : (nat_cmp s t ≡ Equal) × (nat_cmp k l ≡ Equal) = then_equal (nat_cmp s t) (nat_cmp k l) (sym (compare-atom s k t l) ∙ e) in
      let first : s ≡ t = same_nat s t (nat_cmp s t) (ranks s t) both.0 in
      let second : k ≡ l = same_nat k l (nat_cmp k l) (ranks k l) both.1 in
      ap (λ s. atom s k) first ∙ ap (atom t) second;
  pair = λ a b c d p q e.
      let both : (compare a c ≡ Equal) × (compare b d ≡ Equal) = then_equal (compare a c) (compare b d) (sym (compare-pair a b c d) ∙ e) in
      ap (λ a. pair a b) (p c both.0) ∙ ap (pair c) (q d both.1);
  set = λ xs ys h e. ap set (exact_all xs ys h (sym (compare-set xs ys) ∙ e));
  apart = λ a b h e. absurd (h (same_nat (rank a) (rank b) (nat_cmp (rank a) (rank b)) (ranks (rank a) (rank b)) (sym (compare-apart a b h) ∙ e)));
})

-- ---- transitive

then_less : (a b c p q r : Ordering) → (a ≡ Less → b ≡ Less → c ≡ Less) → (a ≡ Equal → c ≡ b) → (b ≡ Equal → c ≡ a) → (p ≡ Less → q ≡ Less → r ≡ Less) → ordering_then a p ≡ Less → ordering_then b q ≡ Less → ordering_then c r ≡ Less
then_less Less Less c p q r f g h k u w = ap (λ o. ordering_then o r) (f refl refl)
then_less Less Equal c p q r f g h k u w = ap (λ o. ordering_then o r) (h refl)
then_less Less Greater c p q r f g h k u w = cc
then_less Equal Less c p q r f g h k u w = ap (λ o. ordering_then o r) (g refl)
then_less Equal Equal c p q r f g h k u w = ap (λ o. ordering_then o r) (g refl) ∙ k u w
then_less Equal Greater c p q r f g h k u w = cc
then_less Greater b c p q r f g h k u w = cc

abbrev Chains : Value → Value → Type 0
Chains u v = (w : Value) → compare u v ≡ Less → compare v w ≡ Less → compare u w ≡ Less

nat_less : (m n : ℕ) → nat_cmp m n ≡ Less → m < n
nat_less m n h = grind arith

less-nat : (m n : ℕ) → m < n → nat_cmp m n ≡ Less
less-nat m n h = grind arith

-- a lower value has no higher rank
pub rank_up : (v w : Value) → compare v w ≡ Less → rank v ≤ rank w
rank_up = ind_pair (λ v w. compare v w ≡ Less → rank v ≤ rank w) (record {
  int = λ m n h. omega (arith, rank-int m, rank-int n);
  truth = λ b c h. omega (arith, rank-truth b, rank-truth c);
  atom = λ s k t l h. omega (arith, rank-atom s k, rank-atom t l);
  pair = λ a b c d p q h. omega (arith, rank-pair a b, rank-pair c d);
  set = λ xs ys p h. omega (arith, rank-set xs, rank-set ys);
  apart = λ v w h e. let l : rank v < rank w = nat_less (rank v) (rank w) (sym (compare-apart v w h) ∙ e) in omega arith;
})

-- a value of a lower rank is lower
lower : (u w : Value) → rank u < rank w → compare u w ≡ Less
lower u w h = compare-apart u w (omega arith) ∙ less-nat (rank u) (rank w) h

chain_apart : (u v : Value) → rank u ≢ rank v → Chains u v
chain_apart u v h w p q =
    let l : rank u < rank v = nat_less (rank u) (rank v) (sym (compare-apart u v h) ∙ p) in
    lower u w (omega (arith, rank_up v w q))

last_apart : (u v : Value) (r : ℕ) → rank u ≡ r → rank v ≡ r → (w : Value) → rank w ≢ r → compare u v ≡ Less → compare v w ≡ Less → compare u w ≡ Less
last_apart u v r a b w h p q = lower u w (omega (arith, rank_up v w q, h))

chain_all : (xs ys : List Value) → AllByRecursion (λ v. (w : Value) → Chains v w) xs → (zs : List Value) → compare_all xs ys ≡ Less → compare_all ys zs ≡ Less → compare_all xs zs ≡ Less
chain_all [] [] h zs p q = cc
chain_all [] (y ∷ ys) h [] p q = cc
chain_all [] (y ∷ ys) h (z ∷ zs) p q = refl
chain_all (x ∷ xs) [] h zs p q = cc
chain_all (x ∷ xs) (y ∷ ys) h [] p q = cc
chain_all (x ∷ xs) (y ∷ ys) h (z ∷ zs) p q =
    then_less (compare x y) (compare y z) (compare x z) (compare_all xs ys) (compare_all ys zs) (compare_all xs zs)
    (h.0 y z) (λ e. ap (λ v. compare v z) (exact x y e)) (λ e. ap (compare x) (sym (exact y z e))) (chain_all xs ys h.1 zs) p q

chain_atom : (s k t l i j : ℕ) → ordering_then (nat_cmp s t) (nat_cmp k l) ≡ Less → ordering_then (nat_cmp t i) (nat_cmp l j) ≡ Less → ordering_then (nat_cmp s i) (nat_cmp k j) ≡ Less
chain_atom s k t l i j = then_less (nat_cmp s t) (nat_cmp t i) (nat_cmp s i) (nat_cmp k l) (nat_cmp l j) (nat_cmp k j)
    (nat_cmp_total.trans s t i)
    (λ e. ap (λ v. nat_cmp v i) (same_nat s t (nat_cmp s t) (ranks s t) e))
    (λ e. ap (nat_cmp s) (sym (same_nat t i (nat_cmp t i) (ranks t i) e)))
    (nat_cmp_total.trans k l j)

pub transitive : (u v w : Value) → compare u v ≡ Less → compare v w ≡ Less → compare u w ≡ Less
transitive = ind_pair Chains (record {
  int = λ m n. as_int (λ w. compare (int m) (int n) ≡ Less → compare (int n) w ≡ Less → compare (int m) w ≡ Less)
      (λ k. rw (compare-int m n, compare-int n k, compare-int m k) (int_cmp_total.trans m n k))
      (last_apart (int m) (int n) 0 (rank-int m) (rank-int n));
  truth = λ b c. as_truth (λ w. compare (truth b) (truth c) ≡ Less → compare (truth c) w ≡ Less → compare (truth b) w ≡ Less)
      (λ d. rw (compare-truth b c, compare-truth c d, compare-truth b d) (bool_cmp_total.trans b c d))
      (last_apart (truth b) (truth c) 1 (rank-truth b) (rank-truth c));
  atom = λ s k t l. as_atom (λ w. compare (atom s k) (atom t l) ≡ Less → compare (atom t l) w ≡ Less → compare (atom s k) w ≡ Less)
      (λ i j. rw (compare-atom s k t l, compare-atom t l i j, compare-atom s k i j) (chain_atom s k t l i j))
      (last_apart (atom s k) (atom t l) 2 (rank-atom s k) (rank-atom t l));
  pair = λ a b c d p q. as_pair (λ w. compare (pair a b) (pair c d) ≡ Less → compare (pair c d) w ≡ Less → compare (pair a b) w ≡ Less)
      (λ e f. rw (compare-pair a b c d, compare-pair c d e f, compare-pair a b e f)
      (then_less (compare a c) (compare c e) (compare a e) (compare b d) (compare d f) (compare b f)
      (p c e) (λ h. ap (λ v. compare v e) (exact a c h)) (λ h. ap (compare a) (sym (exact c e h))) (q d f)))
      (last_apart (pair a b) (pair c d) 3 (rank-pair a b) (rank-pair c d));
  set = λ xs ys h. as_set (λ w. compare (set xs) (set ys) ≡ Less → compare (set ys) w ≡ Less → compare (set xs) w ≡ Less)
      (λ zs. rw (compare-set xs ys, compare-set ys zs, compare-set xs zs) (chain_all xs ys h zs))
      (last_apart (set xs) (set ys) 4 (rank-set xs) (rank-set ys));
  apart = chain_apart;
})

pub compare_total : IsTotalOrder compare
compare_total = record {
  antisymm = λ v w. reversed w v;
  trans = transitive;
  congr = λ u v w e. ap (λ u. compare u w) (exact u v e);
}

pub reflexive : (v : Value) → compare v v ≡ Equal
reflexive = tied_itself compare_total
