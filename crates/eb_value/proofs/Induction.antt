-- Induction over values, by the plain constructors.
use Rattle.std.proofs.Common.{◌≡◌, ◌≢◌, Bool, List, [], ◌∷◌, ℕ, ℤ, map, subst, arith, rules}
use Rattle.std.specs.List.{AllByRecursion}
use Rattle.eb_value.specs.declared.value.Value.{Value, ind-Value, the_lemmas}
use Rattle.eb_value.specs.declared.value.Form.{Form, Form-F, map-Form}
use Rattle.eb_value.specs.declared.value.Form.TheViews.{roll-Form, roll-Value}
use Rattle.eb_value.specs.declared.value.Form.TheOpen as val
use Rattle.eb_value.specs.Values.{int, truth, atom, pair, set, rank}

abbrev Known : (Value → Type 0) → Type 0
Known P = (v : Value) × P v

-- A form says nothing by itself: its value does.
abbrev KnownForm : (Value → Type 0) → Type 0
KnownForm P = (f : Form) × P (roll-Value (record { form = f }))

each_known : (P : Value → Type 0) (es : List (Known P)) → AllByRecursion P (map (λ e. e.0) es)
each_known P [] = tt
each_known P (e ∷ es) = (e.1, each_known P es)

-- what the induction asks at each constructor
pub record Steps (P : Value → Type 0) : Type 0 where
  pub int : (n : ℤ) → P (int n)
  pub truth : (b : Bool) → P (truth b)
  pub atom : (s k : ℕ) → P (atom s k)
  pub pair : (a b : Value) → P a → P b → P (pair a b)
  pub set : (xs : List Value) → AllByRecursion P xs → P (set xs)

step : (P : Value → Type 0) → Steps P → (y : Form-F (KnownForm P) (Known P)) → P (roll-Value (record { form = roll-Form (map-Form (KnownForm P) (Known P) Form Value (λ e. e.0) (λ e. e.0) y) }))
unfolding roll-Form denote.Hole.Carrier.roll
step P s (val.Int n) = s.int n
step P s (val.Bool b) = s.truth b
step P s (val.Atom c k) = s.atom c k
step P s (val.Pair a b) = s.pair a.0 b.0 a.1 b.1
step P s (val.Set es) = s.set (map (λ e. e.0) es) (each_known P es)

pub ind_value : (P : Value → Type 0) → Steps P → (v : Value) → P v
ind_value P s =
    ind-Value (λ f. P (roll-Value (record { form = f }))) P
    (λ x y is. subst (λ z. P (roll-Value (record { form = roll-Form z }))) is (step P s y))
    (λ x y is. subst (λ z. P (roll-Value z)) is y.form.1)

-- what a proof by kinds asks
pub record Kinds (Q : Value → Type 0) : Type 0 where
  pub int : (n : ℤ) → Q (int n)
  pub truth : (b : Bool) → Q (truth b)
  pub atom : (s k : ℕ) → Q (atom s k)
  pub pair : (a b : Value) → Q (pair a b)
  pub set : (xs : List Value) → Q (set xs)

pub by_kind : (Q : Value → Type 0) → Kinds Q → (v : Value) → Q v
by_kind Q s = ind_value Q (record { int = s.int; truth = s.truth; atom = s.atom; pair = λ a b p q. s.pair a b; set = λ xs h. s.set xs })

pub rank-int : (n : ℤ) → rank (int n) ≡ 0
rank-int n = search (rules, the_lemmas)

pub rank-truth : (b : Bool) → rank (truth b) ≡ 1
rank-truth b = search (rules, the_lemmas)

pub rank-atom : (s k : ℕ) → rank (atom s k) ≡ 2
rank-atom s k = search (rules, the_lemmas)

pub rank-pair : (a b : Value) → rank (pair a b) ≡ 3
rank-pair a b = search (rules, the_lemmas)

pub rank-set : (xs : List Value) → rank (set xs) ≡ 4
rank-set xs = search (rules, the_lemmas)

-- each kind against all others
pub as_int : (Q : Value → Type 0) → ((n : ℤ) → Q (int n)) → ((v : Value) → rank v ≢ 0 → Q v) → (v : Value) → Q v
as_int Q f g = by_kind Q (record {
  int = f;
  truth = λ b. g (truth b) (omega (arith, rank-truth b));
  atom = λ s k. g (atom s k) (omega (arith, rank-atom s k));
  pair = λ a b. g (pair a b) (omega (arith, rank-pair a b));
  set = λ xs. g (set xs) (omega (arith, rank-set xs));
})

pub as_truth : (Q : Value → Type 0) → ((b : Bool) → Q (truth b)) → ((v : Value) → rank v ≢ 1 → Q v) → (v : Value) → Q v
as_truth Q f g = by_kind Q (record {
  int = λ n. g (int n) (omega (arith, rank-int n));
  truth = f;
  atom = λ s k. g (atom s k) (omega (arith, rank-atom s k));
  pair = λ a b. g (pair a b) (omega (arith, rank-pair a b));
  set = λ xs. g (set xs) (omega (arith, rank-set xs));
})

pub as_atom : (Q : Value → Type 0) → ((s k : ℕ) → Q (atom s k)) → ((v : Value) → rank v ≢ 2 → Q v) → (v : Value) → Q v
as_atom Q f g = by_kind Q (record {
  int = λ n. g (int n) (omega (arith, rank-int n));
  truth = λ b. g (truth b) (omega (arith, rank-truth b));
  atom = f;
  pair = λ a b. g (pair a b) (omega (arith, rank-pair a b));
  set = λ xs. g (set xs) (omega (arith, rank-set xs));
})

pub as_pair : (Q : Value → Type 0) → ((a b : Value) → Q (pair a b)) → ((v : Value) → rank v ≢ 3 → Q v) → (v : Value) → Q v
as_pair Q f g = by_kind Q (record {
  int = λ n. g (int n) (omega (arith, rank-int n));
  truth = λ b. g (truth b) (omega (arith, rank-truth b));
  atom = λ s k. g (atom s k) (omega (arith, rank-atom s k));
  pair = f;
  set = λ xs. g (set xs) (omega (arith, rank-set xs));
})

pub as_set : (Q : Value → Type 0) → ((xs : List Value) → Q (set xs)) → ((v : Value) → rank v ≢ 4 → Q v) → (v : Value) → Q v
as_set Q f g = by_kind Q (record {
  int = λ n. g (int n) (omega (arith, rank-int n));
  truth = λ b. g (truth b) (omega (arith, rank-truth b));
  atom = λ s k. g (atom s k) (omega (arith, rank-atom s k));
  pair = λ a b. g (pair a b) (omega (arith, rank-pair a b));
  set = f;
})

-- what a proof about two values asks: at each kind, and at two kinds
pub record Pairs (R : Value → Value → Type 0) : Type 0 where
  pub int : (m n : ℤ) → R (int m) (int n)
  pub truth : (b c : Bool) → R (truth b) (truth c)
  pub atom : (s k t l : ℕ) → R (atom s k) (atom t l)
  pub pair : (a b c d : Value) → ((w : Value) → R a w) → ((w : Value) → R b w) → R (pair a b) (pair c d)
  pub set : (xs ys : List Value) → AllByRecursion (λ v. (w : Value) → R v w) xs → R (set xs) (set ys)
  pub apart : (a b : Value) → rank a ≢ rank b → R a b

pub ind_pair : (R : Value → Value → Type 0) → Pairs R → (a b : Value) → R a b
ind_pair R s = ind_value (λ a. (b : Value) → R a b) (record {
  int = λ m. as_int (R (int m)) (s.int m) (λ v h. s.apart (int m) v (omega (arith, rank-int m, h)));
  truth = λ b. as_truth (R (truth b)) (s.truth b) (λ v h. s.apart (truth b) v (omega (arith, rank-truth b, h)));
  atom = λ t k. as_atom (R (atom t k)) (s.atom t k) (λ v h. s.apart (atom t k) v (omega (arith, rank-atom t k, h)));
  pair = λ a b p q. as_pair (R (pair a b)) (λ c d. s.pair a b c d p q) (λ v h. s.apart (pair a b) v (omega (arith, rank-pair a b, h)));
  set = λ xs p. as_set (R (set xs)) (λ ys. s.set xs ys p) (λ v h. s.apart (set xs) v (omega (arith, rank-set xs, h)));
})
