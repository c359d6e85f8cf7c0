-- The least domain of a value has it, and is in normal form.
use Rattle.std.proofs.Common.{◌≡◌, ◌∙◌, ℕ, ℤ, int_le, Bool, true, not, ◌&&◌, List, [], ◌∷◌, Option, Some, None, refl, ap, arith, rules}
use Rattle.std.proofs.lemmas.Int.{ints}
use Rattle.eb_value.specs.declared.value.Value.{Value, the_lemmas}
use Rattle.eb_value.specs.Values.{int, truth, atom, pair, set}
use Rattle.eb_value.specs.Comprehensions.{has as is_among}
use Rattle.int_dom.specs.Intervals as interval
use Rattle.occ_domains.specs.declared.body.Body.TheVariants as of
use Rattle.occ_domains.specs.Bodies.{is_plain, has, is_filled, exactly}
use Rattle.occ_domains.specs.Domains as domains
use Rattle.occ_domains.proofs.BodyLaws.{has-members}
use Rattle.occ_domains.proofs.ListLaws.{both_so}
use Rattle.occ_domains.proofs.NormalLaws.{Reflexive, filled-integers, filled-members, filled-pairs, filled-sets, among_first, filled_normal, empty_normal}
use Rattle.occ_domains.proofs.SingleLaws.{has_int, has_pair, has_set}
use Rattle.occ_domains.proofs.WholeLaws.{plain-truth, plain-atom}
use Rattle.occ_domains.proofs.TypeInduction.{by_pairs}

-- ---- at the constructors

exactly-int : (n : ℤ) → exactly (int n) ≡ of.Integers (record { lo = n; hi = n })
exactly-int n = search (rules, the_lemmas)

exactly-truth : (b : Bool) → exactly (truth b) ≡ of.Members (truth b ∷ [])
exactly-truth b = search (rules, the_lemmas)

exactly-atom : (s k : ℕ) → exactly (atom s k) ≡ of.Members (atom s k ∷ [])
exactly-atom s k = search (rules, the_lemmas)

exactly-pair : (a b : Value) → exactly (pair a b) ≡ of.Pairs (exactly a) (exactly b)
exactly-pair a b = search (rules, the_lemmas)

exactly-set : (xs : List Value) → exactly (set xs) ≡ of.AllSets
exactly-set xs = search (rules, the_lemmas)

-- ---- normal form

one_filled : (n : ℤ) → not (interval.is_empty (record { lo = n; hi = n })) ≡ true
one_filled n = grind (arith, ints)

member_filled : (v : Value) → is_plain v ≡ true → is_filled (of.Members (v ∷ [])) ≡ true
member_filled v plain = filled-members (v ∷ []) ∙ both_so (is_plain v) true plain refl

exactly_filled : (v : Value) → is_filled (exactly v) ≡ true
exactly_filled = by_pairs (λ v. is_filled (exactly v) ≡ true) (record {
  int = λ n. ap is_filled (exactly-int n) ∙ filled-integers (record { lo = n; hi = n }) ∙ one_filled n;
  truth = λ b. ap is_filled (exactly-truth b) ∙ member_filled (truth b) (plain-truth b);
  atom = λ s k. ap is_filled (exactly-atom s k) ∙ member_filled (atom s k) (plain-atom s k);
  pair = λ a b p q. ap is_filled (exactly-pair a b) ∙ filled-pairs (exactly a) (exactly b) ∙ both_so (is_filled (exactly a)) (is_filled (exactly b)) p q;
  set = λ xs. ap is_filled (exactly-set xs) ∙ filled-sets;
})

pub only_normal : (s : Option Value) → domains.is_normal (domains.only s) ≡ true
only_normal None = empty_normal
only_normal (Some v) = filled_normal (exactly v) (exactly_filled v)

-- ---- the value

one_within : (n : ℤ) → (int_le n n && int_le n n) ≡ true
one_within n = grind (arith, ints)

member_has : Reflexive → (v : Value) → is_plain v ≡ true → has (of.Members (v ∷ [])) v ≡ true
member_has reflexive v plain = has-members (v ∷ []) v ∙ both_so (is_plain v) (is_among (v ∷ []) v) plain (among_first reflexive v [])

exactly_has : Reflexive → (v : Value) → has (exactly v) v ≡ true
exactly_has reflexive = by_pairs (λ v. has (exactly v) v ≡ true) (record {
  int = λ n. ap (λ b. has b (int n)) (exactly-int n) ∙ has_int (record { lo = n; hi = n }) n (one_within n);
  truth = λ b. ap (λ x. has x (truth b)) (exactly-truth b) ∙ member_has reflexive (truth b) (plain-truth b);
  atom = λ s k. ap (λ b. has b (atom s k)) (exactly-atom s k) ∙ member_has reflexive (atom s k) (plain-atom s k);
  pair = λ a b p q. ap (λ x. has x (pair a b)) (exactly-pair a b) ∙ has_pair (exactly a) (exactly b) a b p q;
  set = λ xs. ap (λ b. has b (set xs)) (exactly-set xs) ∙ has_set xs;
})

pub only_has : Reflexive → (s : Option Value) → domains.has (domains.only s) (domains.slot s) ≡ true
only_has reflexive None = refl
only_has reflexive (Some v) = exactly_has reflexive v
