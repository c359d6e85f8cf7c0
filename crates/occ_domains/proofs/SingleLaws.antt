-- A body in normal form is single exactly where it has one value.
use Rattle.std.proofs.Common.{◌≡◌, ◌∙◌, ◌↔◌, ℕ, ℤ, pos, int_le, Bool, true, false, not, ◌&&◌, ◌||◌, List, [], ◌∷◌, Option, Some, None, refl, sym, ap, subst, arith, rules}
use Rattle.std.specs.List.{list_all}
use Rattle.std.specs.Cmp.{first_so, second_so}
use Rattle.std.specs.Ordering.{int_eq}
use Rattle.std.specs.declared.cmp.Ordering.TheVariants.{Less, Equal}
use Rattle.std.proofs.lemmas.Int.{ints}
use Rattle.eb_value.specs.declared.value.Value.{Value}
use Rattle.eb_value.specs.declared.value.Value as value_module
use Rattle.eb_value.specs.declared.value.Form.TheOpen as val
use Rattle.eb_value.specs.Values.{Layer, layer, compare, int, truth, atom, pair, set, is_ascending, is_less}
use Rattle.eb_value.specs.Comprehensions.{has as is_among, same}
use Rattle.int_dom.specs.declared.interval.Interval.{Interval}
use Rattle.int_dom.specs.Intervals as interval
use Rattle.occ_domains.specs.declared.body.Body.{Body, the_lemmas}
use Rattle.occ_domains.specs.declared.body.Body.TheOpen as body
use Rattle.occ_domains.specs.declared.body.Body.TheVariants as of
use Rattle.occ_domains.specs.Bodies.{is_plain, has_step, has, is_empty, is_list, is_filled, is_normal, single, single_integer, single_member, single_pair}
use Rattle.occ_domains.proofs.BodyLaws.{ind_body, has-integers, has-members, has-pairs, has-sets, empty_has}
use Rattle.occ_domains.proofs.ListLaws.{both_so, less_so}
use Rattle.occ_domains.proofs.MeetLaws.{Exact, same_is}
use Rattle.occ_domains.proofs.NormalLaws.{Reflexive, filled_has, filled-empty, filled-integers, filled-members, filled-pairs, layer-int, layer-pair, layer-set, among_first, normal_filled}
use Rattle.occ_domains.proofs.Among.{or_so}
use Rattle.occ_domains.proofs.TypeInduction.{by_kind}

-- ---- at the constructors

pub single-empty : single of.Empty ≡ None
single-empty = search (rules, the_lemmas)

pub single-integers : (d : Interval) → single (of.Integers d) ≡ single_integer d
single-integers d = search (rules, the_lemmas)

pub single-members : (xs : List Value) → single (of.Members xs) ≡ single_member xs
single-members xs = search (rules, the_lemmas)

pub single-pairs : (a b : Body) → single (of.Pairs a b) ≡ single_pair (single a) (single b)
single-pairs a b = search (rules, the_lemmas)

pub single-sets : single of.AllSets ≡ None
single-sets = search (rules, the_lemmas)

pub layer-truth : (b : Bool) → layer (truth b) ≡ val.Bool b
layer-truth b = search (rules, value_module.the_lemmas)

pub layer-atom : (s k : ℕ) → layer (atom s k) ≡ val.Atom s k
layer-atom s k = search (rules, value_module.the_lemmas)

number_in : Layer → ℤ
number_in (val.Int n) = n
number_in _ = pos 0

same_number : (m n : ℤ) → int m ≡ int n → m ≡ n
unfolding number_in
same_number m n e = sym (ap number_in (layer-int m)) ∙ ap (λ v. number_in (layer v)) e ∙ ap number_in (layer-int n)

abbrev first_or : Value → Layer → Value
first_or z (val.Pair a b) = a
first_or z _ = z

abbrev second_or : Value → Layer → Value
second_or z (val.Pair a b) = b
second_or z _ = z

same_first : (a b c d : Value) → pair a b ≡ pair c d → a ≡ c
same_first a b c d e = sym (ap (first_or a) (layer-pair a b)) ∙ ap (λ v. first_or a (layer v)) e ∙ ap (first_or a) (layer-pair c d)

same_second : (a b c d : Value) → pair a b ≡ pair c d → b ≡ d
same_second a b c d e = sym (ap (second_or a) (layer-pair a b)) ∙ ap (λ v. second_or a (layer v)) e ∙ ap (second_or a) (layer-pair c d)

abbrev is_bare : Layer → Bool
is_bare (val.Set []) = true
is_bare _ = false

other_set : set [] ≡ set (int (pos 0) ∷ []) → ⊥
other_set e =
    let k : true ≡ false = sym (ap is_bare (layer-set [])) ∙ ap (λ v. is_bare (layer v)) e ∙ ap is_bare (layer-set (int (pos 0) ∷ [])) in
    cc

-- ---- values by kind

pub record AnInteger (d : Interval) (v : Value) : Type 0 where
  pub number : ℤ
  pub is : v ≡ int number
  pub within : (int_le d.lo number && int_le number d.hi) ≡ true

pub integer_of : (d : Interval) (v : Value) → has_step (body.Integers d) v (layer v) ≡ true → AnInteger d v
integer_of d = by_kind (λ v. has_step (body.Integers d) v (layer v) ≡ true → AnInteger d v) (record {
  int = λ n h. record { number = n; is = refl; within = sym (ap (has_step (body.Integers d) (int n)) (layer-int n)) ∙ h };
  truth = λ b h. let k : false ≡ true = sym (ap (has_step (body.Integers d) (truth b)) (layer-truth b)) ∙ h in cc;
  atom = λ s n h. let k : false ≡ true = sym (ap (has_step (body.Integers d) (atom s n)) (layer-atom s n)) ∙ h in cc;
  pair = λ a b h. let k : false ≡ true = sym (ap (has_step (body.Integers d) (pair a b)) (layer-pair a b)) ∙ h in cc;
  set = λ xs h. let k : false ≡ true = sym (ap (has_step (body.Integers d) (set xs)) (layer-set xs)) ∙ h in cc;
})

pub record APair (f g : Value → Bool) (v : Value) : Type 0 where
  pub first : Value
  pub second : Value
  pub is : v ≡ pair first second
  pub first_in : f first ≡ true
  pub second_in : g second ≡ true

pub pair_of : (f g : Value → Bool) (v : Value) → has_step (body.Pairs f g) v (layer v) ≡ true → APair f g v
pair_of f g = by_kind (λ v. has_step (body.Pairs f g) v (layer v) ≡ true → APair f g v) (record {
  int = λ n h. let k : false ≡ true = sym (ap (has_step (body.Pairs f g) (int n)) (layer-int n)) ∙ h in cc;
  truth = λ b h. let k : false ≡ true = sym (ap (has_step (body.Pairs f g) (truth b)) (layer-truth b)) ∙ h in cc;
  atom = λ s n h. let k : false ≡ true = sym (ap (has_step (body.Pairs f g) (atom s n)) (layer-atom s n)) ∙ h in cc;
  pair = λ a b h.
      let k : (f a && g b) ≡ true = sym (ap (has_step (body.Pairs f g) (pair a b)) (layer-pair a b)) ∙ h in
      record { first = a; second = b; is = refl; first_in = first_so (f a) (g b) k; second_in = second_so (f a) (g b) k };
  set = λ xs h. let k : false ≡ true = sym (ap (has_step (body.Pairs f g) (set xs)) (layer-set xs)) ∙ h in cc;
})

pub has_int : (d : Interval) (n : ℤ) → (int_le d.lo n && int_le n d.hi) ≡ true → has (of.Integers d) (int n) ≡ true
has_int d n h = has-integers d (int n) ∙ ap (has_step (body.Integers d) (int n)) (layer-int n) ∙ h

pub has_pair : (a b : Body) (x y : Value) → has a x ≡ true → has b y ≡ true → has (of.Pairs a b) (pair x y) ≡ true
has_pair a b x y h k = has-pairs a b (pair x y) ∙ ap (has_step (body.Pairs (has a) (has b)) (pair x y)) (layer-pair x y) ∙ both_so (has a x) (has b y) h k

pub has_set : (xs : List Value) → has of.AllSets (set xs) ≡ true
has_set xs = has-sets (set xs) ∙ ap (has_step body.AllSets (set xs)) (layer-set xs)

-- ---- the law

-- the body has v and nothing else
abbrev pub Only : Body → Value → Type 0
Only b v = (w : Value) → (has b w ≡ true) ↔ (w ≡ v)

abbrev One : Body → Type 0
One b = is_filled b ≡ true → (v : Value) → (single b ≡ Some v) ↔ Only b v

pub some_of : {A : Type 0} (x y : A) → Some x ≡ Some y → x ≡ y
some_of x y e = cc

pub one_number : (d : Interval) (n : ℤ) → int_eq d.lo d.hi ≡ true → (int_le d.lo n && int_le n d.hi) ≡ true → n ≡ d.lo
one_number d n h k = grind (arith, ints)

low_end : (d : Interval) → not (interval.is_empty d) ≡ true → (int_le d.lo d.lo && int_le d.lo d.hi) ≡ true
low_end d h = grind (arith, ints)

high_end : (d : Interval) → not (interval.is_empty d) ≡ true → (int_le d.lo d.hi && int_le d.hi d.hi) ≡ true
high_end d h = grind (arith, ints)

ends_are_one : (d : Interval) → d.lo ≡ d.hi → int_eq d.lo d.hi ≡ true
ends_are_one d e = grind (arith, ints)

only_integer : (d : Interval) → not (interval.is_empty d) ≡ true → int_eq d.lo d.hi ≡ true → Only (of.Integers d) (int d.lo)
only_integer d f h w = (
  λ k. let i = integer_of d w (sym (has-integers d w) ∙ k) in i.is ∙ ap int (one_number d i.number h i.within),
  λ e. ap (has (of.Integers d)) e ∙ has_int d d.lo (low_end d f),
)

pub single_there : (d : Interval) (v : Value) (b : Bool) → int_eq d.lo d.hi ≡ b → single_integer d ≡ Some v → (int_eq d.lo d.hi ≡ true) × (int d.lo ≡ v)
single_there d v true e h = (e, let k : single_integer d ≡ Some (int d.lo) = rw e refl in some_of (int d.lo) v (sym k ∙ h))
single_there d v false e h = let k : single_integer d ≡ None = rw e refl in let l : None ≡ Some v = sym k ∙ h in cc

one_integers : (d : Interval) → One (of.Integers d)
one_integers d f v =
    let filled : not (interval.is_empty d) ≡ true = sym (filled-integers d) ∙ f in (
      λ h. let s = single_there d v (int_eq d.lo d.hi) refl (sym (single-integers d) ∙ h) in
          subst (Only (of.Integers d)) s.1 (only_integer d filled s.0),
      λ only.
          let low : int d.lo ≡ v = (only (int d.lo)).0 (has_int d d.lo (low_end d filled)) in
          let high : int d.hi ≡ v = (only (int d.hi)).0 (has_int d d.hi (high_end d filled)) in
          let e : int_eq d.lo d.hi ≡ true = ends_are_one d (same_number d.lo d.hi (low ∙ sym high)) in
          single-integers d ∙ rw e (ap Some low),
    )

plain_first : (x : Value) (xs : List Value) → is_list (x ∷ xs) ≡ true → is_plain x ≡ true
plain_first x xs h = first_so (is_plain x) (list_all is_plain xs) (second_so (is_ascending (x ∷ xs)) (list_all is_plain (x ∷ xs)) h)

pub or_false : (b : Bool) → (b || false) ≡ true → b ≡ true
or_false true h = refl
or_false false h = h

one_member : Exact → Reflexive → (x : Value) → is_list (x ∷ []) ≡ true → Only (of.Members (x ∷ [])) x
one_member exact reflexive x h w = (
  λ k. let m : (is_plain w && is_among (x ∷ []) w) ≡ true = sym (has-members (x ∷ []) w) ∙ k in
      same_is exact w x (or_false (same w x) (second_so (is_plain w) (is_among (x ∷ []) w) m)),
  λ e. ap (has (of.Members (x ∷ []))) e ∙ has-members (x ∷ []) x ∙ both_so (is_plain x) (is_among (x ∷ []) x) (plain_first x [] h) (among_first reflexive x []),
)

has_first : Reflexive → (x : Value) (xs : List Value) → is_list (x ∷ xs) ≡ true → has (of.Members (x ∷ xs)) x ≡ true
has_first reflexive x xs h = has-members (x ∷ xs) x ∙ both_so (is_plain x) (is_among (x ∷ xs) x) (plain_first x xs h) (among_first reflexive x xs)

has_second : Reflexive → (x y : Value) (ys : List Value) → is_list (x ∷ y ∷ ys) ≡ true → has (of.Members (x ∷ y ∷ ys)) y ≡ true
has_second reflexive x y ys h =
    let plain : (is_plain x && (is_plain y && list_all is_plain ys)) ≡ true = second_so (is_ascending (x ∷ y ∷ ys)) (list_all is_plain (x ∷ y ∷ ys)) h in
    let other : is_plain y ≡ true = first_so (is_plain y) (list_all is_plain ys) (second_so (is_plain x) (is_plain y && list_all is_plain ys) plain) in
    has-members (x ∷ y ∷ ys) y ∙ both_so (is_plain y) (is_among (x ∷ y ∷ ys) y) other (or_so (same y x) (is_among (y ∷ ys) y) (among_first reflexive y ys))

one_members : Exact → Reflexive → (xs : List Value) → is_list xs ≡ true → (v : Value) → (single_member xs ≡ Some v) ↔ Only (of.Members xs) v
one_members exact reflexive [] f v = cc
one_members exact reflexive (x ∷ []) f v = (
  λ h. subst (Only (of.Members (x ∷ []))) (some_of x v h) (one_member exact reflexive x f),
  λ only. ap Some ((only x).0 (has_first reflexive x [] f)),
)
one_members exact reflexive (x ∷ y ∷ ys) f v = (
  λ h. let k : None ≡ Some v = h in cc,
  λ only.
      let e : x ≡ y = (only x).0 (has_first reflexive x (y ∷ ys) f) ∙ sym ((only y).0 (has_second reflexive x y ys f)) in
      let less : compare x y ≡ Less = less_so (compare x y) (first_so (is_less (compare x y)) (is_ascending (y ∷ ys)) (first_so (is_ascending (x ∷ y ∷ ys)) (list_all is_plain (x ∷ y ∷ ys)) f)) in
      let k : Equal ≡ Less = sym (reflexive x) ∙ ap (compare x) e ∙ less in
      cc,
)

module _ (a b : Body) where
  only_pair : (p q : Value) → Only a p → Only b q → Only (of.Pairs a b) (pair p q)
  only_pair p q h k w = (
    λ m. let i = pair_of (has a) (has b) w (sym (has-pairs a b w) ∙ m) in
        i.is ∙ ap (λ x. pair x i.second) ((h i.first).0 i.first_in) ∙ ap (pair p) ((k i.second).0 i.second_in),
    λ e. ap (has (of.Pairs a b)) e ∙ has_pair a b p q ((h p).1 refl) ((k q).1 refl),
  )

  pair_there : (v : Value) (s t : Option Value) → single a ≡ s → single b ≡ t → ((p : Value) → single a ≡ Some p → Only a p) → ((q : Value) → single b ≡ Some q → Only b q)
      → single_pair s t ≡ Some v → Only (of.Pairs a b) v
  pair_there v (Some p) (Some q) e f h k m = subst (Only (of.Pairs a b)) (some_of (pair p q) v m) (only_pair p q (h p e) (k q f))
  pair_there v (Some p) None e f h k m = cc
  pair_there v None t e f h k m = cc

  first_only : (v x y : Value) → has a x ≡ true → has b y ≡ true → Only (of.Pairs a b) v → Only a x
  first_only v x y h k only w = (
    λ m. same_first w y x y ((only (pair w y)).0 (has_pair a b w y m k) ∙ sym ((only (pair x y)).0 (has_pair a b x y h k))),
    λ e. ap (has a) e ∙ h,
  )

  second_only : (v x y : Value) → has a x ≡ true → has b y ≡ true → Only (of.Pairs a b) v → Only b y
  second_only v x y h k only w = (
    λ m. same_second x w x y ((only (pair x w)).0 (has_pair a b x w h m) ∙ sym ((only (pair x y)).0 (has_pair a b x y h k))),
    λ e. ap (has b) e ∙ k,
  )

one_pairs : Reflexive → (a b : Body) → One a → One b → One (of.Pairs a b)
one_pairs reflexive a b p q f v =
    let both : (is_filled a && is_filled b) ≡ true = sym (filled-pairs a b) ∙ f in
    let fa = first_so (is_filled a) (is_filled b) both in
    let fb = second_so (is_filled a) (is_filled b) both in (
      λ h. pair_there a b v (single a) (single b) refl refl (λ x e. (p fa x).0 e) (λ y e. (q fb y).0 e) (sym (single-pairs a b) ∙ h),
      λ only.
          let x = filled_has reflexive a fa in
          let y = filled_has reflexive b fb in
          let sa : single a ≡ Some x.value = (p fa x.value).1 (first_only a b v x.value y.value x.is_in y.is_in only) in
          let sb : single b ≡ Some y.value = (q fb y.value).1 (second_only a b v x.value y.value x.is_in y.is_in only) in
          single-pairs a b ∙ rw (sa, sb) (ap Some ((only (pair x.value y.value)).0 (has_pair a b x.value y.value x.is_in y.is_in))),
    )

one_sets : One of.AllSets
one_sets f v = (
  λ h. let k : None ≡ Some v = sym single-sets ∙ h in cc,
  λ only. absurd (other_set ((only (set [])).0 (has_set []) ∙ sym ((only (set (int (pos 0) ∷ []))).0 (has_set (int (pos 0) ∷ []))))),
)

pub filled_one : Exact → Reflexive → (b : Body) → One b
filled_one exact reflexive = ind_body One (record {
  none = λ f. let k : false ≡ true = sym filled-empty ∙ f in cc;
  integers = one_integers;
  members = λ xs f v.
      let m = one_members exact reflexive xs (sym (filled-members xs) ∙ f) v in
      (λ h. m.0 (sym (single-members xs) ∙ h), λ only. single-members xs ∙ m.1 only);
  pairs = one_pairs reflexive;
  sets = one_sets;
})

empty_single : (b : Body) → is_empty b ≡ true → single b ≡ None
empty_single = ind_body (λ b. is_empty b ≡ true → single b ≡ None) (record {
  none = λ h. single-empty;
  integers = λ d h. let k : false ≡ true = sym (not_empty-integers d) ∙ h in cc;
  members = λ xs h. let k : false ≡ true = sym (not_empty-members xs) ∙ h in cc;
  pairs = λ a b p q h. let k : false ≡ true = sym (not_empty-pairs a b) ∙ h in cc;
  sets = λ h. single-sets;
}) where
  not_empty-integers : (d : Interval) → is_empty (of.Integers d) ≡ false
  not_empty-integers d = search (rules, the_lemmas)

  not_empty-members : (xs : List Value) → is_empty (of.Members xs) ≡ false
  not_empty-members xs = search (rules, the_lemmas)

  not_empty-pairs : (a b : Body) → is_empty (of.Pairs a b) ≡ false
  not_empty-pairs a b = search (rules, the_lemmas)

-- a body in normal form is single exactly where it has one value
pub normal_one : Exact → Reflexive → (b : Body) → is_normal b ≡ true → (v : Value) → (single b ≡ Some v) ↔ Only b v
normal_one exact reflexive b n v = at (is_empty b) refl where
  at : (e : Bool) → is_empty b ≡ e → (single b ≡ Some v) ↔ Only b v
  at true e = (
    λ h. let k : None ≡ Some v = sym (empty_single b e) ∙ h in cc,
    λ only. let k : false ≡ true = sym (empty_has b v e) ∙ (only v).1 refl in cc,
  )
  at false e = filled_one exact reflexive b (normal_filled b n e) v
