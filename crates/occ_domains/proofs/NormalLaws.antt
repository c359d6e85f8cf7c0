-- Bodies in normal form: they have a value unless they are empty, and meets keep them.
use Rattle.std.proofs.Common.{subst, ◌≡◌, ◌∙◌, Bool, true, false, not, ◌&&◌, ◌||◌, ℤ, int_le, List, [], ◌∷◌, filter, refl, sym, ap, arith, rules}
use Rattle.std.specs.List.{list_all}
use Rattle.std.specs.Cmp.{first_so, second_so}
use Rattle.std.specs.declared.cmp.Ordering.TheVariants.{Equal}
use Rattle.std.proofs.lemmas.Int.{ints}
use Rattle.eb_value.specs.declared.value.Value.{Value}
use Rattle.eb_value.specs.declared.value.Value as value_module
use Rattle.eb_value.specs.declared.value.Form.TheOpen as val
use Rattle.eb_value.specs.Values.{layer, compare, int, pair, set, is_ascending}
use Rattle.eb_value.specs.Comprehensions.{has as is_among}
use Rattle.int_dom.specs.declared.interval.Interval.{Interval}
use Rattle.int_dom.specs.Intervals as interval
use Rattle.occ_domains.specs.declared.body.Body.{Body, Body-F, out-Body, the_lemmas}
use Rattle.occ_domains.specs.declared.body.Body.TheOpen as body
use Rattle.occ_domains.specs.declared.body.Body.TheVariants as of
use Rattle.occ_domains.specs.Bodies.{is_plain, is_plain_layer, has, is_empty, is_empty_layer, is_list, is_filled, is_normal, integers, members, pairs, common, meet, meet_step}
use Rattle.occ_domains.proofs.ListLaws.{Transitive, both_so, all_filter, ascending_filter}
use Rattle.occ_domains.proofs.MeetLaws.{meet-empty, meet-integers, meet-members, meet-pairs, meet-sets}
use Rattle.occ_domains.proofs.BodyLaws.{ind_body, has-integers, has-members, has-pairs, has-sets, out-empty, out-members, out-pairs, out-integers, out-sets}

-- ---- at the constructors

pub filled-empty : is_filled of.Empty ≡ false
filled-empty = search (rules, the_lemmas)

pub filled-integers : (d : Interval) → is_filled (of.Integers d) ≡ not (interval.is_empty d)
filled-integers d = search (rules, the_lemmas)

pub filled-members : (xs : List Value) → is_filled (of.Members xs) ≡ is_list xs
filled-members xs = search (rules, the_lemmas)

pub filled-pairs : (a b : Body) → is_filled (of.Pairs a b) ≡ (is_filled a && is_filled b)
filled-pairs a b = search (rules, the_lemmas)

pub filled-sets : is_filled of.AllSets ≡ true
filled-sets = search (rules, the_lemmas)

pub layer-int : (n : ℤ) → layer (int n) ≡ val.Int n
layer-int n = search (rules, value_module.the_lemmas)

pub layer-pair : (a b : Value) → layer (pair a b) ≡ val.Pair a b
layer-pair a b = search (rules, value_module.the_lemmas)

pub layer-set : (xs : List Value) → layer (set xs) ≡ val.Set xs
layer-set xs = search (rules, value_module.the_lemmas)

-- ---- what is filled has a value

pub record Witness (b : Body) : Type 0 where
  pub value : Value
  pub is_in : has b value ≡ true

abbrev pub Reflexive : Type 0
Reflexive = (v : Value) → compare v v ≡ Equal

lower_end : (d : Interval) → not (interval.is_empty d) ≡ true → (int_le d.lo d.lo && int_le d.lo d.hi) ≡ true
lower_end d h = grind (arith, ints)

pub among_first : Reflexive → (x : Value) (xs : List Value) → is_among (x ∷ xs) x ≡ true
among_first reflexive x xs = rw (reflexive x) refl

first_of : Reflexive → (xs : List Value) → is_list xs ≡ true → Witness (of.Members xs)
first_of reflexive [] h = cc
first_of reflexive (x ∷ xs) h =
    let plain : (is_plain x && list_all is_plain xs) ≡ true = second_so (is_ascending (x ∷ xs)) (is_plain x && list_all is_plain xs) h in
    let plainly : is_plain_layer (layer x) ≡ true = first_so (is_plain x) (list_all is_plain xs) plain in
    record { value = x; is_in = has-members (x ∷ xs) x ∙ rw (plainly, among_first reflexive x xs) refl }

pub filled_has : Reflexive → (b : Body) → is_filled b ≡ true → Witness b
filled_has reflexive = ind_body (λ b. is_filled b ≡ true → Witness b) (record {
  none = λ h. let e : false ≡ true = sym filled-empty ∙ h in cc;
  integers = λ d h. record { value = int d.lo; is_in = has-integers d (int d.lo) ∙ rw (layer-int d.lo) (lower_end d (sym (filled-integers d) ∙ h)) };
  members = λ xs h. first_of reflexive xs (sym (filled-members xs) ∙ h);
  pairs = λ a b p q h.
      let both : (is_filled a && is_filled b) ≡ true = sym (filled-pairs a b) ∙ h in
      let x = p (first_so (is_filled a) (is_filled b) both) in
      let y = q (second_so (is_filled a) (is_filled b) both) in
      record { value = pair x.value y.value; is_in = has-pairs a b (pair x.value y.value) ∙ rw (layer-pair x.value y.value, x.is_in, y.is_in) refl };
  sets = λ h. record { value = set []; is_in = has-sets (set []) ∙ rw (layer-set []) refl };
})

later : (b c : Bool) → b ≡ false → (b || c) ≡ true → c ≡ true
later false c e h = h
later true c e h = cc

pub normal_filled : (b : Body) → is_normal b ≡ true → is_empty b ≡ false → is_filled b ≡ true
normal_filled b h e = later (is_empty b) (is_filled b) e h

pub normal_has : Reflexive → (b : Body) → is_normal b ≡ true → is_empty b ≡ false → Witness b
normal_has reflexive b h e = filled_has reflexive b (normal_filled b h e)

-- ---- what is made in normal form

or_so : (b c : Bool) → c ≡ true → (b || c) ≡ true
or_so true c h = refl
or_so false c h = h

pub filled_normal : (b : Body) → is_filled b ≡ true → is_normal b ≡ true
filled_normal b h = or_so (is_empty b) (is_filled b) h

pub empty_normal : is_normal of.Empty ≡ true
empty_normal = let e : is_empty of.Empty ≡ true = ap is_empty_layer out-empty in rw e refl

pub integers_normal : (d : Interval) → is_normal (integers d) ≡ true
integers_normal d = at (interval.is_empty d) refl where
  at : (b : Bool) → interval.is_empty d ≡ b → is_normal (integers d) ≡ true
  at true e = rw e empty_normal
  at false e = rw e (filled_normal (of.Integers d) (filled-integers d ∙ ap not e))

-- a list of members, or none
abbrev pub is_listed : List Value → Bool
is_listed xs = is_ascending xs && list_all is_plain xs

pub members_normal : (xs : List Value) → is_listed xs ≡ true → is_normal (members xs) ≡ true
members_normal [] h = empty_normal
members_normal (x ∷ xs) h = filled_normal (of.Members (x ∷ xs)) (filled-members (x ∷ xs) ∙ h)

pub pairs_normal : (a b : Body) → is_normal a ≡ true → is_normal b ≡ true → is_normal (pairs a b) ≡ true
pairs_normal a b h k = at (is_empty a) (is_empty b) refl refl where
  at : (c d : Bool) → is_empty a ≡ c → is_empty b ≡ d → is_normal (pairs a b) ≡ true
  at true d e f = rw e empty_normal
  at false true e f = rw (e, f) empty_normal
  at false false e f = rw (e, f) (filled_normal (of.Pairs a b) (filled-pairs a b ∙ rw (normal_filled a h e, normal_filled b k f) refl))

-- ---- the meet

-- what is not of the empty body is filled
pub normal_members : (xs : List Value) → is_normal (of.Members xs) ≡ true → is_list xs ≡ true
normal_members xs h =
    let e : is_empty (of.Members xs) ≡ false = ap is_empty_layer (out-members xs) in
    sym (filled-members xs) ∙ normal_filled (of.Members xs) h e

pub normal_pairs : (a b : Body) → is_normal (of.Pairs a b) ≡ true → (is_filled a ≡ true) × (is_filled b ≡ true)
normal_pairs a b h =
    let e : is_empty (of.Pairs a b) ≡ false = ap is_empty_layer (out-pairs a b) in
    let k : (is_filled a && is_filled b) ≡ true = sym (filled-pairs a b) ∙ normal_filled (of.Pairs a b) h e in
    (first_so (is_filled a) (is_filled b) k, second_so (is_filled a) (is_filled b) k)

pub list_listed : (xs : List Value) → is_list xs ≡ true → is_listed xs ≡ true
list_listed [] h = refl
list_listed (x ∷ xs) h = h

pub filter_normal : Transitive → (q : Value → Bool) (xs : List Value) → is_listed xs ≡ true → is_normal (members (filter q xs)) ≡ true
filter_normal transitive q xs h =
    members_normal (filter q xs) (both_so (is_ascending (filter q xs)) (list_all is_plain (filter q xs))
    (ascending_filter transitive q xs (first_so (is_ascending xs) (list_all is_plain xs) h))
    (all_filter is_plain q xs (second_so (is_ascending xs) (list_all is_plain xs) h)))

pub sets_normal : is_normal of.AllSets ≡ true
sets_normal = filled_normal of.AllSets filled-sets

abbrev Keeps : Body-F (Body → Body) → Type 0
Keeps s = (z : Body-F Body) → is_normal (meet_step s z) ≡ true

keep_integers : (c : Interval) → Keeps (body.Integers c)
keep_integers c (body.Integers d) = integers_normal (common c d)
keep_integers c _ = empty_normal

keep_members : Transitive → (xs : List Value) → is_listed xs ≡ true → Keeps (body.Members xs)
keep_members transitive xs h (body.Members ys) = filter_normal transitive (is_among ys) xs h
keep_members transitive xs h _ = empty_normal

keep_pairs : (a b : Body) → ((c : Body) → is_normal (meet a c) ≡ true) → ((d : Body) → is_normal (meet b d) ≡ true) → Keeps (body.Pairs (meet a) (meet b))
keep_pairs a b h k (body.Pairs c d) = pairs_normal (meet a c) (meet b d) (h c) (k d)
keep_pairs a b h k _ = empty_normal

keep_sets : Keeps body.AllSets
keep_sets body.AllSets = sets_normal
keep_sets _ = empty_normal

pub meet_normal : Transitive → (a : Body) → is_normal a ≡ true → (b : Body) → is_normal (meet a b) ≡ true
meet_normal transitive = ind_body (λ a. is_normal a ≡ true → (b : Body) → is_normal (meet a b) ≡ true) (record {
  none = λ h b. rw (meet-empty b) empty_normal;
  integers = λ c h b. rw (meet-integers c b) (keep_integers c (out-Body b));
  members = λ xs h b. rw (meet-members xs b) (keep_members transitive xs (list_listed xs (normal_members xs h)) (out-Body b));
  pairs = λ a c p q h b.
      let parts = normal_pairs a c h in
      rw (meet-pairs a c b) (keep_pairs a c (p (filled_normal a parts.0)) (q (filled_normal c parts.1)) (out-Body b));
  sets = λ h b. rw (meet-sets b) (keep_sets (out-Body b));
})

-- the parts of pairs in normal form are in normal form
pub normal_parts : (b x y : Body) → is_normal b ≡ true → out-Body b ≡ body.Pairs x y → (is_normal x ≡ true) × (is_normal y ≡ true)
normal_parts = ind_body (λ b. (x y : Body) → is_normal b ≡ true → out-Body b ≡ body.Pairs x y → (is_normal x ≡ true) × (is_normal y ≡ true)) (record {
  none = λ x y h e. let k : body.Empty ≡ body.Pairs x y = sym out-empty ∙ e in cc;
  integers = λ d x y h e. let k : body.Integers d ≡ body.Pairs x y = sym (out-integers d) ∙ e in cc;
  members = λ xs x y h e. let k : body.Members xs ≡ body.Pairs x y = sym (out-members xs) ∙ e in cc;
  pairs = λ a c p q x y h e.
      let k : body.Pairs a c ≡ body.Pairs x y = sym (out-pairs a c) ∙ e in
      let n = normal_pairs a c h in
      (subst (λ z. is_normal z ≡ true) (first_is a c x y k) (filled_normal a n.0), subst (λ z. is_normal z ≡ true) (second_is a c x y k) (filled_normal c n.1));
  sets = λ x y h e. let k : body.AllSets ≡ body.Pairs x y = sym out-sets ∙ e in cc;
}) where
  first_is : (a c x y : Body) → body.Pairs a c ≡ body.Pairs x y → a ≡ x
  first_is a c x y e = cc

  second_is : (a c x y : Body) → body.Pairs a c ≡ body.Pairs x y → c ≡ y
  second_is a c x y e = cc
