-- partition(s, s1, ..) in narrow form: s is the union of the others, and what stood before has an empty intersection with each.
use Rattle.std.proofs.Common.{◌≡◌, ◌∙◌, Bool, true, false, not, ◌&&◌, ◌||◌, if◌then◌else◌, List, [], ◌∷◌, ◌++◌, map, filter, Option, Some, None, option_map, ◌⊎◌, inl, inr, ⊎_elim, refl, sym, ap, ap₂, subst}
use Rattle.std.specs.List.{list_all, flat_map}
use Rattle.std.specs.Cmp.{first_so, second_so}
use Rattle.std.specs.Ordering.{is_lt}
use Rattle.eb_syntax.specs.declared.ast.Operator.TheVariants as op
use Rattle.eb_value.specs.declared.scope.Scope.{Scope}
use Rattle.eb_value.specs.declared.types.EbType.{EbType}
use Rattle.eb_value.specs.declared.value.Value.{Value}
use Rattle.eb_value.specs.Canonical.{IsCanonical, AreCanonical}
use Rattle.eb_value.specs.Canonical as canonical
use Rattle.eb_value.specs.Types.{power}
use Rattle.eb_value.specs.Typing.{has_type}
use Rattle.eb_value.specs.Values.{set, is_ascending, compare}
use Rattle.eb_value.specs.Comprehensions as sets
use Rattle.eb_value.specs.Comprehensions.{members, same, insert, set_of}
use Rattle.eb_term.specs.declared.term.Term.{Term}
use Rattle.eb_operations.specs.declared.truth3.Truth3.{Truth3}
use Rattle.eb_meaning.specs.Truths as truths
use Rattle.eb_meaning.specs.Truths.{truth_of, tested, for_all}
use Rattle.eb_meaning.specs.Meaning.{Slot, Env, value_of, truth_in, with_two, test_by, value_by, all_values, is_partition, are_disjoint, is_empty}
use Rattle.eb_meaning.specs.Fitting.{slot_has_type}
use Rattle.narrow_terms.specs.Building as built
use Rattle.eb_narrow.proofs.Hypotheses.{Laws}
use Rattle.eb_narrow.proofs.Truths.{both_truths}
use Rattle.eb_narrow.proofs.Views.{set_view, layer-set, members-set, same-empty, same_so}
use Rattle.eb_narrow.proofs.Members.{has_contains, contains_has}
use Rattle.eb_narrow.proofs.Products.{or_assoc, has_set_of, has_joined}
use Rattle.eb_narrow.proofs.Pieces.{truth_equal, truth_both_on, value_operation, value_literal}
use Rattle.eb_narrow.proofs.Represents.{Fits}
use Rattle.eb_narrow.proofs.Binders.{canonical_joined}

-- ---- by the slots of the parts

abbrev union_slots : Slot → List Slot → Slot
union_slots b [] = b
union_slots b (o ∷ os) = union_slots (with_two (value_by op.Union) b o) os

abbrev apart_slots : Slot → List Slot → List Truth3
apart_slots b [] = []
apart_slots b (o ∷ os) = tested (with_two (test_by op.Equal) (with_two (value_by op.Intersection) b o) (Some (set []))) ∷ apart_slots (with_two (value_by op.Union) b o) os

abbrev slots_union : List Slot → Slot
slots_union [] = Some (set [])
slots_union (o ∷ os) = union_slots o os

abbrev slots_apart : List Slot → List Truth3
slots_apart [] = []
slots_apart (o ∷ os) = apart_slots o os

value_union_on : (scope : Scope) (env : Env) (s : Term) (ss : List Term) → value_of scope env (built.union_on s ss) ≡ union_slots (value_of scope env s) (map (value_of scope env) ss)
value_union_on scope env s [] = refl
value_union_on scope env s (t ∷ ts) =
    value_union_on scope env (built.operation op.Union s t) ts ∙ ap (λ b. union_slots b (map (value_of scope env) ts)) (value_operation scope env op.Union s t)

value_union_of : (scope : Scope) (env : Env) (u : EbType) (ss : List Term) → value_of scope env (built.union_of u ss) ≡ slots_union (map (value_of scope env) ss)
value_union_of scope env u [] = value_literal scope env (set []) u
value_union_of scope env u (s ∷ ss) = value_union_on scope env s ss

truths_apart : (scope : Scope) (env : Env) (u : EbType) (before : Term) (ss : List Term) → map (truth_in scope env) (built.are_apart u before ss) ≡ apart_slots (value_of scope env before) (map (value_of scope env) ss)
truths_apart scope env u before [] = refl
truths_apart scope env u before (s ∷ ss) =
    ap₂ (λ p ps. p ∷ ps)
    (truth_equal scope env (built.operation op.Intersection before s) (built.empty_set u)
    ∙ ap₂ (λ a b. tested (with_two (test_by op.Equal) a b)) (value_operation scope env op.Intersection before s) (value_literal scope env (set []) u))
    (truths_apart scope env u (built.operation op.Union before s) ss ∙ ap (λ b. apart_slots b (map (value_of scope env) ss)) (value_operation scope env op.Union before s))

truths_disjoint : (scope : Scope) (env : Env) (u : EbType) (ss : List Term) → map (truth_in scope env) (built.disjoint_parts u ss) ≡ slots_apart (map (value_of scope env) ss)
truths_disjoint scope env u [] = refl
truths_disjoint scope env u (s ∷ ss) = truths_apart scope env u s ss

abbrev partition_slots : Slot → List Slot → Truth3
partition_slots a os = for_all (tested (with_two (test_by op.Equal) a (slots_union os)) ∷ slots_apart os)

truth_partition : (scope : Scope) (env : Env) (u : EbType) (s : Term) (ss : List Term) → truth_in scope env (built.partition u (s ∷ ss)) ≡ partition_slots (value_of scope env s) (map (value_of scope env) ss)
truth_partition scope env u s ss =
    truth_both_on scope env (built.equal s (built.union_of u ss)) (built.disjoint_parts u ss)
    ∙ ap₂ (λ p ps. for_all (p ∷ ps))
    (truth_equal scope env s (built.union_of u ss) ∙ ap (λ b. tested (with_two (test_by op.Equal) (value_of scope env s) b)) (value_union_of scope env u ss))
    (truths_disjoint scope env u ss)

-- ---- where a part is Undefined

none_stays : (os : List Slot) → union_slots None os ≡ None
none_stays [] = refl
none_stays (o ∷ os) = none_stays os

more_none : (v : Value) (o : Option (List Value)) → option_map (λ vs. v ∷ vs) o ≡ None → o ≡ None
more_none v None e = refl
more_none v (Some vs) e = absurd (cc (e))

with_none : (b : Slot) → with_two (value_by op.Union) b None ≡ None
with_none None = refl
with_none (Some v) = refl

union_none : (b : Slot) (os : List Slot) → all_values os ≡ None → union_slots b os ≡ None
union_none b [] e = absurd (cc (e))
union_none b (None ∷ os) e = ap (λ o. union_slots o os) (with_none b) ∙ none_stays os
union_none b (Some v ∷ os) e = union_none (with_two (value_by op.Union) b (Some v)) os (more_none v (all_values os) e)

slots_none : (os : List Slot) → all_values os ≡ None → slots_union os ≡ None
slots_none [] e = absurd (cc (e))
slots_none (None ∷ os) e = none_stays os
slots_none (Some v ∷ os) e = union_none (Some v) os (more_none v (all_values os) e)

-- ---- where all parts are sets

abbrev of_sets : List (List Value) → List Slot
of_sets xss = map (λ xs. Some (set xs)) xss

abbrev AreSets : List (List Value) → Type 0
AreSets [] = Unit {0}
AreSets (xs ∷ xss) = IsCanonical (set xs) × AreSets xss

record Sets (os : List Slot) : Type 0 where
  pub inner : List (List Value)
  pub is : os ≡ of_sets inner
  pub sets : AreSets inner

one_more_set : Laws → (scope : Scope) (u : EbType) (v : Value) (os : List Slot) → Fits scope (power u) (Some v) → Sets os → Sets (Some v ∷ os)
one_more_set laws scope u v os f s =
    let z = set_view laws scope u v f in
    record { inner = z.inner ∷ s.inner; is = ap₂ (λ v os. Some v ∷ os) z.is s.is; sets = (subst IsCanonical z.is (laws.canonical scope v (power u) f), s.sets) }

sets_or_none : Laws → (scope : Scope) (u : EbType) (os : List Slot) → list_all (λ o. slot_has_type scope o (power u)) os ≡ true → Sets os ⊎ (all_values os ≡ None)
sets_or_none laws scope u [] f = inl (record { inner = []; is = refl; sets = tt })
sets_or_none laws scope u (None ∷ os) f = inr refl
sets_or_none laws scope u (Some v ∷ os) f =
    ⊎_elim (λ s. inl (one_more_set laws scope u v os (first_so (has_type scope v (power u)) (list_all (λ o. slot_has_type scope o (power u)) os) f) s)) (λ e. inr (ap (option_map (λ vs. v ∷ vs)) e))
    (sets_or_none laws scope u os (second_so (has_type scope v (power u)) (list_all (λ o. slot_has_type scope o (power u)) os) f))

all_sets : (xss : List (List Value)) → all_values (of_sets xss) ≡ Some (map set xss)
all_sets [] = refl
all_sets (xs ∷ xss) = ap (option_map (λ vs. set xs ∷ vs)) (all_sets xss)

members_back : (xss : List (List Value)) → map members (map set xss) ≡ xss
members_back [] = refl
members_back (xs ∷ xss) = ap₂ (λ ys yss. ys ∷ yss) (members-set xs) (members_back xss)

union_given : (xs ys : List Value) → value_by op.Union (set xs) (set ys) ≡ Some (set (sets.union xs ys))
union_given xs ys = rw (layer-set xs, layer-set ys) refl

meet_given : (xs ys : List Value) → value_by op.Intersection (set xs) (set ys) ≡ Some (set (sets.meet xs ys))
meet_given xs ys = rw (layer-set xs, layer-set ys) refl

abbrev unions_on : List Value → List (List Value) → List Value
unions_on xs [] = xs
unions_on xs (ys ∷ yss) = unions_on (sets.union xs ys) yss

abbrev unions : List (List Value) → List Value
unions [] = []
unions (xs ∷ xss) = unions_on xs xss

abbrev apart_on : List Value → List (List Value) → Bool
apart_on xs [] = true
apart_on xs (ys ∷ yss) = is_empty (sets.meet xs ys) && apart_on (sets.union xs ys) yss

abbrev apart : List (List Value) → Bool
apart [] = true
apart (xs ∷ xss) = apart_on xs xss

union_slots_at : (xs : List Value) (xss : List (List Value)) → union_slots (Some (set xs)) (of_sets xss) ≡ Some (set (unions_on xs xss))
union_slots_at xs [] = refl
union_slots_at xs (ys ∷ yss) = ap (λ b. union_slots b (of_sets yss)) (union_given xs ys) ∙ union_slots_at (sets.union xs ys) yss

slots_union_at : (xss : List (List Value)) → slots_union (of_sets xss) ≡ Some (set (unions xss))
slots_union_at [] = refl
slots_union_at (xs ∷ xss) = union_slots_at xs xss

apart_slots_at : (xs : List Value) (xss : List (List Value)) → for_all (apart_slots (Some (set xs)) (of_sets xss)) ≡ truth_of (apart_on xs xss)
apart_slots_at xs [] = refl
apart_slots_at xs (ys ∷ yss) =
    ap₂ truths.both
    (ap (λ b. tested (with_two (test_by op.Equal) b (Some (set [])))) (meet_given xs ys) ∙ ap truth_of (same-empty (sets.meet xs ys)))
    (ap (λ b. for_all (apart_slots b (of_sets yss))) (union_given xs ys) ∙ apart_slots_at (sets.union xs ys) yss)
    ∙ both_truths (is_empty (sets.meet xs ys)) (apart_on (sets.union xs ys) yss)

slots_apart_at : (xss : List (List Value)) → for_all (slots_apart (of_sets xss)) ≡ truth_of (apart xss)
slots_apart_at [] = refl
slots_apart_at (xs ∷ xss) = apart_slots_at xs xss

-- ---- the union of all

same_ascending : Laws → (xs ys : List Value) → is_ascending xs ≡ true → is_ascending ys ≡ true → ((v : Value) → sets.has xs v ≡ sets.has ys v) → xs ≡ ys
same_ascending laws xs ys c d h = laws.determine xs ys c d (λ v. (λ m. has_contains laws ys v (sym (h v) ∙ contains_has laws xs v m), λ m. has_contains laws xs v (h v ∙ contains_has laws ys v m)))

or_false : (a : Bool) → a ≡ (a || false)
or_false true = refl
or_false false = refl

has_unions_on : Laws → (xs : List Value) (xss : List (List Value)) (v : Value) → sets.has (unions_on xs xss) v ≡ (sets.has xs v || sets.has (flat_map (λ s. s) xss) v)
has_unions_on laws xs [] v = or_false (sets.has xs v)
has_unions_on laws xs (ys ∷ yss) v =
    has_unions_on laws (sets.union xs ys) yss v
    ∙ (ap (λ b. b || sets.has (flat_map (λ s. s) yss) v) (has_set_of laws (xs ++ ys) v ∙ has_joined xs ys v)
    ∙ (or_assoc (sets.has xs v) (sets.has ys v) (sets.has (flat_map (λ s. s) yss) v)
    ∙ ap (λ b. sets.has xs v || b) (sym (has_joined ys (flat_map (λ s. s) yss) v))))

unions_canonical : Laws → (xs : List Value) (xss : List (List Value)) → IsCanonical (set xs) → AreSets xss → IsCanonical (set (unions_on xs xss))
unions_canonical laws xs [] c cs = c
unions_canonical laws xs (ys ∷ yss) c cs = unions_canonical laws (sets.union xs ys) yss (laws.union xs ys (laws.sets xs c).1 (laws.sets ys cs.0).1) cs.1

flat_canonical : Laws → (xss : List (List Value)) → AreSets xss → AreCanonical (flat_map (λ s. s) xss)
flat_canonical laws [] cs = canonical.none
flat_canonical laws (xs ∷ xss) cs = canonical_joined xs (flat_map (λ s. s) xss) (laws.sets xs cs.0).1 (flat_canonical laws xss cs.1)

unions_all : Laws → (xss : List (List Value)) → AreSets xss → unions xss ≡ sets.union_of xss
unions_all laws [] cs = refl
unions_all laws (xs ∷ xss) cs =
    same_ascending laws (unions_on xs xss) (sets.union_of (xs ∷ xss)) (laws.sets (unions_on xs xss) (unions_canonical laws xs xss cs.0 cs.1)).0
    (laws.sets (sets.union_of (xs ∷ xss)) (laws.set_of (flat_map (λ s. s) (xs ∷ xss)) (flat_canonical laws (xs ∷ xss) cs))).0
    (λ v. has_unions_on laws xs xss v ∙ (sym (has_joined xs (flat_map (λ s. s) xss) v) ∙ sym (has_set_of laws (flat_map (λ s. s) (xs ∷ xss)) v)))

-- ---- disjoint sets

insert_some : (v : Value) (ws : List Value) → is_empty (insert v ws) ≡ false
insert_some v [] = refl
insert_some v (w ∷ ws) = either_some (is_lt (compare v w)) (same v w)
  where
    either_some : (lt eq : Bool) → is_empty (if lt then (v ∷ w ∷ ws) else (if eq then (w ∷ ws) else (w ∷ insert v ws))) ≡ false
    either_some true eq = refl
    either_some false true = refl
    either_some false false = refl

empty_set_of : (zs : List Value) → is_empty (set_of zs) ≡ is_empty zs
empty_set_of [] = refl
empty_set_of (z ∷ zs) = insert_some z (set_of zs)

empty_if : (b : Bool) (x : Value) (xs : List Value) (c : Bool) → is_empty xs ≡ c → is_empty (if b then (x ∷ xs) else xs) ≡ (not b && c)
empty_if true x xs c e = refl
empty_if false x xs c e = e

empty_filter : (p : Value → Bool) (xs : List Value) → is_empty (filter p xs) ≡ list_all (λ v. not (p v)) xs
empty_filter p [] = refl
empty_filter p (x ∷ xs) = empty_if (p x) x (filter p xs) (list_all (λ v. not (p v)) xs) (empty_filter p xs)

-- no value of the first is in the second
abbrev Apart : List Value → List Value → Bool
Apart s t = list_all (λ v. not (sets.has t v)) s

empty_meet : (xs ys : List Value) → is_empty (sets.meet xs ys) ≡ Apart xs ys
empty_meet xs ys = empty_set_of (filter (sets.has ys) xs) ∙ empty_filter (sets.has ys) xs

and_swap : (a b c : Bool) → (b && (a && c)) ≡ (a && (b && c))
and_swap true b c = refl
and_swap false true c = refl
and_swap false false c = refl

and_twice : (a c : Bool) → (a && c) ≡ (a && (a && c))
and_twice true c = refl
and_twice false c = refl

and_assoc : (a b c : Bool) → ((a && b) && c) ≡ (a && (b && c))
and_assoc true b c = refl
and_assoc false b c = refl

all_insert_if : Laws → (p : Value → Bool) (w z : Value) (zs : List Value) (lt eq : Bool) → eq ≡ same w z → list_all p (insert w zs) ≡ (p w && list_all p zs)
    → list_all p (if lt then (w ∷ z ∷ zs) else (if eq then (z ∷ zs) else (z ∷ insert w zs))) ≡ (p w && (p z && list_all p zs))
all_insert_if laws p w z zs true eq e h = refl
all_insert_if laws p w z zs false true e h = rw (ap p (same_so laws w z (sym e))) (and_twice (p z) (list_all p zs))
all_insert_if laws p w z zs false false e h = ap (λ b. p z && b) h ∙ and_swap (p w) (p z) (list_all p zs)

all_insert : Laws → (p : Value → Bool) (w : Value) (zs : List Value) → list_all p (insert w zs) ≡ (p w && list_all p zs)
all_insert laws p w [] = refl
all_insert laws p w (z ∷ zs) = all_insert_if laws p w z zs (is_lt (compare w z)) (same w z) refl (all_insert laws p w zs)

all_set_of : Laws → (p : Value → Bool) (zs : List Value) → list_all p (set_of zs) ≡ list_all p zs
all_set_of laws p [] = refl
all_set_of laws p (z ∷ zs) = all_insert laws p z (set_of zs) ∙ ap (λ b. p z && b) (all_set_of laws p zs)

all_joined : (p : Value → Bool) (xs ys : List Value) → list_all p (xs ++ ys) ≡ (list_all p xs && list_all p ys)
all_joined p [] ys = refl
all_joined p (x ∷ xs) ys = ap (λ b. p x && b) (all_joined p xs ys) ∙ sym (and_assoc (p x) (list_all p xs) (list_all p ys))

four : (a b c d : Bool) → ((a && b) && (c && d)) ≡ ((a && c) && (b && d))
four true b true d = refl
four true true false d = refl
four true false false d = refl
four false b c d = refl

all_apart : Laws → (xs ys : List Value) (zss : List (List Value)) → list_all (λ t. Apart (sets.union xs ys) t) zss ≡ (list_all (λ t. Apart xs t) zss && list_all (λ t. Apart ys t) zss)
all_apart laws xs ys [] = refl
all_apart laws xs ys (zs ∷ zss) =
    ap₂ (λ a b. a && b) (all_set_of laws (λ v. not (sets.has zs v)) (xs ++ ys) ∙ all_joined (λ v. not (sets.has zs v)) xs ys) (all_apart laws xs ys zss)
    ∙ four (Apart xs zs) (Apart ys zs) (list_all (λ t. Apart xs t) zss) (list_all (λ t. Apart ys t) zss)

regrouped : (d a b c : Bool) → (d && ((a && b) && c)) ≡ ((d && a) && (b && c))
regrouped true true b c = refl
regrouped true false b c = refl
regrouped false a b c = refl

apart_disjoint : Laws → (xs : List Value) (xss : List (List Value)) → apart_on xs xss ≡ are_disjoint (xs ∷ xss)
apart_disjoint laws xs [] = refl
apart_disjoint laws xs (ys ∷ yss) =
    ap₂ (λ a b. a && b) (empty_meet xs ys) (apart_disjoint laws (sets.union xs ys) yss ∙ ap (λ b. b && are_disjoint yss) (all_apart laws xs ys yss))
    ∙ regrouped (Apart xs ys) (list_all (λ t. Apart xs t) yss) (list_all (λ t. Apart ys t) yss) (are_disjoint yss)

all_disjoint : Laws → (xss : List (List Value)) → apart xss ≡ are_disjoint xss
all_disjoint laws [] = refl
all_disjoint laws (xs ∷ xss) = apart_disjoint laws xs xss

-- ---- both together

partition_at : Laws → (v : Value) (xss : List (List Value)) → AreSets xss → partition_slots (Some v) (of_sets xss) ≡ tested (option_map is_partition (all_values (Some v ∷ of_sets xss)))
partition_at laws v xss cs =
    ap₂ (λ o p. truths.both (tested (with_two (test_by op.Equal) (Some v) o)) p) (slots_union_at xss ∙ ap (λ xs. Some (set xs)) (unions_all laws xss cs)) (slots_apart_at xss ∙ ap truth_of (all_disjoint laws xss))
    ∙ (both_truths (same v (set (sets.union_of xss))) (are_disjoint xss)
    ∙ (ap (λ yss. truth_of (same v (set (sets.union_of yss)) && are_disjoint yss)) (sym (members_back xss))
    ∙ ap (λ o. tested (option_map is_partition (option_map (λ vs. v ∷ vs) o))) (sym (all_sets xss))))

partition_given : Laws → (v : Value) (os : List Slot) → Sets os ⊎ (all_values os ≡ None) → partition_slots (Some v) os ≡ tested (option_map is_partition (all_values (Some v ∷ os)))
partition_given laws v os (inl s) = subst (λ os. partition_slots (Some v) os ≡ tested (option_map is_partition (all_values (Some v ∷ os)))) (sym s.is) (partition_at laws v s.inner s.sets)
partition_given laws v os (inr e) =
    ap (λ o. truths.both (tested (with_two (test_by op.Equal) (Some v) o)) (for_all (slots_apart os))) (slots_none os e) ∙ ap (λ o. tested (option_map is_partition (option_map (λ vs. v ∷ vs) o))) (sym e)

partition_slots_is : Laws → (scope : Scope) (u : EbType) (a : Slot) (os : List Slot) → list_all (λ o. slot_has_type scope o (power u)) os ≡ true → partition_slots a os ≡ tested (option_map is_partition (all_values (a ∷ os)))
partition_slots_is laws scope u None os f = refl
partition_slots_is laws scope u (Some v) os f = partition_given laws v os (sets_or_none laws scope u os f)

-- the truth of a partition in narrow form, by the values of its parts
pub partition_keeps : Laws → (scope : Scope) (env : Env) (u t : EbType) (s : Term) (ss : List Term) (a : Slot) (os : List Slot) → value_of scope env s ≡ a → map (value_of scope env) ss ≡ os
    → list_all (λ o. slot_has_type scope o (power u)) os ≡ true
    → truth_in scope env (built.partition t (s ∷ ss)) ≡ tested (option_map is_partition (all_values (a ∷ os)))
partition_keeps laws scope env u t s ss a os p q f = truth_partition scope env t s ss ∙ (ap₂ partition_slots p q ∙ partition_slots_is laws scope u a os f)
