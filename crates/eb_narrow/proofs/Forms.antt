-- Sets to the right of a membership, form by form.
use Rattle.std.proofs.Common.{◌≡◌, ◌∙◌, ℕ, Bool, true, false, not, ◌&&◌, List, [], ◌∷◌, ◌++◌, length, map, Option, Some, None, ℤ, pos, int_le, refl, sym, ap, ap₂, subst}
use Rattle.std.specs.List.{list_all}
use Rattle.std.specs.Cmp.{first_so, second_so}
use Rattle.eb_syntax.specs.declared.ast.Operator.TheVariants as op
use Rattle.eb_value.specs.declared.scope.Scope.{Scope}
use Rattle.eb_value.specs.declared.types.EbType.{EbType}
use Rattle.eb_value.specs.declared.value.Value.{Value}
use Rattle.eb_value.specs.Types.{integer, power}
use Rattle.eb_value.specs.Values.{int, set}
use Rattle.eb_value.specs.Typing.{has_type, have_type}
use Rattle.eb_value.specs.Comprehensions.{members, same}
use Rattle.eb_term.specs.declared.operators.Infinite.{Infinite}
use Rattle.eb_term.specs.declared.operators.Infinite.TheVariants as infinite
use Rattle.eb_term.specs.declared.operators.Binary.TheVariants as binary
use Rattle.eb_term.specs.declared.term.Term.{Term}
use Rattle.eb_term.specs.Terms as term
use Rattle.eb_operations.specs.declared.truth3.Truth3.TheVariants.{True}
use Rattle.eb_meaning.specs.Truths as truths
use Rattle.eb_meaning.specs.Truths.{truth_of, tested}
use Rattle.eb_meaning.specs.Arithmetic.{int_of, interval}
use Rattle.eb_meaning.specs.Meaning.{Slot, Env, Meaning, meaning, value_of, truth_in, with_two, with_ints, test_by, value_by, where_given, is_value, has_value, is_value_of, part_of, is_set, is_empty, is_nonempty_set, maplet_passes, int_passes}
use Rattle.eb_meaning.specs.Meaning as means
use Rattle.narrow_terms.specs.Shifting.{shift}
use Rattle.narrow_terms.specs.Building as built
use Rattle.narrow_terms.specs.Building.{negation, both, equal, at_most, empty_set}
use Rattle.eb_narrow.specs.Narrow as narrow
use Rattle.eb_narrow.specs.Narrow.{Narrowed}
use Rattle.eb_narrow.proofs.Hypotheses.{Laws}
use Rattle.eb_narrow.proofs.Sights.{Sight, seen, of_value}
use Rattle.eb_narrow.proofs.Shifts.{env_of, binary_is}
use Rattle.eb_narrow.proofs.Truths.{if_given, given_none, both_undefined, both_truths}
use Rattle.eb_narrow.proofs.Views.{both_so, int_view, set_view, layer-set, int_of-int, members-set, same-empty}
use Rattle.eb_narrow.proofs.Members.{in_interval}
use Rattle.eb_narrow.proofs.Pieces.{truth_both, truth_not, truth_equal, truth_at_most, truth_is_defined, value_literal, value_shifted}
use Rattle.eb_narrow.proofs.Represents.{Fits, MayBeIn, Represents, of_form, is_of_members, members_typed, form_represents, plain_represents}

-- tests that agree on the type
pub same_test : (scope : Scope) (t : EbType) (g : Bool) (p q : Value → Bool) (a : Slot) → Fits scope t a → ((v : Value) → has_type scope v t ≡ true → p v ≡ q v) → where_given g p a ≡ where_given g q a
same_test scope t false p q a f k = refl
same_test scope t true p q None f k = refl
same_test scope t true p q (Some v) f k = ap truth_of (k v f)

pub set_is_set : (xs : List Value) → is_set (set xs) ≡ true
set_is_set xs = rw (layer-set xs) refl

typed_is_set : Laws → (scope : Scope) (u : EbType) (v : Value) → has_type scope v (power u) ≡ true → is_set v ≡ true
typed_is_set laws scope u v h = let s = set_view laws scope u v h in subst (λ w. is_set w ≡ true) (sym s.is) (set_is_set s.inner)

pub given_by_all : (xs ys : List Slot) → list_all is_value (xs ++ ys) ≡ (list_all is_value xs && list_all is_value ys)
given_by_all [] ys = refl
given_by_all (None ∷ xs) ys = refl
given_by_all (Some v ∷ xs) ys = given_by_all xs ys

pub map_joined : {A B : Type 0} (f : A → B) (xs ys : List A) → map f (xs ++ ys) ≡ map f xs ++ map f ys
map_joined f [] ys = refl
map_joined f (x ∷ xs) ys = ap (λ zs. f x ∷ zs) (map_joined f xs ys)

-- ---- sets of sets

nonempty_bools : (p q : Bool) → truths.both (truth_of p) (truths.negation (truth_of q)) ≡ truth_of (not q && p)
nonempty_bools true true = refl
nonempty_bools true false = refl
nonempty_bools false true = refl
nonempty_bools false false = refl

nonempty_set : (xs : List Value) → is_nonempty_set (set xs) ≡ not (is_empty xs)
nonempty_set xs = rw (layer-set xs) refl

nonempty_at : (xs : List Value) (p : Value → Bool) → truths.both (truth_of (p (set xs))) (truths.negation (truth_of (same (set xs) (set [])))) ≡ truth_of (is_nonempty_set (set xs) && p (set xs))
nonempty_at xs p = rw (same-empty xs, nonempty_set xs) (nonempty_bools (p (set xs)) (is_empty xs))

nonempty_test : Laws → (scope : Scope) (u : EbType) (g : Bool) (p : Value → Bool) (a : Slot) → Fits scope (power u) a
    → truths.both (where_given g p a) (truths.negation (tested (with_two (test_by op.Equal) a (Some (set []))))) ≡ where_given g (λ v. is_nonempty_set v && p v) a
nonempty_test laws scope u false p a f = refl
nonempty_test laws scope u true p None f = refl
nonempty_test laws scope u true p (Some v) f =
    let s = set_view laws scope u v f in
    subst (λ w. truths.both (truth_of (p w)) (truths.negation (truth_of (same w (set [])))) ≡ truth_of (is_nonempty_set w && p w)) (sym s.is) (nonempty_at s.inner p)

module _ (laws : Laws) (scope : Scope) (refs : List Slot) (bound : List Value) (u : EbType) (ty : Option EbType) (f : Narrowed) (F : Sight) (known : Represents scope refs bound (power u) f F) where
  pub power_represents : Represents scope refs bound (power (power u)) (narrow.power_set ty f) (of_form F.is_given (λ v. is_set v && list_all F.has (members v)))
  power_represents = form_represents laws scope refs bound (power u) ty f.values f.has_members F.is_given (λ v. is_set v && list_all F.has (members v)) known.given
      (λ more e k. let fit : Fits scope (power u) (value_of scope (env_of refs (bound ++ more)) e) = is_of_members scope (power u) (value_of scope (env_of refs (bound ++ more)) e) k in
      known.within more e fit
      ∙ same_test scope (power u) F.is_given (λ v. list_all F.has (members v)) (λ v. is_set v && list_all F.has (members v)) (value_of scope (env_of refs (bound ++ more)) e) fit
      (λ v h. rw (typed_is_set laws scope u v h) refl))

  pub nonempty_power_represents : Represents scope refs bound (power (power u)) (narrow.nonempty_power_set ty f) (of_form F.is_given (λ v. is_nonempty_set v && list_all F.has (members v)))
  nonempty_power_represents = form_represents laws scope refs bound (power u) ty f.values (λ d x e. both (f.has_members d x e) (negation (equal e (empty_set (narrow.type_or_any f.ty)))))
      F.is_given (λ v. is_nonempty_set v && list_all F.has (members v)) known.given
      (λ more e k. let env : Env = env_of refs (bound ++ more) in
      let empty : Term = empty_set (narrow.type_or_any f.ty) in
      let fit : Fits scope (power u) (value_of scope env e) = is_of_members scope (power u) (value_of scope env e) k in
      truth_both scope env (f.has_members (length bound) (length more) e) (negation (equal e empty))
      ∙ (ap₂ truths.both (known.within more e fit)
      (truth_not scope env (equal e empty) ∙ ap truths.negation (truth_equal scope env e empty ∙ ap (λ b. tested (with_two (test_by op.Equal) (value_of scope env e) b)) (value_literal scope env (set []) (narrow.type_or_any f.ty))))
      ∙ nonempty_test laws scope u F.is_given (λ v. list_all F.has (members v)) (value_of scope env e) fit))

-- ---- the integers

least_at : (k n : ℤ) → with_ints (λ a b. Some (int_le a b)) (int k) (int n) ≡ Some (int_passes (λ j. int_le k j) (int_of (int n)))
least_at k n = rw (int_of-int k, int_of-int n) refl

least_test : Laws → (scope : Scope) (k : ℤ) (a : Slot) → Fits scope integer a → tested (with_two (test_by op.AtMost) (Some (int k)) a) ≡ where_given true (λ v. int_passes (λ n. int_le k n) (int_of v)) a
least_test laws scope k None f = refl
least_test laws scope k (Some v) f =
    let i = int_view laws scope v f in
    subst (λ w. tested (with_ints (λ a b. Some (int_le a b)) (int k) w) ≡ truth_of (int_passes (λ n. int_le k n) (int_of w))) (sym i.is) (ap tested (least_at k i.number))

any_int : Laws → (scope : Scope) (v : Value) → has_type scope v integer ≡ true → int_passes (λ n. true) (int_of v) ≡ true
any_int laws scope v h = let i = int_view laws scope v h in subst (λ w. int_passes (λ n. true) (int_of w) ≡ true) (sym i.is) (rw (int_of-int i.number) refl)

defined_test : (scope : Scope) (t : EbType) (p : Value → Bool) (a : Slot) → Fits scope t a → ((v : Value) → has_type scope v t ≡ true → p v ≡ true) → if_given (is_value a) True ≡ where_given true p a
defined_test scope t p None f k = refl
defined_test scope t p (Some v) f k = ap truth_of (sym (k v f))

all_ints : Laws → (scope : Scope) (vs : List Value) → have_type scope vs integer ≡ true → list_all (means.infinite_has infinite.Integers) vs ≡ true
all_ints laws scope [] h = refl
all_ints laws scope (v ∷ vs) h = both_so (means.infinite_has infinite.Integers v) (list_all (means.infinite_has infinite.Integers) vs) (any_int laws scope v (first_so (has_type scope v integer) (have_type scope vs integer) h)) (all_ints laws scope vs (second_so (has_type scope v integer) (have_type scope vs integer) h))

module _ (laws : Laws) (scope : Scope) (refs : List Slot) (bound : List Value) where
  infinite_each : (i : Infinite) (more : List Value) (e : Term) → MayBeIn scope (power integer) (value_of scope (env_of refs (bound ++ more)) e)
      → truth_in scope (env_of refs (bound ++ more)) (built.infinite_has i e) ≡ where_given true (means.infinite_has i) (value_of scope (env_of refs (bound ++ more)) e)
  infinite_each infinite.Integers more e k =
      truth_is_defined laws scope (env_of refs (bound ++ more)) e
      ∙ defined_test scope integer (means.infinite_has infinite.Integers) (value_of scope (env_of refs (bound ++ more)) e) (is_of_members scope integer (value_of scope (env_of refs (bound ++ more)) e) k) (any_int laws scope)
  infinite_each infinite.Naturals more e k =
      truth_at_most scope (env_of refs (bound ++ more)) (term.integer (pos 0)) e
      ∙ (ap (λ b. tested (with_two (test_by op.AtMost) b (value_of scope (env_of refs (bound ++ more)) e))) (value_literal scope (env_of refs (bound ++ more)) (int (pos 0)) integer)
      ∙ least_test laws scope (pos 0) (value_of scope (env_of refs (bound ++ more)) e) (is_of_members scope integer (value_of scope (env_of refs (bound ++ more)) e) k))
  infinite_each infinite.PositiveNaturals more e k =
      truth_at_most scope (env_of refs (bound ++ more)) (term.integer (pos 1)) e
      ∙ (ap (λ b. tested (with_two (test_by op.AtMost) b (value_of scope (env_of refs (bound ++ more)) e))) (value_literal scope (env_of refs (bound ++ more)) (int (pos 1)) integer)
      ∙ least_test laws scope (pos 1) (value_of scope (env_of refs (bound ++ more)) e) (is_of_members scope integer (value_of scope (env_of refs (bound ++ more)) e) k))

  infinite_form : (i : Infinite) → Represents scope refs bound (power integer) (narrow.form (Some (power integer)) (λ d. []) (λ d x e. built.infinite_has i e)) (of_form true (means.infinite_has i))
  infinite_form i = form_represents laws scope refs bound integer (Some (power integer)) (λ d. []) (λ d x e. built.infinite_has i e) true (means.infinite_has i) refl (infinite_each i)

  pub infinite_represents : (i : Infinite) → Represents scope refs bound (power integer) (narrow.infinite_set i) (of_form true (means.infinite_has i))
  infinite_represents infinite.Integers = let r = infinite_form infinite.Integers in record {
    value = r.value;
    fits = r.fits;
    given = r.given;
    has = r.has;
    within = λ more e f. truth_is_defined laws scope (env_of refs (bound ++ more)) e
        ∙ defined_test scope (power integer) (λ v. list_all (means.infinite_has infinite.Integers) (members v)) (value_of scope (env_of refs (bound ++ more)) e) f
        (λ v h. all_ints laws scope (members v) (members_typed laws scope integer v h));
    whole = r.whole;
    plain = r.plain;
    formless = r.formless;
  }
  infinite_represents infinite.Naturals = infinite_form infinite.Naturals
  infinite_represents infinite.PositiveNaturals = infinite_form infinite.PositiveNaturals

-- ---- intervals

interval_at : Laws → (m n k : ℤ)
    → truths.both (tested (with_ints (λ a b. Some (int_le a b)) (int m) (int k))) (tested (with_ints (λ a b. Some (int_le a b)) (int k) (int n)))
    ≡ where_given (is_value (value_by op.UpTo (int m) (int n))) (has_value (value_by op.UpTo (int m) (int n))) (Some (int k))
interval_at laws m n k = rw (int_of-int m, int_of-int n, int_of-int k, members-set (interval m n), in_interval laws m n k) (both_truths (int_le m k) (int_le k n))

interval_test : Laws → (scope : Scope) (a b c : Slot) → Fits scope integer a → Fits scope integer b → Fits scope integer c
    → truths.both (tested (with_two (test_by op.AtMost) a c)) (tested (with_two (test_by op.AtMost) c b))
    ≡ where_given (is_value (with_two (value_by op.UpTo) a b)) (has_value (with_two (value_by op.UpTo) a b)) c
interval_test laws scope None b c f g h = refl
interval_test laws scope (Some v) None None f g h = refl
interval_test laws scope (Some v) None (Some x) f g h = both_undefined (tested (test_by op.AtMost v x))
interval_test laws scope (Some v) (Some w) None f g h = sym (given_none (is_value (value_by op.UpTo v w)) (has_value (value_by op.UpTo v w)))
interval_test laws scope (Some v) (Some w) (Some x) f g h =
    let i = int_view laws scope v f in
    let j = int_view laws scope w g in
    let k = int_view laws scope x h in
    subst (λ v. truths.both (tested (test_by op.AtMost v x)) (tested (test_by op.AtMost x w)) ≡ where_given (is_value (value_by op.UpTo v w)) (has_value (value_by op.UpTo v w)) (Some x)) (sym i.is)
    (subst (λ w. truths.both (tested (test_by op.AtMost (int i.number) x)) (tested (test_by op.AtMost x w)) ≡ where_given (is_value (value_by op.UpTo (int i.number) w)) (has_value (value_by op.UpTo (int i.number) w)) (Some x)) (sym j.is)
    (subst (λ x. truths.both (tested (test_by op.AtMost (int i.number) x)) (tested (test_by op.AtMost x (int j.number))) ≡ where_given (is_value (value_by op.UpTo (int i.number) (int j.number))) (has_value (value_by op.UpTo (int i.number) (int j.number))) (Some x)) (sym k.is)
    (interval_at laws i.number j.number k.number)))

module _ (laws : Laws) (scope : Scope) (refs : List Slot) (bound : List Value) (ty : Option EbType) (a b : Narrowed) (A B : Sight) (first : Represents scope refs bound integer a A) (second : Represents scope refs bound integer b B) where
  pub interval_represents : (o : Slot) → o ≡ with_two (value_by op.UpTo) A.value B.value → Fits scope (power integer) o → Represents scope refs bound (power integer) (narrow.interval ty a b) (of_value o)
  interval_represents o e f =
      let d : ℕ = length bound in
      let t : ℕ → Term = λ d. built.operation op.UpTo (a.term d) (b.term d) in
      let r = plain_represents scope refs bound ty t o (power integer) f (ap (seen (env_of refs bound)) (binary_is scope (binary.Operator op.UpTo) (a.term d) (b.term d)) ∙ ap of_value (ap₂ (λ x y. with_two (value_by op.UpTo) x y) first.value second.value ∙ sym e)) in record {
        value = r.value;
        fits = r.fits;
        given = r.given;
        has = λ more x k. let env : Env = env_of refs (bound ++ more) in
            truth_both scope env (at_most (shift d (length more) (a.term d)) x) (at_most x (shift d (length more) (b.term d)))
            ∙ (ap₂ truths.both
            (truth_at_most scope env (shift d (length more) (a.term d)) x ∙ ap (λ y. tested (with_two (test_by op.AtMost) y (value_of scope env x))) (value_shifted scope refs bound more (a.term d) ∙ first.value))
            (truth_at_most scope env x (shift d (length more) (b.term d)) ∙ ap (λ y. tested (with_two (test_by op.AtMost) (value_of scope env x) y)) (value_shifted scope refs bound more (b.term d) ∙ second.value))
            ∙ (interval_test laws scope A.value B.value (value_of scope env x) first.fits second.fits (is_of_members scope integer (value_of scope env x) k)
            ∙ ap (λ o. where_given (is_value o) (has_value o) (value_of scope env x)) (sym e)));
        within = r.within;
        whole = r.whole;
        plain = r.plain;
        formless = r.formless;
      }
