-- What a narrowed expression says of the expression, in one environment.
use Rattle.std.proofs.Common.{◌≡◌, ◌∙◌, ℕ, ◌+◌, Bool, true, false, ◌&&◌, List, [], ◌∷◌, ◌++◌, length, map, Option, Some, None, option_map, refl, sym, ap, ap₂, subst, append_assoc, length-append}
use Rattle.std.specs.List.{list_all}
use Rattle.std.specs.Cmp.{first_so, second_so}
use Rattle.std.proofs.lemmas.Bool.{false≢true}
use Rattle.eb_syntax.specs.declared.ast.Operator.TheVariants as op
use Rattle.eb_value.specs.declared.scope.Scope.{Scope}
use Rattle.eb_value.specs.declared.types.EbType.{EbType}
use Rattle.eb_value.specs.declared.value.Value.{Value}
use Rattle.eb_value.specs.Types.{power}
use Rattle.eb_value.specs.Values.{set}
use Rattle.eb_value.specs.Typing.{has_type, have_type}
use Rattle.eb_value.specs.Comprehensions.{members}
use Rattle.eb_term.specs.declared.operators.Binder.TheVariants as binder
use Rattle.eb_term.specs.declared.term.Term.{Term}
use Rattle.eb_term.specs.Terms as term
use Rattle.eb_operations.specs.declared.truth3.Truth3.TheVariants.{True, Undefined}
use Rattle.eb_meaning.specs.Truths as truths
use Rattle.eb_meaning.specs.Truths.{truth_of, tested, exists}
use Rattle.eb_meaning.specs.Meaning.{Slot, meaning, value_of, truth_in, inside, with_two, test_by, where_given, is_value, is_value_of, over_range}
use Rattle.eb_meaning.specs.Fitting.{slot_has_type}
use Rattle.narrow_terms.specs.Shifting.{shift}
use Rattle.narrow_terms.specs.Building.{negation, is_defined, whole}
use Rattle.eb_narrow.specs.Narrow as narrow
use Rattle.eb_narrow.specs.Narrow.{Narrowed, element_type}
use Rattle.eb_narrow.proofs.Hypotheses.{Laws}
use Rattle.eb_narrow.proofs.Sights.{Sight, seen, of_value}
use Rattle.eb_narrow.proofs.Shifts.{env_of, shifted}
use Rattle.eb_narrow.proofs.Truths.{both_none, if_given, none_fails, for_all_truths}
use Rattle.eb_narrow.proofs.Views.{both_so, has_type-set, set_view, members-set}
use Rattle.eb_narrow.proofs.Pieces.{truth_operation, truth_not, truth_equal, truth_exists, truth_is_defined, truth_both_of, value_whole, value_no_value, values_given}

-- Undefined, or a value of the type
abbrev pub Fits : Scope → EbType → Slot → Type 0
Fits scope t o = slot_has_type scope o t ≡ true

-- Undefined, or a value that may be a member of a set of the type
abbrev pub MayBeIn : Scope → EbType → Slot → Type 0
MayBeIn scope t o = Fits scope t (option_map (λ v. set (v ∷ [])) o)

pub record Represents (scope : Scope) (refs : List Slot) (bound : List Value) (ty : EbType) (n : Narrowed) (s : Sight) : Type 0 where
  pub value : value_of scope (env_of refs bound) (n.term (length bound)) ≡ s.value
  pub fits : Fits scope ty s.value
  pub given : list_all is_value (map (value_of scope (env_of refs bound)) (n.values (length bound))) ≡ s.is_given
  pub has : (more : List Value) (e : Term) → MayBeIn scope ty (value_of scope (env_of refs (bound ++ more)) e)
      → truth_in scope (env_of refs (bound ++ more)) (n.has (length bound) (length more) e) ≡ where_given s.is_given s.has (value_of scope (env_of refs (bound ++ more)) e)
  pub within : (more : List Value) (e : Term) → Fits scope ty (value_of scope (env_of refs (bound ++ more)) e)
      → truth_in scope (env_of refs (bound ++ more)) (n.has_members (length bound) (length more) e) ≡ where_given s.is_given (λ v. list_all s.has (members v)) (value_of scope (env_of refs (bound ++ more)) e)
  pub whole : (more : List Value) (e : Term) → Fits scope ty (value_of scope (env_of refs (bound ++ more)) e)
      → truth_in scope (env_of refs (bound ++ more)) (n.is_all (length bound) (length more) e) ≡ where_given s.is_given (is_value_of s.value) (value_of scope (env_of refs (bound ++ more)) e)
  pub plain : n.is_form ≡ false → (seen (env_of refs bound) (meaning scope (n.term (length bound))) ≡ of_value s.value) × (s ≡ of_value s.value)
  pub formless : n.is_form ≡ true → s.value ≡ None

pub may_be_in : (scope : Scope) (u : EbType) (w : Value) → has_type scope w u ≡ true → MayBeIn scope (power u) (Some w)
may_be_in scope u w h = has_type-set scope (w ∷ []) u ∙ both_so (has_type scope w u) true h refl

pub is_of_members : (scope : Scope) (u : EbType) (a : Slot) → MayBeIn scope (power u) a → Fits scope u a
is_of_members scope u None h = refl
is_of_members scope u (Some w) h =
    let e : (true && (has_type scope w u && true)) ≡ true = sym (has_type-set scope (w ∷ []) u) ∙ h in
    first_so (has_type scope w u) true e

pub members_typed : Laws → (scope : Scope) (u : EbType) (v : Value) → has_type scope v (power u) ≡ true → have_type scope (members v) u ≡ true
members_typed laws scope u v h = let s = set_view laws scope u v h in subst (λ w. have_type scope (members w) u ≡ true) (sym s.is) (rw (members-set s.inner) s.typed)

-- functions that agree where a test holds give the same list
pub map_where : {A B : Type 0} (q : A → Bool) (f g : A → B) (xs : List A) → list_all q xs ≡ true → ((x : A) → q x ≡ true → f x ≡ g x) → map f xs ≡ map g xs
map_where q f g [] h k = refl
map_where q f g (x ∷ xs) h k = ap₂ (λ y ys. y ∷ ys) (k x (first_so (q x) (list_all q xs) h)) (map_where q f g xs (second_so (q x) (list_all q xs) h) k)

-- ---- expressions

equal_to : (a o : Slot) → tested (with_two (test_by op.Equal) a o) ≡ where_given (is_value o) (is_value_of o) a
equal_to None None = refl
equal_to None (Some w) = refl
equal_to (Some v) None = refl
equal_to (Some v) (Some w) = refl

given_alone : (o : Slot) → (is_value o && true) ≡ is_value o
given_alone None = refl
given_alone (Some v) = refl

module _ (scope : Scope) (refs : List Slot) (bound : List Value) where
  pub plain_represents : (ty : Option EbType) (t : ℕ → Term) (o : Slot) (u : EbType) → Fits scope u o → seen (env_of refs bound) (meaning scope (t (length bound))) ≡ of_value o
      → Represents scope refs bound u (narrow.expression ty t) (of_value o)
  plain_represents ty t o u f h = record {
    value = ap (λ s. s.value) h;
    fits = f;
    given = ap (λ s. is_value s.value && true) h ∙ given_alone o;
    has = λ more e k. truth_operation scope (env_of refs (bound ++ more)) op.MemberOf e (shift (length bound) (length more) (t (length bound)))
        ∙ ap (λ s. where_given s.is_given s.has (value_of scope (env_of refs (bound ++ more)) e)) (shifted scope refs bound more (t (length bound)) ∙ h);
    within = λ more e k. truth_operation scope (env_of refs (bound ++ more)) op.SubsetOf e (shift (length bound) (length more) (t (length bound)))
        ∙ ap (λ s. where_given s.is_given (λ v. list_all s.has (members v)) (value_of scope (env_of refs (bound ++ more)) e)) (shifted scope refs bound more (t (length bound)) ∙ h);
    whole = λ more e k. truth_equal scope (env_of refs (bound ++ more)) e (shift (length bound) (length more) (t (length bound)))
        ∙ (ap (λ s. tested (with_two (test_by op.Equal) (value_of scope (env_of refs (bound ++ more)) e) s.value)) (shifted scope refs bound more (t (length bound)) ∙ h)
        ∙ equal_to (value_of scope (env_of refs (bound ++ more)) e) o);
    plain = λ k. (h, refl);
    formless = λ k. absurd (false≢true k);
  }

-- ---- forms

abbrev pub of_form : Bool → (Value → Bool) → Sight
of_form given holds = record { value = None; truth = Undefined; is_given = given; has = holds }

not_all : (g : Bool) (a : Slot) → if_given g (truths.negation (if_given (is_value a) True)) ≡ where_given g (λ v. false) a
not_all true None = refl
not_all true (Some v) = refl
not_all false a = refl

true≢false : true ≡ false → ⊥
true≢false h = false≢true (sym h)

module _ (laws : Laws) (scope : Scope) (refs : List Slot) (bound : List Value) (u : EbType) (ty : Option EbType) (values : ℕ → List Term) (has : ℕ → ℕ → Term → Term) (given : Bool) (holds : Value → Bool)
    (known : list_all is_value (map (value_of scope (env_of refs bound)) (values (length bound))) ≡ given)
    (each : (more : List Value) (e : Term) → MayBeIn scope (power u) (value_of scope (env_of refs (bound ++ more)) e)
    → truth_in scope (env_of refs (bound ++ more)) (has (length bound) (length more) e) ≡ where_given given holds (value_of scope (env_of refs (bound ++ more)) e)) where
  -- the member that the variable has
  body_at : (more : List Value) (w : Value) → has_type scope w u ≡ true → given ≡ true
      → truth_in scope (env_of refs ((bound ++ more) ++ w ∷ [])) (has (length bound) (length more + 1) (whole (length bound + length more) (element_type ty))) ≡ truth_of (holds w)
  body_at more w h g =
      let inner : List Value = more ++ w ∷ [] in
      let place : ℕ = length bound + length more in
      let variable : Term = whole place (element_type ty) in
      let outer : (bound ++ more) ++ w ∷ [] ≡ bound ++ inner = append_assoc bound more (w ∷ []) in
      let count : length more + 1 ≡ length inner = sym (length-append more (w ∷ [])) in
      let here : value_of scope (env_of refs (bound ++ inner)) variable ≡ Some w =
      ap₂ (λ vs k. value_of scope (env_of refs vs) (whole k (element_type ty))) (sym outer) (sym (length-append bound more)) ∙ value_whole scope refs (bound ++ more) w (element_type ty) in
      ap₂ (λ vs k. truth_in scope (env_of refs vs) (has (length bound) k variable)) outer count
      ∙ (each inner variable (subst (MayBeIn scope (power u)) (sym here) (may_be_in scope u w h))
      ∙ ap₂ (λ b a. where_given b holds a) g here)

  abbrev failing : List Value → Term
  failing more = negation (has (length bound) (length more + 1) (whole (length bound + length more) (element_type ty)))

  failing_at : (more : List Value) (w : Value) → has_type scope w u ≡ true → given ≡ true
      → truth_in scope (inside (env_of refs (bound ++ more)) w) (failing more) ≡ truths.negation (truth_of (holds w))
  failing_at more w h g = truth_not scope (env_of refs ((bound ++ more) ++ w ∷ [])) (has (length bound) (length more + 1) (whole (length bound + length more) (element_type ty)))
      ∙ ap truths.negation (body_at more w h g)

  members_hold : (more : List Value) (g : Bool) → given ≡ g → (a : Slot) → Fits scope (power u) a
      → if_given g (truths.negation (over_range Undefined (λ vs. exists (map (λ w. truth_in scope (inside (env_of refs (bound ++ more)) w) (failing more)) vs)) (option_map members a)))
      ≡ where_given g (λ v. list_all holds (members v)) a
  members_hold more false g a f = refl
  members_hold more true g None f = refl
  members_hold more true g (Some v) f =
      ap (λ ps. truths.negation (exists ps)) (map_where (λ w. has_type scope w u) (λ w. truth_in scope (inside (env_of refs (bound ++ more)) w) (failing more)) (λ w. truths.negation (truth_of (holds w))) (members v)
      (members_typed laws scope u v f) (λ w h. failing_at more w h g))
      ∙ (none_fails (λ w. truth_of (holds w)) (members v) ∙ for_all_truths holds (members v))

  pub form_within : (more : List Value) (e : Term) → Fits scope (power u) (value_of scope (env_of refs (bound ++ more)) e)
      → truth_in scope (env_of refs (bound ++ more)) (narrow.each_member ty values has (length bound) (length more) e) ≡ where_given given (λ v. list_all holds (members v)) (value_of scope (env_of refs (bound ++ more)) e)
  form_within more e f =
      let all : Term = negation (term.over binder.Exists e (failing more)) in
      truth_both_of scope (env_of refs (bound ++ more)) (map (λ v. is_defined (shift (length bound) (length more) v)) (values (length bound)) ++ all ∷ [])
      ∙ (values_given laws scope refs bound more (values (length bound)) (all ∷ [])
      ∙ (ap₂ if_given known (both_none (truth_in scope (env_of refs (bound ++ more)) all) ∙ (truth_not scope (env_of refs (bound ++ more)) (term.over binder.Exists e (failing more)) ∙ ap truths.negation (truth_exists scope (env_of refs (bound ++ more)) e (failing more))))
      ∙ members_hold more given refl (value_of scope (env_of refs (bound ++ more)) e) f))

  form_whole : (more : List Value) (e : Term)
      → truth_in scope (env_of refs (bound ++ more)) (narrow.no_set_is_all values (length bound) (length more) e) ≡ where_given given (λ v. false) (value_of scope (env_of refs (bound ++ more)) e)
  form_whole more e =
      truth_both_of scope (env_of refs (bound ++ more)) (map (λ v. is_defined (shift (length bound) (length more) v)) (values (length bound)) ++ negation (is_defined e) ∷ [])
      ∙ (values_given laws scope refs bound more (values (length bound)) (negation (is_defined e) ∷ [])
      ∙ (ap₂ if_given known (both_none (truth_in scope (env_of refs (bound ++ more)) (negation (is_defined e))) ∙ (truth_not scope (env_of refs (bound ++ more)) (is_defined e) ∙ ap truths.negation (truth_is_defined laws scope (env_of refs (bound ++ more)) e)))
      ∙ not_all given (value_of scope (env_of refs (bound ++ more)) e)))

  pub form_represents : Represents scope refs bound (power u) (narrow.form ty values has) (of_form given holds)
  form_represents = record {
    value = value_no_value scope (env_of refs bound) (narrow.type_or_any ty);
    fits = refl;
    given = known;
    has = each;
    within = form_within;
    whole = λ more e f. form_whole more e;
    plain = λ k. absurd (true≢false k);
    formless = λ k. refl;
  }
