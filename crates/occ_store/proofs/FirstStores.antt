-- The first store of choices that are integers.
use Rattle.std.proofs.Common.{◌≡◌, ◌∙◌, ℕ, zero, suc, mul-pos, ◌*◌, ◌<◌, List, [], ◌∷◌, length, refl, ap, ap₂, sym, subst, arith, rules, ℤ, pos, negsuc, ◌≤ℤ◌, ◌+ℤ◌, Option, None, Some}
use Rattle.std.specs.Prelude.{◌↔◌, Contains}
use Rattle.std.specs.Int.{int_gap}
use Rattle.std.proofs.lemmas.Int.{ints}
use Rattle.eb_value.specs.declared.scope.Scope.{Scope}
use Rattle.eb_value.specs.declared.types.EbType.{EbType}
use Rattle.eb_value.specs.declared.value.Value.{Value, the_lemmas}
use Rattle.eb_value.specs.Types.{integer}
use Rattle.eb_value.specs.Values.{int, layer}
use Rattle.eb_value.specs.declared.value.Form.{Form, Form-F}
use Rattle.eb_value.specs.declared.value.Form.TheOpen as val
use Rattle.eb_value.specs.Scopes.{vals, ints_from}
use Rattle.eb_value.specs.declared.types.EbType.{the_lemmas as type_lemmas}
use Rattle.eb_value.specs.Counts.{integers_within}
use Rattle.eb_term.specs.declared.problem.Choice.{Choice}
use Rattle.int_dom.specs.declared.interval.Interval.{Interval}
use Rattle.int_dom.specs.Intervals.{size}
use Rattle.occ_store.specs.Stores.{IsIn, Store, IsFirst, HaveIntegers, volume, valuation_count, whole, first_store}

pub gap_is : (a b : ℤ) → a ≤ℤ b → a +ℤ pos (int_gap a b) ≡ b
gap_is (pos a) (pos b) h = omega (arith, ints)
gap_is (pos a) (negsuc b) h = omega (arith, ints)
gap_is (negsuc a) (pos b) h = omega (arith, ints)
gap_is (negsuc a) (negsuc b) h = omega (arith, ints)

pub first_count : (scope : Scope) (choices : List Choice) → length (first_store scope choices) ≡ length choices
first_count scope [] = refl
first_count scope (c ∷ choices) = let rest = first_count scope choices in omega arith

-- an integer's value tells it
int_in : Form-F Form Value → Option ℤ
int_in (val.Int n) = Some n
int_in _ = None

int_of : Value → Option ℤ
int_of v = int_in (layer v)

int_back : (n : ℤ) → int_of (int n) ≡ Some n
unfolding int_of int_in
int_back n = search (rules, the_lemmas)

same_int : (m n : ℤ) → int m ≡ int n → m ≡ n
same_int m n e = let same : Some m ≡ Some n = sym (int_back m) ∙ ap int_of e ∙ int_back n in cc

in_ends : (d : Interval) (n : ℤ) → IsIn d (int n) → (d.lo ≤ℤ n) × (n ≤ℤ d.hi)
in_ends d n h = let same : h.number ≡ n = sym (same_int n h.number h.is_number) in (subst (λ z. d.lo ≤ℤ z) same h.above, subst (λ z. z ≤ℤ d.hi) same h.below)

is_in : (d : Interval) (n : ℤ) → d.lo ≤ℤ n → n ≤ℤ d.hi → IsIn d (int n)
is_in d n low high = record { number = n; is_number = refl; above = low; below = high }

-- by the law that the integers of a scope are those from its lower to its upper bound
module _ (integers : (scope : Scope) (v : Value) → Contains (vals scope integer) v ↔ ((n : ℤ) × (v ≡ int n) × (scope.lo ≤ℤ n) × (n ≤ℤ scope.hi))) where
  whole_is : (scope : Scope) (d : Interval) (v : Value) → d.lo ≡ scope.lo → d.hi ≡ scope.hi → IsIn d v ↔ Contains (vals scope integer) v
  whole_is scope d v lo hi = (
    λ h. let n = h.number in
        (integers scope v).1 (n, h.is_number, subst (λ z. z ≤ℤ n) lo h.above, subst (λ z. n ≤ℤ z) hi h.below),
    λ h. let w = (integers scope v).0 h in
        record { number = w.0; is_number = w.1; above = subst (λ z. z ≤ℤ w.0) (sym lo) w.2; below = subst (λ z. w.0 ≤ℤ z) (sym hi) w.3 },
  )

  pub first_is : (scope : Scope) (choices : List Choice) → HaveIntegers choices → IsFirst scope choices (first_store scope choices)
  first_is scope [] h = tt
  first_is scope (c ∷ choices) h =
      ((λ v. subst (λ (ty : EbType). IsIn (whole scope) v ↔ Contains (vals scope ty) v) (sym h.0) (whole_is scope (whole scope) v refl refl)), first_is scope choices h.1)

  in_scope : (scope : Scope) (n : ℤ) → scope.lo ≤ℤ n → n ≤ℤ scope.hi → Contains (vals scope integer) (int n)
  in_scope scope n low high = (integers scope (int n)).1 (n, refl, low, high)

  of_scope : (scope : Scope) (n : ℤ) → Contains (vals scope integer) (int n) → (scope.lo ≤ℤ n) × (n ≤ℤ scope.hi)
  of_scope scope n h =
      let w = (integers scope (int n)).0 h in
      let same : w.0 ≡ n = sym (same_int n w.0 w.1) in
      (subst (λ z. scope.lo ≤ℤ z) same w.2, subst (λ z. z ≤ℤ scope.hi) same w.3)

  -- a domain of just the integers of the scope is the scope's interval
  only_whole : (scope : Scope) (d : Interval) → scope.lo ≤ℤ scope.hi → ((v : Value) → IsIn d v ↔ Contains (vals scope integer) v) → d ≡ whole scope
  only_whole scope d filled same =
      let low = in_ends d scope.lo ((same (int scope.lo)).1 (in_scope scope scope.lo (omega (arith, ints)) filled)) in
      let high = in_ends d scope.hi ((same (int scope.hi)).1 (in_scope scope scope.hi filled (omega (arith, ints)))) in
      let from_lo = of_scope scope d.lo ((same (int d.lo)).0 (is_in d d.lo (omega (arith, ints)) (omega (arith, ints, low.0, low.1)))) in
      let from_hi = of_scope scope d.hi ((same (int d.hi)).0 (is_in d d.hi (omega (arith, ints, low.0, low.1)) (omega (arith, ints)))) in
      let a : d.lo ≡ scope.lo = omega (arith, ints, low.0, from_lo.0) in
      let b : d.hi ≡ scope.hi = omega (arith, ints, high.1, from_hi.1) in
      ap₂ (λ lo hi. let d : Interval = record { lo = lo; hi = hi } in d) a b

  pub first_only : (scope : Scope) (choices : List Choice) (store : Store) → scope.lo ≤ℤ scope.hi → HaveIntegers choices → IsFirst scope choices store → store ≡ first_store scope choices
  first_only scope [] [] filled h f = refl
  first_only scope [] (d ∷ store) filled h f = absurd f
  first_only scope (c ∷ choices) [] filled h f = absurd f
  first_only scope (c ∷ choices) (d ∷ store) filled h f =
      let here : d ≡ whole scope = only_whole scope d filled (subst (λ (ty : EbType). (v : Value) → IsIn d v ↔ Contains (vals scope ty) v) h.0 f.0) in
      ap₂ (λ x xs. x ∷ xs) here (first_only scope choices store filled h.1 f.1)

vals-integer : (scope : Scope) → vals scope integer ≡ ints_from scope.lo (integers_within scope.lo scope.hi)
vals-integer scope = search (rules, type_lemmas)

length-ints : (lo : ℤ) (n : ℕ) → length (ints_from lo n) ≡ n
length-ints lo zero = refl
length-ints lo (suc n) = let more = length-ints (lo +ℤ pos 1) n in omega (arith, more)

-- the first store has just the valuations
pub first_volume : (scope : Scope) (choices : List Choice) → HaveIntegers choices → volume (first_store scope choices) ≡ valuation_count scope choices
first_volume scope [] h = refl
first_volume scope (c ∷ choices) h =
    let here : length (vals scope c.ty) ≡ size (whole scope) = ap (λ (ty : EbType). length (vals scope ty)) h.0 ∙ ap length (vals-integer scope) ∙ length-ints scope.lo (size (whole scope)) in
    ap₂ (λ a b. a * b) (sym here) (first_volume scope choices h.1)

gap_some : (a b : ℤ) → a ≤ℤ b → 0 < int_gap a (b +ℤ pos 1)
gap_some a b h = let all : a +ℤ pos (int_gap a (b +ℤ pos 1)) ≡ b +ℤ pos 1 = gap_is a (b +ℤ pos 1) (omega (arith, ints)) in omega (arith, ints)

pub first_some : (scope : Scope) (choices : List Choice) → scope.lo ≤ℤ scope.hi → 0 < volume (first_store scope choices)
first_some scope [] h = omega arith
first_some scope (c ∷ choices) h = mul-pos (gap_some scope.lo scope.hi h) (first_some scope choices h)
