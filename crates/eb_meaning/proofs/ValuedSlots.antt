-- Places that have values.
use Rattle.std.proofs.Common.{◌≡◌, ℕ, zero, suc, Bool, true, false, not, cond, List, [], ◌∷◌, map, Some, refl, ap}
use Rattle.std.specs.List.{list_all, list_any}
use Rattle.std.specs.Cmp.{first_so, second_so}
use Rattle.eb_value.specs.declared.scope.Scope.{Scope}
use Rattle.eb_value.specs.declared.value.Value.{Value}
use Rattle.eb_term.specs.declared.term.Term.{Term}
use Rattle.eb_term.specs.Leaves.{references}
use Rattle.eb_operations.specs.declared.truth3.Truth3.TheVariants.{Undefined}
use Rattle.eb_meaning.specs.Meaning.{Slot, is_value, truth_in}
use Rattle.eb_meaning.specs.Problems.{outermost, is_undefined_at, fact_at}

not_undefined : (o : Slot) → is_value o ≡ true → not (is_value o) ≡ false
not_undefined o h = ap not h

each_has_value : (slots : List Slot) → list_all is_value slots ≡ true → (place : ℕ) → is_undefined_at slots place ≡ false
each_has_value [] h place = refl
each_has_value (s ∷ slots) h zero = not_undefined s (first_so (is_value s) (list_all is_value slots) h)
each_has_value (s ∷ slots) h (suc place) = each_has_value slots (second_so (is_value s) (list_all is_value slots) h) place

none_so : (test : ℕ → Bool) (places : List ℕ) → ((place : ℕ) → test place ≡ false) → list_any test places ≡ false
none_so test [] h = refl
none_so test (p ∷ places) h = rw (h p) (none_so test places h)

pub own_truth : (scope : Scope) (slots : List Slot) (fact : Term) → list_all is_value slots ≡ true → fact_at scope slots fact ≡ truth_in scope (outermost slots) fact
own_truth scope slots fact h = ap (λ b. cond b Undefined (truth_in scope (outermost slots) fact)) (none_so (is_undefined_at slots) (references fact) (each_has_value slots h))

pub given_values : (values : List Value) → list_all is_value (map (λ v. Some v) values) ≡ true
given_values [] = refl
given_values (v ∷ values) = given_values values
