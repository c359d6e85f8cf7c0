-- Laws of the three truths.
use Rattle.std.proofs.Common.{◌≡◌, ◌∙◌, Bool, true, false, not, ◌&&◌, if◌then◌else◌, List, [], ◌∷◌, map, None, refl, ap}
use Rattle.std.specs.List.{list_all}
use Rattle.eb_value.specs.declared.value.Value.{Value}
use Rattle.eb_operations.specs.declared.truth3.Truth3.{Truth3}
use Rattle.eb_operations.specs.declared.truth3.Truth3.TheVariants.{True, False, Undefined}
use Rattle.eb_meaning.specs.Truths.{truth_of, negation, both, either, for_all, exists}
use Rattle.eb_meaning.specs.Meaning.{where_given}

pub both_assoc : (p q r : Truth3) → both (both p q) r ≡ both p (both q r)
both_assoc True True True = refl
both_assoc True True False = refl
both_assoc True True Undefined = refl
both_assoc True False True = refl
both_assoc True False False = refl
both_assoc True False Undefined = refl
both_assoc True Undefined True = refl
both_assoc True Undefined False = refl
both_assoc True Undefined Undefined = refl
both_assoc False True True = refl
both_assoc False True False = refl
both_assoc False True Undefined = refl
both_assoc False False True = refl
both_assoc False False False = refl
both_assoc False False Undefined = refl
both_assoc False Undefined True = refl
both_assoc False Undefined False = refl
both_assoc False Undefined Undefined = refl
both_assoc Undefined True True = refl
both_assoc Undefined True False = refl
both_assoc Undefined True Undefined = refl
both_assoc Undefined False True = refl
both_assoc Undefined False False = refl
both_assoc Undefined False Undefined = refl
both_assoc Undefined Undefined True = refl
both_assoc Undefined Undefined False = refl
both_assoc Undefined Undefined Undefined = refl

pub both_none : (p : Truth3) → both p True ≡ p
both_none True = refl
both_none False = refl
both_none Undefined = refl

pub true_both : (p : Truth3) → both True p ≡ p
true_both True = refl
true_both False = refl
true_both Undefined = refl

pub both_undefined : (p : Truth3) → both p Undefined ≡ Undefined
both_undefined True = refl
both_undefined False = refl
both_undefined Undefined = refl

pub both_truths : (a b : Bool) → both (truth_of a) (truth_of b) ≡ truth_of (a && b)
both_truths true true = refl
both_truths true false = refl
both_truths false true = refl
both_truths false false = refl

pub negation_truth : (a : Bool) → negation (truth_of a) ≡ truth_of (not a)
negation_truth true = refl
negation_truth false = refl

-- ---- quantifiers

negated : (p q : Truth3) → negation (either (negation p) q) ≡ both p (negation q)
negated True True = refl
negated True False = refl
negated True Undefined = refl
negated False True = refl
negated False False = refl
negated False Undefined = refl
negated Undefined True = refl
negated Undefined False = refl
negated Undefined Undefined = refl

pub for_all_truths : {A : Type 0} (p : A → Bool) (xs : List A) → for_all (map (λ x. truth_of (p x)) xs) ≡ truth_of (list_all p xs)
for_all_truths p [] = refl
for_all_truths p (x ∷ xs) = ap (both (truth_of (p x))) (for_all_truths p xs) ∙ both_truths (p x) (list_all p xs)

-- no instance fails where each holds
pub none_fails : {A : Type 0} (f : A → Truth3) (xs : List A) → negation (exists (map (λ x. negation (f x)) xs)) ≡ for_all (map f xs)
none_fails f [] = refl
none_fails f (x ∷ xs) = negated (f x) (exists (map (λ x. negation (f x)) xs)) ∙ ap (both (f x)) (none_fails f xs)

-- ---- where parts are given

abbrev pub if_given : Bool → Truth3 → Truth3
if_given b p = if b then p else Undefined

pub given_none : (b : Bool) (test : Value → Bool) → where_given b test None ≡ Undefined
given_none true test = refl
given_none false test = refl
