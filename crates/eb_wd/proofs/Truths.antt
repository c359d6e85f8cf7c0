-- When a truth is Undefined, connective by connective.
use Rattle.std.proofs.Common.{◌≡◌, ◌∙◌, Bool, true, false, ◌&&◌, ◌||◌, List, [], ◌∷◌, map, Option, Some, None, option_map, refl, sym, ap, ap₂}
use Rattle.std.specs.List.{list_all}
use Rattle.std.specs.Cmp.{first_so, second_so}
use Rattle.eb_value.specs.declared.value.Value.{Value}
use Rattle.eb_operations.specs.declared.truth3.Truth3.{Truth3}
use Rattle.eb_operations.specs.declared.truth3.Truth3.TheVariants.{True, False, Undefined}
use Rattle.eb_meaning.specs.Truths.{truth_of, is_defined, tested, negation, conjunction, disjunction, implication, strict, both, for_all, exists}
use Rattle.eb_meaning.specs.Meaning.{Slot, is_value, where_given, all_values}

-- the truth that says that this one isn't Undefined
abbrev pub saying : Truth3 → Truth3
saying p = truth_of (is_defined p)

pub and_true : (b : Bool) → (b && true) ≡ b
and_true true = refl
and_true false = refl

pub and_false : (b : Bool) → (b && false) ≡ false
and_false true = refl
and_false false = refl

pub saying-truth_of : (b : Bool) → True ≡ saying (truth_of b)
saying-truth_of true = refl
saying-truth_of false = refl

pub saying-negation : (p : Truth3) → saying p ≡ saying (negation p)
saying-negation True = refl
saying-negation False = refl
saying-negation Undefined = refl

-- P & Q, and what is written for it
pub saying-conjunction : (p q : Truth3) → conjunction (saying p) (implication p (saying q)) ≡ saying (conjunction p q)
saying-conjunction True q = refl
saying-conjunction False q = refl
saying-conjunction Undefined q = refl

pub saying-implication : (p q : Truth3) → conjunction (saying p) (implication p (saying q)) ≡ saying (implication p q)
saying-implication True q = refl
saying-implication False q = refl
saying-implication Undefined q = refl

pub saying-disjunction : (p q : Truth3) → conjunction (saying p) (disjunction p (saying q)) ≡ saying (disjunction p q)
saying-disjunction True q = refl
saying-disjunction False q = refl
saying-disjunction Undefined q = refl

-- a connective that is Undefined where a side is
pub saying-strict : (f : Bool → Bool → Bool) (p q : Truth3) → conjunction (saying p) (saying q) ≡ saying (strict f p q)
saying-strict f True True = saying-truth_of (f true true)
saying-strict f True False = saying-truth_of (f true false)
saying-strict f False True = saying-truth_of (f false true)
saying-strict f False False = saying-truth_of (f false false)
saying-strict f True Undefined = refl
saying-strict f False Undefined = refl
saying-strict f Undefined True = refl
saying-strict f Undefined False = refl
saying-strict f Undefined Undefined = refl

pub conjunction-truth_of : (a b : Bool) → conjunction (truth_of a) (truth_of b) ≡ truth_of (a && b)
conjunction-truth_of true b = refl
conjunction-truth_of false b = refl

-- ---- tests of values

-- the test of a value, to the left of something that is given
pub saying-where_given : (given : Bool) (test : Value → Bool) (a : Slot) → truth_of (is_value a && given) ≡ saying (where_given given test a)
saying-where_given false test a = ap truth_of (and_false (is_value a))
saying-where_given true test None = refl
saying-where_given true test (Some v) = saying-truth_of (test v)

-- the values of all, where each has one
pub saying-all_values : (f : List Value → Bool) (slots : List Slot) → truth_of (list_all is_value slots) ≡ saying (tested (option_map f (all_values slots)))
saying-all_values f [] = saying-truth_of (f [])
saying-all_values f (None ∷ slots) = refl
saying-all_values f (Some v ∷ slots) = saying-all_values (λ vs. f (v ∷ vs)) slots ∙ sym (ap (λ o. saying (tested o)) (put_before f v (all_values slots)))
  where
    put_before : (f : List Value → Bool) (v : Value) (o : Option (List Value)) → option_map f (option_map (λ vs. v ∷ vs) o) ≡ option_map (λ vs. f (v ∷ vs)) o
    put_before f v None = refl
    put_before f v (Some vs) = refl

-- ---- instances

both-truth_of : (a b : Bool) → both (truth_of a) (truth_of b) ≡ conjunction (truth_of a) (truth_of b)
both-truth_of true true = refl
both-truth_of true false = refl
both-truth_of false true = refl
both-truth_of false false = refl

-- of one more
one_more : (f : Bool → Bool → Bool) (r p q : Truth3) (s : Truth3) → r ≡ saying p → s ≡ saying q → both r s ≡ saying (strict f p q)
one_more f r p q s e g = ap₂ both e g ∙ both-truth_of (is_defined p) (is_defined q) ∙ saying-strict f p q

-- each instance of one says that the instance of the other isn't Undefined
pub saying-for_all : (p : Value → Bool) (f g : Value → Truth3) (vs : List Value) → list_all p vs ≡ true → ((v : Value) → p v ≡ true → f v ≡ saying (g v)) → for_all (map f vs) ≡ saying (for_all (map g vs))
saying-for_all p f g [] h k = refl
saying-for_all p f g (v ∷ vs) h k =
    one_more (λ a b. a && b) (f v) (g v) (for_all (map g vs)) (for_all (map f vs)) (k v (first_so (p v) (list_all p vs) h)) (saying-for_all p f g vs (second_so (p v) (list_all p vs) h) k)

pub saying-exists : (p : Value → Bool) (f g : Value → Truth3) (vs : List Value) → list_all p vs ≡ true → ((v : Value) → p v ≡ true → f v ≡ saying (g v)) → for_all (map f vs) ≡ saying (exists (map g vs))
saying-exists p f g [] h k = refl
saying-exists p f g (v ∷ vs) h k =
    one_more (λ a b. a || b) (f v) (g v) (exists (map g vs)) (for_all (map f vs)) (k v (first_so (p v) (list_all p vs) h)) (saying-exists p f g vs (second_so (p v) (list_all p vs) h) k)
