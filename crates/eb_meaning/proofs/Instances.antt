-- The values of all instances, one more at a time.
use Rattle.std.proofs.Common.{◌≡◌, refl, List, [], ◌∷◌, ◌++◌, Option, Some, None, option_map, map, ap, ◌∙◌}
use Rattle.eb_value.specs.declared.value.Value.{Value}
use Rattle.eb_meaning.specs.Meaning.{Slot, all_values}

assoc : (ps : List Value) (v : Value) (vs : List Value) → (ps ++ (v ∷ vs)) ≡ ((ps ++ (v ∷ [])) ++ vs)
assoc [] v vs = refl
assoc (p ∷ ps) v vs = ap (λ xs. p ∷ xs) (assoc ps v vs)

pub none_yet : (o : Option (List Value)) → o ≡ option_map (λ vs. [] ++ vs) o
none_yet None = refl
none_yet (Some vs) = refl

pub one_more : (ps : List Value) (v : Value) (o : Option (List Value))
    → option_map (λ vs. ps ++ vs) (option_map (λ vs. v ∷ vs) o) ≡ option_map (λ vs. (ps ++ (v ∷ [])) ++ vs) o
one_more ps v None = refl
one_more ps v (Some vs) = ap Some (assoc ps v vs)

-- what is left begins with one that has a value
pub next_one : {A : Type 0} (f : A → Slot) (whole : Option (List Value)) (ps : List Value) (left : List A) (x : A) (xs : List A) (v : Value)
    → whole ≡ option_map (λ vs. ps ++ vs) (all_values (map f left)) → left ≡ x ∷ xs → f x ≡ Some v
    → whole ≡ option_map (λ vs. (ps ++ (v ∷ [])) ++ vs) (all_values (map f xs))
next_one f whole ps left x xs v w l e = w ∙ rw (l, e) (one_more ps v (all_values (map f xs)))
