-- Laws of what is told of used names.
use Rattle.std.proofs.Common.{◌≡◌, ◌∙◌, ◌⊎◌, inl, inr, ◌∷◌, [], ◌||◌, ℕ, Bool, true, false, List, Option, None, Some, Contains, refl, sym, subst, ⊎_elim, bytes_eq, arith}
use Rattle.std.proofs.lemmas.Slice.Eq.{bytes_eq-Decides}
use Rattle.std.proofs.lemmas.List.Elements.{Contains-append_right}
use Rattle.eb_syntax.specs.declared.units.EbUnit.{EbUnit}
use Rattle.eb_syntax.specs.declared.units.Machine.{Machine}
use Rattle.eb_scoping.specs.FreeNames.{is_among}
use Rattle.eb_scoping.specs.Models.{machine_of}
use Rattle.eb_lower.specs.Usages.{IsVariable}
use Rattle.eb_lower.specs.steps.Facts.{all_variables, machine_variables}
use Rattle.eb_lower.specs.steps.Known.{Tells}
use Rattle.eb_lower.proofs.ListLaws.{contains_cases}

or_left : (a b : Bool) → a ≡ true → (a || b) ≡ true
or_left a b e = rw e refl

or_right : (a b : Bool) → b ≡ true → (a || b) ≡ true
or_right true b e = refl
or_right false b e = e

or_cases : (a b : Bool) → (a || b) ≡ true → (a ≡ true) ⊎ (b ≡ true)
or_cases true b e = inl refl
or_cases false b e = inr e

pub among_contains : (xs : List (List ℕ)) (q : List ℕ) → is_among xs q ≡ true → Contains xs q
among_contains [] q h = absurd cc
among_contains (x ∷ xs) q h = ⊎_elim
    (λ e. subst (λ z. Contains (x ∷ xs) z) ((bytes_eq-Decides x q).0 e) (0, omega arith, refl))
    (λ o. Contains-append_right (x ∷ []) xs q (among_contains xs q o))
    (or_cases (bytes_eq x q) (is_among xs q) h)

pub contains_among : (xs : List (List ℕ)) (q : List ℕ) → Contains xs q → is_among xs q ≡ true
contains_among [] q h = absurd (omega (arith, h.1))
contains_among (x ∷ xs) q h = ⊎_elim
    (λ e. or_left (bytes_eq x q) (is_among xs q) ((bytes_eq-Decides x q).1 e))
    (λ o. or_right (bytes_eq x q) (is_among xs q) (contains_among xs q o))
    (contains_cases x xs q h)

or_none : (b : Bool) → (b || false) ≡ b
or_none true = refl
or_none false = refl

variable_of : (us : List EbUnit) (name : List ℕ) (o : Option Machine) → machine_of us ≡ o → Contains (machine_variables o) name → IsVariable us name
variable_of us name None e h = absurd (omega (arith, h.1))
variable_of us name (Some m) e h = (m, e, h)

pub tells_variable : (us : List EbUnit) (b : Bool) (name : List ℕ) → b ≡ (is_among (all_variables us) name || false) → Tells b (IsVariable us name)
tells_variable us b name e = let f = e ∙ or_none (is_among (all_variables us) name) in (
  λ t. variable_of us name (machine_of us) refl (among_contains (all_variables us) name (sym f ∙ t)),
  λ v. f ∙ contains_among (all_variables us) name (subst (λ z. Contains (machine_variables z) name) (sym v.1) v.2),
)
