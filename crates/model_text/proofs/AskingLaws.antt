-- What queries and constants are, part by part.
use Rattle.std.proofs.Common.{◌≡◌, ◌∙◌, sym, ap, ap₂, subst, refl, ℕ, Bool, true, false, ◌&&◌, ◌||◌, Option, Some, length, List, [], ◌∷◌, ◌++◌, map, append_assoc}
use Rattle.std.specs.List.{flat_map, list_all, list_any}
use Rattle.eb_syntax.specs.declared.query.Query.{Query}
use Rattle.eb_syntax.specs.declared.units.EbUnit.{EbUnit}
use Rattle.eb_value.specs.declared.scope.Scope.{Scope}
use Rattle.eb_value.specs.declared.types.EbType.{EbType}
use Rattle.eb_term.specs.declared.problem.Choice.{Choice}
use Rattle.eb_term.specs.declared.problem.Problem.{Problem}
use Rattle.eb_model.specs.declared.model.ModelPart.{ModelPart}
use Rattle.eb_model.specs.declared.model.EbModel.{EbModel}
use Rattle.occ_store.specs.Stores.{HaveIntegers}
use Rattle.cbc_query.specs.Parts.{part_constants}
use Rattle.scope_settings.specs.Scopes.{scope_of}
use Rattle.cbc_query.specs.Problems.{choice_of, axioms_problem}
use Rattle.model_text.specs.Asking.{queries, asks_axioms, problem_where, problem_asked, problem_for}

map_append : {A B : Type 0} (f : A → B) (xs ys : List A) → map f (xs ++ ys) ≡ map f xs ++ map f ys
map_append f [] ys = refl
map_append f (x ∷ xs) ys = ap (λ z. f x ∷ z) (map_append f xs ys)

-- choices are integers exactly where two parts of their list are
pub integers_before : (xs ys : List Choice) → HaveIntegers (xs ++ ys) → HaveIntegers xs
integers_before [] ys h = tt
integers_before (x ∷ xs) ys h = (h.0, integers_before xs ys h.1)

pub integers_behind : (xs ys : List Choice) → HaveIntegers (xs ++ ys) → HaveIntegers ys
integers_behind [] ys h = h
integers_behind (x ∷ xs) ys h = integers_behind xs ys h.1

pub integers_both : (xs ys : List Choice) → HaveIntegers xs → HaveIntegers ys → HaveIntegers (xs ++ ys)
integers_both [] ys h k = k
integers_both (x ∷ xs) ys h k = (h.0, integers_both xs ys h.1 k)

-- the choices of parts behind one part
pub choices_cons : (types : List EbType) (p : ModelPart) (ps : List ModelPart)
    → map (choice_of types) (flat_map part_constants (p ∷ ps)) ≡ map (choice_of types) (part_constants p) ++ map (choice_of types) (flat_map part_constants ps)
choices_cons types p ps = map_append (choice_of types) (part_constants p) (flat_map part_constants ps)

abbrev pub choices_in : List EbType → List ModelPart → List Choice
choices_in types ps = map (choice_of types) (flat_map part_constants ps)

-- The constants of some parts are integers exactly where those of others are.
pub record SameIntegers (types : List EbType) (all rest : List ModelPart) : Type 0 where
  pub fore : HaveIntegers (choices_in types all) → HaveIntegers (choices_in types rest)
  pub back : HaveIntegers (choices_in types rest) → HaveIntegers (choices_in types all)

pub same_integers : (types : List EbType) (ps : List ModelPart) → SameIntegers types ps ps
same_integers types ps = record { fore = λ h. h; back = λ h. h }

-- one part less, which is an integer if it is a constant
pub one_less : (types : List EbType) (all : List ModelPart) (p : ModelPart) (ps : List ModelPart)
    → HaveIntegers (map (choice_of types) (part_constants p)) → SameIntegers types all (p ∷ ps) → SameIntegers types all ps
one_less types all p ps is h = record {
  fore = λ k. integers_behind (map (choice_of types) (part_constants p)) (choices_in types ps) (subst HaveIntegers (choices_cons types p ps) (h.fore k));
  back = λ k. h.back (subst HaveIntegers (sym (choices_cons types p ps)) (integers_both (map (choice_of types) (part_constants p)) (choices_in types ps) is k));
}

-- one part that is none
pub one_is_none : (types : List EbType) (all : List ModelPart) (p : ModelPart) (ps : List ModelPart)
    → (HaveIntegers (map (choice_of types) (part_constants p)) → ⊥) → SameIntegers types all (p ∷ ps) → HaveIntegers (choices_in types all) → ⊥
one_is_none types all p ps is h k = is (integers_before (map (choice_of types) (part_constants p)) (choices_in types ps) (subst HaveIntegers (choices_cons types p ps) (h.fore k)))

-- where each query is `axioms`, so many queries have its problem
pub problem_of_all : (qs : List Query) (p : Problem) → list_all asks_axioms qs ≡ true → problem_where (list_any asks_axioms qs) p ≡ problem_for (length qs) p
problem_of_all [] p h = refl
problem_of_all (q ∷ qs) p h = by_first (asks_axioms q) (list_all asks_axioms qs) (list_any asks_axioms qs) h where
  by_first : (b all any : Bool) → (b && all) ≡ true → problem_where (b || any) p ≡ Some p
  by_first true all any h = refl
  by_first false all any h = absurd cc

pub asked_problem : (us : List EbUnit) (m : EbModel) (types : List EbType) (scope : Scope) (n : ℕ) (o : Option Problem)
    → list_all asks_axioms (queries us) ≡ true → n ≡ length (queries us) → scope ≡ scope_of us m → o ≡ problem_asked us m types → o ≡ problem_for n (axioms_problem scope m types)
asked_problem us m types scope n o all count at is =
    is ∙ problem_of_all (queries us) (axioms_problem (scope_of us m) m types) all ∙ ap₂ (λ k z. problem_for k (axioms_problem z m types)) (sym count) (sym at)
