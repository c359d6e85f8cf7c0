-- The terms of carrier sets and constants: of their types under any binders, referring to choices alone, and of literals and
-- references that fit.
use Rattle.std.proofs.Common.{◌≡◌, ◌∙◌, ◌==◌, ◌<◌, ℕ, zero, suc, ◌+◌, ◌-◌, Bool, true, false, ◌&&◌, cond, List, [], ◌∷◌, map, fold, length, Option, Some, None, slice_get, option_map, IfSome, refl, sym, subst, ap, arith, rules}
use Rattle.std.specs.Prelude.{nat_lt, unwrap_or}
use Rattle.std.specs.List.{Contains, AllByRecursion, list_all, flat_map}
use Rattle.std.proofs.lemmas.Bool.{eqb-true}
use Rattle.std.proofs.lemmas.Bool.Decides.{nat_tests}
use Rattle.std.proofs.lemmas.Option.{slice_get_within}
use Rattle.type_table.specs.Rows.{expression}
use Rattle.eb_value.specs.declared.scope.Scope.{Scope}
use Rattle.eb_value.specs.declared.types.EbType.{EbType}
use Rattle.eb_value.specs.declared.value.Value.{Value}
use Rattle.eb_value.specs.Types.{boolean, carrier, power}
use Rattle.eb_value.specs.Scopes.{vals}
use Rattle.eb_value.specs.Typing.{has_type}
use Rattle.eb_value.specs.Values.{set}
use Rattle.eb_term.specs.declared.problem.Choice.{Choice}
use Rattle.eb_term.specs.declared.problem.Problem.{Problem}
use Rattle.eb_term.specs.declared.term.Term.{Term, the_lemmas}
use Rattle.eb_term.specs.Terms as term
use Rattle.eb_term.specs.Typed as typing
use Rattle.eb_term.specs.Typed.{HasSort}
use Rattle.eb_term.specs.Leaves.{references}
use Rattle.eb_meaning.specs.Meaning.{Slot, slot_at}
use Rattle.eb_meaning.specs.Fitting.{slot_has_type, fits}
use Rattle.occurrences.specs.declared.place.Place.TheVariants as place
use Rattle.occurrences.specs.Targets.{referred}
use Rattle.occurrences.specs.Typed.{type_there, named_type, FitsAll}
use Rattle.eb_model.specs.declared.model.ModelPart.{ModelPart}
use Rattle.eb_model.specs.declared.model.ModelPart.TheVariants as part
use Rattle.eb_model.specs.declared.model.EbModel.{EbModel}
use Rattle.eb_typing.specs.Models.{Typed}
use Rattle.cbc_query.specs.Parts.{part_constants}
use Rattle.cbc_query.specs.Settings.{type_in, carrier_term, terms_from, known_at, numbers_from}
use Rattle.cbc_query.specs.Problems.{choice_of, choices_of}
use Rattle.typed_problems.proofs.Hypotheses.{Laws}
use Rattle.typed_problems.proofs.Carriers.{all_atoms}

-- the term of a carrier set or a constant of this type
pub record IsKnown (scope : Scope) (p : Problem) (ty : EbType) (t : Term) : Type 0 where
  pub sort : (bound : List EbType) → HasSort bound t (expression ty)
  pub referring : list_all (λ n. nat_lt n (length p.choices)) (references t) ≡ true
  pub fitting : FitsAll scope p t

fits-literal : (scope : Scope) (refs : List Slot) (v : Value) (t : EbType) → fits scope refs (term.literal v t) ≡ has_type scope v t
fits-literal scope refs v t = search (rules, the_lemmas)

fits-reference : (scope : Scope) (refs : List Slot) (number : ℕ) (t : EbType) → fits scope refs (term.reference number t) ≡ slot_has_type scope (slot_at refs number) t
fits-reference scope refs number t = search (rules, the_lemmas)

refers-literal : (v : Value) (t : EbType) → references (term.literal v t) ≡ []
refers-literal v t = search (rules, the_lemmas)

refers-reference : (number : ℕ) (t : EbType) → references (term.reference number t) ≡ number ∷ []
refers-reference number t = search (rules, the_lemmas)

-- ---- one term

carrier_known : Laws → (scope : Scope) (p : Problem) (s : ℕ) → IsKnown scope p (power (carrier s)) (carrier_term scope s)
carrier_known laws scope p s = record {
  sort = λ bound. typing.literal (set (vals scope (carrier s))) (power (carrier s));
  referring = ap (list_all (λ n. nat_lt n (length p.choices))) (refers-literal (set (vals scope (carrier s))) (power (carrier s)));
  fitting = λ slots h. fits-literal scope slots (set (vals scope (carrier s))) (power (carrier s)) ∙ all_atoms laws scope s;
}

referred-choice : (choices number : ℕ) → number < choices → referred choices number ≡ place.Choice number
referred-choice choices number l = at (nat_lt number choices) refl where
  at : (b : Bool) → nat_lt number choices ≡ b → cond b (place.Choice number) (place.Definition (number - choices)) ≡ place.Choice number
  at true e = refl
  at false e = absurd (grind (arith, nat_tests))

below : (n bound : ℕ) → n < bound → nat_lt n bound ≡ true
below n bound l = grind (arith, nat_tests)

choice_known : (scope : Scope) (p : Problem) (c : ℕ) (x : Choice) → slice_get p.choices c ≡ Some x → IsKnown scope p x.ty (term.reference c x.ty)
choice_known scope p c x e =
    let l : c < length p.choices = slice_get_within p.choices c x e in
    let named : named_type p c ≡ Some x.ty = ap (type_there p) (referred-choice (length p.choices) c l) ∙ ap (option_map (λ c. c.ty)) e in
    record {
      sort = λ bound. typing.reference c x.ty;
      referring = ap (list_all (λ n. nat_lt n (length p.choices))) (refers-reference c x.ty) ∙ ap (λ b. b && true) (below c (length p.choices) l);
      fitting = λ slots h. fits-reference scope slots c x.ty ∙ h c x.ty named;
    }

-- ---- all terms

contains_there : {A : Type 0} (x : A) (xs : List A) (v : A) → Contains xs v → Contains (x ∷ xs) v
contains_there x xs v h = let l : h.0 < length xs = h.1 in (suc h.0, omega arith, h.2)

-- these parts are among those of the model
abbrev pub AreParts : EbModel → List ModelPart → Type 0
AreParts m ps = (x : ModelPart) → Contains ps x → Contains m.parts x

pub first_part : (m : EbModel) (x : ModelPart) (ps : List ModelPart) → AreParts m (x ∷ ps) → Contains m.parts x
first_part m x ps h = h x (0, omega arith, refl)

pub more_parts : (m : EbModel) (x : ModelPart) (ps : List ModelPart) → AreParts m (x ∷ ps) → AreParts m ps
more_parts m x ps h v c = h v (contains_there x ps v c)

-- from this place on the choices are those
record Follows (choices : List Choice) (c : ℕ) (cs : List Choice) : Type 0 where
  at : (j : ℕ) → slice_get choices (c + j) ≡ slice_get cs j

follows_here : (choices : List Choice) (c : ℕ) (x : Choice) (cs : List Choice) → Follows choices c (x ∷ cs) → slice_get choices c ≡ Some x
follows_here choices c x cs f = let e : c ≡ c + 0 = omega arith in ap (slice_get choices) e ∙ f.at 0

follows_next : (choices : List Choice) (c : ℕ) (x : Choice) (cs : List Choice) → Follows choices c (x ∷ cs) → Follows choices (c + 1) cs
follows_next choices c x cs f = record { at = λ (j : ℕ). let e : c + 1 + j ≡ c + suc j = omega arith in ap (slice_get choices) e ∙ f.at (suc j) }

follows_all : (choices : List Choice) → Follows choices 0 choices
follows_all choices = record { at = λ (j : ℕ). let e : 0 + j ≡ j = omega arith in ap (slice_get choices) e }

type_of_number : (types : List EbType) (k : ℕ) (ty : EbType) → slice_get types k ≡ Some ty → type_in types k ≡ ty
type_of_number types k ty e = ap (λ o. unwrap_or o boolean) e

module _ (laws : Laws) (scope : Scope) (m : EbModel) (types : List EbType) (typed : Typed m types) (p : Problem) where
  -- the term is one of the type of its number
  abbrev Knows : ℕ × Term → Type 0
  Knows t = IsKnown scope p (type_in types t.0) t.1

  each_from : (c : ℕ) (ps : List ModelPart) → AreParts m ps → Follows p.choices c (map (choice_of types) (flat_map part_constants ps)) → AllByRecursion Knows (terms_from scope types c ps)
  each_from c [] h f = tt
  each_from c (part.Carrier s x ∷ ps) h f = (
    subst (λ ty. IsKnown scope p ty (carrier_term scope s)) (sym (type_of_number types x.number (power (carrier s)) (laws.carriers m types typed s x (first_part m (part.Carrier s x) ps h)))) (carrier_known laws scope p s),
    each_from c ps (more_parts m (part.Carrier s x) ps h) f,
  )
  each_from c (part.Constant x ∷ ps) h f = (
    choice_known scope p c (choice_of types x) (follows_here p.choices c (choice_of types x) (map (choice_of types) (flat_map part_constants ps)) f),
    each_from (c + 1) ps (more_parts m (part.Constant x) ps h) (follows_next p.choices c (choice_of types x) (map (choice_of types) (flat_map part_constants ps)) f),
  )
  each_from c (part.Variable x ∷ ps) h f = each_from c ps (more_parts m (part.Variable x) ps h) f
  each_from c (part.Axiom l ∷ ps) h f = each_from c ps (more_parts m (part.Axiom l) ps h) f
  each_from c (part.Invariant l ∷ ps) h f = each_from c ps (more_parts m (part.Invariant l) ps h) f
  each_from c (part.Event e ∷ ps) h f = each_from c ps (more_parts m (part.Event e) ps h) f

  -- ---- the term of a number

  found_more : (k j : ℕ) (t : Term) (found : Option Term) (is_it : Bool) → (is_it ≡ true → j ≡ k) → Knows (j, t)
      → IfSome found (λ t. Knows (k, t)) → IfSome (cond is_it (Some t) found) (λ t. Knows (k, t))
  found_more k j t found true same known h = subst (λ n. Knows (n, t)) (same refl) known
  found_more k j t found false same known h = h

  found_known : (k : ℕ) (ts : List (ℕ × Term)) (found : Option Term) → IfSome found (λ t. Knows (k, t)) → AllByRecursion Knows ts
      → IfSome (fold (λ found t. cond (t.0 == k) (Some t.1) found) found ts) (λ t. Knows (k, t))
  found_known k [] found h each = h
  found_known k (t ∷ ts) found h each =
      found_known k ts (cond (t.0 == k) (Some t.1) found) (found_more k t.0 t.1 found (t.0 == k) (eqb-true t.0 k) each.0 h) each.1

  known_number : (f : ℕ → Option Term) (n j k : ℕ) (o : Option Term) → slice_get (map f (numbers_from j n)) k ≡ Some o → o ≡ f (j + k)
  known_number f zero j k o e = absurd (cc)
  known_number f (suc n) j zero o e =
      let same : f j ≡ o = cc in
      let here : j ≡ j + 0 = omega arith in
      sym same ∙ ap f here
  known_number f (suc n) j (suc k) o e =
      let there : j + 1 + k ≡ j + suc k = omega arith in
      known_number f n (j + 1) k o e ∙ ap f there

  some_known : (k : ℕ) (o : Option Term) (t : Term) → Some t ≡ o → IfSome o (λ t. Knows (k, t)) → Knows (k, t)
  some_known k None t e h = absurd (cc)
  some_known k (Some u) t e h = let same : u ≡ t = cc in subst (λ t. Knows (k, t)) same h

  -- each term of the table is one of the type of its number
  pub known_terms : p.choices ≡ choices_of m types → (k : ℕ) (t : Term) → slice_get (map (known_at (terms_from scope types 0 m.parts)) (numbers_from 0 m.numbers)) k ≡ Some (Some t)
      → (ty : EbType) → slice_get types k ≡ Some ty → IsKnown scope p ty t
  known_terms same k t e ty f =
      let each = each_from 0 m.parts (λ x c. c) (subst (Follows p.choices 0) same (follows_all p.choices)) in
      let first : 0 + k ≡ k = omega arith in
      let there : Some t ≡ known_at (terms_from scope types 0 m.parts) k = known_number (known_at (terms_from scope types 0 m.parts)) m.numbers 0 k (Some t) e ∙ ap (λ n. known_at (terms_from scope types 0 m.parts) n) first in
      subst (λ z. IsKnown scope p z t) (type_of_number types k ty f)
      (some_known k (known_at (terms_from scope types 0 m.parts) k) t there (found_known k (terms_from scope types 0 m.parts) None tt each))
