-- The facts of the problem of the axioms are closed predicates that refer to choices alone and fit.
use Rattle.std.proofs.Common.{◌≡◌, ◌<◌, ℕ, Bool, true, false, if◌then◌else◌, List, [], ◌∷◌, ◌++◌, map, length, Some, slice_get, refl, arith}
use Rattle.std.specs.Prelude.{nat_lt}
use Rattle.std.specs.List.{Contains, AllByRecursion, list_all, flat_map}
use Rattle.std.proofs.lemmas.Bool.Decides.{nat_tests}
use Rattle.std.proofs.lemmas.List.Elements.{All-from_recursion, All-contains}
use Rattle.std.proofs.lemmas.List.Sums.{AllPass-from_list_all}
use Rattle.type_table.specs.Rows.{predicate}
use Rattle.eb_value.specs.declared.scope.Scope.{Scope}
use Rattle.eb_value.specs.declared.types.EbType.{EbType}
use Rattle.eb_term.specs.declared.problem.Problem.{Problem}
use Rattle.eb_term.specs.declared.term.Term.{Term}
use Rattle.eb_term.specs.Typed.{HasSort}
use Rattle.eb_term.specs.Leaves.{references}
use Rattle.eb_narrow.specs.Narrow.{narrow}
use Rattle.eb_model.specs.declared.model.LabelledFormula.{LabelledFormula}
use Rattle.eb_model.specs.declared.model.ModelPart.{ModelPart}
use Rattle.eb_model.specs.declared.model.ModelPart.TheVariants as part
use Rattle.eb_model.specs.declared.model.EbModel.{EbModel}
use Rattle.eb_typing.specs.Models.{Typed}
use Rattle.eb_lowering.specs.declared.setting.Ranges.TheVariants as ranges
use Rattle.typed_lowering.specs.Settings.{GivesTyped}
use Rattle.typed_lowering.specs.Models.{Says, by_axiom}
use Rattle.occurrences.specs.Typed.{IsTyped, FitsAll}
use Rattle.cbc_query.specs.Parts.{part_axioms}
use Rattle.cbc_query.specs.Settings.{setting_of}
use Rattle.cbc_query.specs.Problems.{axiom_term, axioms_problem}
use Rattle.typed_problems.proofs.Hypotheses.{Laws}
use Rattle.typed_problems.proofs.Known.{IsKnown, AreParts, first_part, more_parts, known_terms}

-- a predicate under no binder that refers to choices alone and fits
record IsFact (scope : Scope) (p : Problem) (t : Term) : Type 0 where
  sort : HasSort [] t predicate
  referring : (number : ℕ) → Contains (references t) number → number < length p.choices
  fitting : FitsAll scope p t

within : (bound : ℕ) (ks : List ℕ) → list_all (λ n. nat_lt n bound) ks ≡ true → (number : ℕ) → Contains ks number → number < bound
within bound ks h number c =
    let e : nat_lt number bound ≡ true = All-contains (λ n. nat_lt n bound ≡ true) ks number (AllPass-from_list_all (λ n. nat_lt n bound) ks h) c in
    grind (arith, nat_tests)

module _ (laws : Laws) (scope : Scope) (m : EbModel) (types : List EbType) (typed : Typed m types) where
  abbrev Known : EbType → Term → Type 0
  Known ty t = IsKnown scope (axioms_problem scope m types) ty t

  known : (k : ℕ) (t : Term) (ty : EbType) → slice_get (setting_of scope m types ranges.Typed).known k ≡ Some (Some t) → slice_get types k ≡ Some ty → Known ty t
  known k t ty e f = known_terms laws scope m types typed (axioms_problem scope m types) refl k t e ty f

  gives_typed : GivesTyped (setting_of scope m types ranges.Typed)
  gives_typed = record { ranges = refl; known = λ k t ty e f. (known k t ty e f).sort }

  axiom_is : (l : LabelledFormula) → Says m l → IsFact scope (axioms_problem scope m types) (narrow (axiom_term scope m types l))
  axiom_is l y =
      let s = setting_of scope m types ranges.Typed in
      let t = axiom_term scope m types l in
      let bound = length (axioms_problem scope m types).choices in
      let sort : HasSort [] t predicate = laws.typed m s typed gives_typed l y in
      let low : list_all (λ n. nat_lt n bound) (references t) ≡ true = laws.referring m s typed gives_typed bound (λ k t ty e f. (known k t ty e f).referring) l y in
      record {
        sort = laws.narrow_typed t predicate sort;
        referring = λ number c. within bound (references t) low number (laws.narrow_refers t number c);
        fitting = λ slots h. laws.narrow_fits scope slots t predicate sort (laws.fitting m s typed gives_typed scope slots (λ k t ty e f. (known k t ty e f).fitting slots h) l y);
      }

  -- each axiom's fact is one
  abbrev AreFacts : List LabelledFormula → Type 0
  AreFacts ls = AllByRecursion (IsFact scope (axioms_problem scope m types)) (map narrow (map (axiom_term scope m types) ls))

  one_axiom : (l : LabelledFormula) (is_theorem : Bool) (ls : List LabelledFormula) → Says m l → AreFacts ls → AreFacts ((if is_theorem then [] else (l ∷ [])) ++ ls)
  one_axiom l true ls y h = h
  one_axiom l false ls y h = (axiom_is l y, h)

  facts_from : (ps : List ModelPart) → AreParts m ps → AreFacts (flat_map part_axioms ps)
  facts_from [] h = tt
  facts_from (part.Carrier s x ∷ ps) h = facts_from ps (more_parts m (part.Carrier s x) ps h)
  facts_from (part.Constant x ∷ ps) h = facts_from ps (more_parts m (part.Constant x) ps h)
  facts_from (part.Variable x ∷ ps) h = facts_from ps (more_parts m (part.Variable x) ps h)
  facts_from (part.Axiom l ∷ ps) h =
      one_axiom l l.is_theorem (flat_map part_axioms ps) (by_axiom l (first_part m (part.Axiom l) ps h)) (facts_from ps (more_parts m (part.Axiom l) ps h))
  facts_from (part.Invariant l ∷ ps) h = facts_from ps (more_parts m (part.Invariant l) ps h)
  facts_from (part.Event e ∷ ps) h = facts_from ps (more_parts m (part.Event e) ps h)

  fact_is : (t : Term) → Contains (axioms_problem scope m types).facts t → IsFact scope (axioms_problem scope m types) t
  fact_is t c =
      let fact = IsFact scope (axioms_problem scope m types) in
      let facts = (axioms_problem scope m types).facts in
      All-contains fact facts t (All-from_recursion fact facts (facts_from m.parts (λ x c. c))) c

  pub problem_typed : IsTyped scope (axioms_problem scope m types)
  problem_typed = record {
    definitions = λ k t e. absurd (cc);
    earlier = λ k number t e c. absurd (cc);
    definitions_fit = λ k t e. absurd (cc);
    facts = λ t c. (fact_is t c).sort;
    within = λ t number c d. let l : number < length (axioms_problem scope m types).choices = (fact_is t c).referring number d in omega arith;
    facts_fit = λ t c. (fact_is t c).fitting;
  }
