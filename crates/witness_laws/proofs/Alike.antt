-- The facts of the problem of the axioms, and the axioms as they are written, have the same truth.
use Rattle.std.proofs.Common.{◌≡◌, ◌∙◌, zero, suc, Bool, true, false, List, [], ◌∷◌, ◌++◌, map, Some, if◌then◌else◌, refl, sym, arith}
use Rattle.std.specs.Prelude.{⊤}
use Rattle.std.specs.List.{All, list_all, flat_map}
use Rattle.type_table.specs.Rows.{predicate}
use Rattle.eb_value.specs.declared.scope.Scope.{Scope}
use Rattle.eb_value.specs.declared.types.EbType.{EbType}
use Rattle.eb_value.specs.declared.value.Value.{Value}
use Rattle.eb_term.specs.declared.term.Term.{Term}
use Rattle.eb_term.specs.Typed.{HasSort}
use Rattle.eb_operations.specs.declared.truth3.Truth3.TheVariants.{True}
use Rattle.eb_meaning.specs.Meaning.{is_value, truth_in}
use Rattle.eb_meaning.specs.Problems.{outermost, fact_at, IsTrueOf, IsSolution}
use Rattle.eb_meaning.specs.Fitting.{fits}
use Rattle.eb_narrow.specs.Narrow.{narrow}
use Rattle.eb_model.specs.declared.model.LabelledFormula.{LabelledFormula}
use Rattle.eb_model.specs.declared.model.ModelPart.{ModelPart}
use Rattle.eb_model.specs.declared.model.ModelPart.TheVariants as part
use Rattle.eb_model.specs.declared.model.EbModel.{EbModel}
use Rattle.eb_typing.specs.Numbering.{numbered}
use Rattle.eb_typing.specs.Typing as types_of
use Rattle.eb_typing.specs.Typing.{ArePredicates}
use Rattle.eb_typing.specs.Models.{Typed, owed_by_part}
use Rattle.cbc_query.specs.Parts.{part_axioms}
use Rattle.cbc_query.specs.Problems.{axiom_term, axiom_terms, axioms_problem, IsWitness}
use Rattle.witness_laws.proofs.Hypotheses.{Laws, IsBounded}
use Rattle.witness_laws.proofs.Known.{later}

-- a closed predicate that fits where the choices have these values
pub record IsClosed (scope : Scope) (values : List Value) (t : Term) : Type 0 where
  pub sort : HasSort [] t predicate
  pub fitting : fits scope (map (λ v. Some v) values) t ≡ true

abbrev pub EachClosed : Scope → List Value → List Term → Type 0
EachClosed scope values [] = ⊤
EachClosed scope values (t ∷ ts) = IsClosed scope values t × EachClosed scope values ts

one_alike : Laws → (scope : Scope) → IsBounded scope → (values : List Value) (t : Term) → IsClosed scope values t
    → fact_at scope (map (λ v. Some v) values) (narrow t) ≡ truth_in scope (outermost (map (λ v. Some v) values)) t
one_alike laws scope b values t h = laws.own scope values (narrow t) ∙ laws.narrowed scope b.low b.high t (map (λ v. Some v) values) h.sort h.fitting

facts_terms : Laws → (scope : Scope) → IsBounded scope → (values : List Value) (ts : List Term) → EachClosed scope values ts
    → All (IsTrueOf scope [] values) (map narrow ts) → All (λ t. truth_in scope (outermost (map (λ v. Some v) values)) t ≡ True) ts
facts_terms laws scope b values [] hs h i d l = absurd (omega arith)
facts_terms laws scope b values (t ∷ ts) hs h zero d l = sym (one_alike laws scope b values t hs.0) ∙ h 0 (narrow t) (omega arith)
facts_terms laws scope b values (t ∷ ts) hs h (suc i) d l = facts_terms laws scope b values ts hs.1 (λ j e k. h (suc j) e (omega arith)) i d (omega arith)

terms_facts : Laws → (scope : Scope) → IsBounded scope → (values : List Value) (ts : List Term) → EachClosed scope values ts
    → All (λ t. truth_in scope (outermost (map (λ v. Some v) values)) t ≡ True) ts → All (IsTrueOf scope [] values) (map narrow ts)
terms_facts laws scope b values [] hs h i d l = absurd (omega arith)
terms_facts laws scope b values (t ∷ ts) hs h zero d l = one_alike laws scope b values t hs.0 ∙ h 0 t (omega arith)
terms_facts laws scope b values (t ∷ ts) hs h (suc i) d l = terms_facts laws scope b values ts hs.1 (λ j e k. h (suc j) e (omega arith)) i d (omega arith)

given_values : (values : List Value) → list_all is_value (map (λ v. Some v) values) ≡ true
given_values [] = refl
given_values (v ∷ values) = given_values values

pub witness : Laws → (scope : Scope) → IsBounded scope → (m : EbModel) (types : List EbType) (values : List Value)
    → EachClosed scope values (axiom_terms scope m types) → IsSolution scope (axioms_problem scope m types) values → IsWitness scope m types values
witness laws scope b m types values hs h = record { valuation = h.valuation; all = facts_terms laws scope b values (axiom_terms scope m types) hs h.facts }

pub solution : Laws → (scope : Scope) → IsBounded scope → (m : EbModel) (types : List EbType) (values : List Value)
    → EachClosed scope values (axiom_terms scope m types) → IsWitness scope m types values → IsSolution scope (axioms_problem scope m types) values
solution laws scope b m types values hs h = record {
  valuation = h.valuation;
  defined = given_values values;
  facts = terms_facts laws scope b values (axiom_terms scope m types) hs h.all;
}

-- ---- the axioms

-- what lowering gives of a typed predicate of the model
pub record Lowers (scope : Scope) (m : EbModel) (types : List EbType) (values : List Value) : Type 0 where
  pub each : (l : LabelledFormula) → types_of.HasSort types (numbered l.formula) predicate → IsClosed scope values (axiom_term scope m types l)

one_axiom : (scope : Scope) (m : EbModel) (types : List EbType) (values : List Value) → Lowers scope m types values
    → (l : LabelledFormula) (is_theorem : Bool) (ts : List LabelledFormula) → types_of.HasSort types (numbered l.formula) predicate
    → EachClosed scope values (map (axiom_term scope m types) ts)
    → EachClosed scope values (map (axiom_term scope m types) ((if is_theorem then [] else (l ∷ [])) ++ ts))
one_axiom scope m types values lowers l true ts h hs = hs
one_axiom scope m types values lowers l false ts h hs = (lowers.each l h, hs)

axioms_closed : (scope : Scope) (m : EbModel) (types : List EbType) (values : List Value) → Lowers scope m types values
    → (ps : List ModelPart) → ArePredicates types (flat_map owed_by_part ps) → EachClosed scope values (map (axiom_term scope m types) (flat_map part_axioms ps))
axioms_closed scope m types values lowers [] typed = tt
axioms_closed scope m types values lowers (part.Carrier s x ∷ ps) typed = axioms_closed scope m types values lowers ps typed.1
axioms_closed scope m types values lowers (part.Constant x ∷ ps) typed = axioms_closed scope m types values lowers ps typed
axioms_closed scope m types values lowers (part.Variable x ∷ ps) typed = axioms_closed scope m types values lowers ps typed
axioms_closed scope m types values lowers (part.Axiom l ∷ ps) typed =
    one_axiom scope m types values lowers l l.is_theorem (flat_map part_axioms ps) typed.0 (axioms_closed scope m types values lowers ps typed.1)
axioms_closed scope m types values lowers (part.Invariant l ∷ ps) typed = axioms_closed scope m types values lowers ps typed.1
axioms_closed scope m types values lowers (part.Event e ∷ ps) typed =
    axioms_closed scope m types values lowers ps (later types (owed_by_part (part.Event e)) (flat_map owed_by_part ps) typed)

pub all_closed : (scope : Scope) (m : EbModel) (types : List EbType) (values : List Value) → Lowers scope m types values → Typed m types
    → EachClosed scope values (axiom_terms scope m types)
all_closed scope m types values lowers typed = axioms_closed scope m types values lowers m.parts typed.predicates
