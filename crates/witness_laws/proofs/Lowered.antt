-- The axioms of a typed model become closed predicates that fit where the constants have values of their types.
use Rattle.std.proofs.Common.{◌≡◌, ℕ, List, [], map, Some, slice_get, refl, ap, subst}
use Rattle.std.specs.Prelude.{unwrap_or}
use Rattle.type_table.specs.Rows.{predicate}
use Rattle.eb_value.specs.declared.scope.Scope.{Scope}
use Rattle.eb_value.specs.declared.types.EbType.{EbType}
use Rattle.eb_value.specs.declared.value.Value.{Value}
use Rattle.eb_value.specs.Types.{boolean}
use Rattle.eb_term.specs.declared.term.Term.{Term}
use Rattle.eb_meaning.specs.Problems.{IsValuation, IsSolution}
use Rattle.eb_model.specs.declared.model.EbModel.{EbModel}
use Rattle.eb_typing.specs.Models.{Typed}
use Rattle.eb_lowering.specs.declared.setting.Ranges.TheVariants as ranges
use Rattle.eb_lowering.specs.Lowering as lowering
use Rattle.typed_lowering.specs.Settings.{GivesTyped, GivesFitting, AroundFits}
use Rattle.cbc_query.specs.Settings.{type_in, setting_of}
use Rattle.cbc_query.specs.Problems.{choices_of, axiom_terms, axioms_problem, IsWitness}
use Rattle.witness_laws.proofs.Hypotheses.{Laws, IsBounded}
use Rattle.witness_laws.proofs.Known.{IsKnown, known_terms}
use Rattle.witness_laws.proofs.Alike.{Lowers, EachClosed, all_closed, witness, solution}

type_of_number : (types : List EbType) (k : ℕ) (ty : EbType) → slice_get types k ≡ Some ty → type_in types k ≡ ty
type_of_number types k ty e = ap (λ o. unwrap_or o boolean) e

-- what the terms of carrier sets and constants are, by the types that the numbers have
known : Laws → (scope : Scope) → IsBounded scope → (m : EbModel) (types : List EbType) → Typed m types → (values : List Value) → IsValuation scope (choices_of m types) values
    → (k : ℕ) (t : Term) (ty : EbType) → slice_get (setting_of scope m types ranges.Typed).known k ≡ Some (Some t) → slice_get types k ≡ Some ty
    → IsKnown scope values ty t
known laws scope b m types typed values valuation k t ty e f =
    subst (λ z. IsKnown scope values z t) (type_of_number types k ty f) (known_terms laws scope b m types typed values valuation k t e)

gives_typed : Laws → (scope : Scope) → IsBounded scope → (m : EbModel) (types : List EbType) → Typed m types → (values : List Value) → IsValuation scope (choices_of m types) values
    → GivesTyped (setting_of scope m types ranges.Typed)
gives_typed laws scope b m types typed values valuation = record {
  ranges = refl;
  known = λ k t ty e f. (known laws scope b m types typed values valuation k t ty e f).sort;
}

gives_fitting : Laws → (scope : Scope) → IsBounded scope → (m : EbModel) (types : List EbType) → Typed m types → (values : List Value) → IsValuation scope (choices_of m types) values
    → GivesFitting scope (map (λ v. Some v) values) (setting_of scope m types ranges.Typed)
gives_fitting laws scope b m types typed values valuation = λ k t ty e f. (known laws scope b m types typed values valuation k t ty e f).fitting

no_binder : (types : List EbType) → AroundFits types [] lowering.outermost
no_binder types = record { depth = refl; places = tt }

lowers : Laws → (scope : Scope) → IsBounded scope → (m : EbModel) (types : List EbType) → Typed m types → (values : List Value) → IsValuation scope (choices_of m types) values
    → Lowers scope m types values
lowers laws scope b m types typed values valuation =
    let s = setting_of scope m types ranges.Typed in
    let gives = gives_typed laws scope b m types typed values valuation in
    record {
      each = λ l h. record {
        sort = laws.lowered s gives l.formula predicate h [] lowering.outermost (no_binder types);
        fitting = laws.fitting s gives scope (map (λ v. Some v) values) (gives_fitting laws scope b m types typed values valuation) l.formula predicate h [] lowering.outermost (no_binder types);
      };
    }

closed : Laws → (scope : Scope) → IsBounded scope → (m : EbModel) (types : List EbType) → Typed m types → (values : List Value) → IsValuation scope (choices_of m types) values
    → EachClosed scope values (axiom_terms scope m types)
closed laws scope b m types typed values valuation = all_closed scope m types values (lowers laws scope b m types typed values valuation) typed

pub solution_is_witness : Laws → (scope : Scope) → IsBounded scope → (m : EbModel) (types : List EbType) → Typed m types
    → (values : List Value) → IsSolution scope (axioms_problem scope m types) values → IsWitness scope m types values
solution_is_witness laws scope b m types typed values h = witness laws scope b m types values (closed laws scope b m types typed values h.valuation) h

pub witness_is_solution : Laws → (scope : Scope) → IsBounded scope → (m : EbModel) (types : List EbType) → Typed m types
    → (values : List Value) → IsWitness scope m types values → IsSolution scope (axioms_problem scope m types) values
witness_is_solution laws scope b m types typed values h = solution laws scope b m types values (closed laws scope b m types typed values h.valuation) h
