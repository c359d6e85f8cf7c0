-- The problem of the query `axioms`: constants whose values make each axiom True.
use Rattle.std.specs.Prelude.{◌≡◌, List, [], map, Some}
use Rattle.std.specs.List.{All}
use Rattle.eb_value.specs.declared.scope.Scope.{Scope}
use Rattle.eb_value.specs.declared.types.EbType.{EbType}
use Rattle.eb_value.specs.declared.value.Value.{Value}
use Rattle.numbered_names.specs.declared.entries.Entry.{Entry}
use Rattle.eb_term.specs.declared.problem.Choice.{Choice}
use Rattle.eb_term.specs.declared.problem.Problem.{Problem}
use Rattle.eb_term.specs.declared.term.Term.{Term}
use Rattle.eb_operations.specs.declared.truth3.Truth3.TheVariants.{True}
use Rattle.eb_meaning.specs.Meaning.{truth_in}
use Rattle.eb_meaning.specs.Problems.{IsValuation, outermost}
use Rattle.eb_model.specs.declared.model.LabelledFormula.{LabelledFormula}
use Rattle.eb_model.specs.declared.model.EbModel.{EbModel}
use Rattle.eb_lowering.specs.declared.setting.Ranges.TheVariants as ranges
use Rattle.eb_lowering.specs.Lowering.{term_of}
use Rattle.eb_narrow.specs.Narrow.{narrow}
use Rattle.cbc_query.specs.Parts.{constants, axioms}
use Rattle.cbc_query.specs.Settings.{type_in, setting_of}

abbrev pub choice_of : List EbType → Entry → Choice
choice_of types x = record { name = x.name; ty = type_in types x.number }

-- a choice for each constant
abbrev pub choices_of : EbModel → List EbType → List Choice
choices_of m types = map (choice_of types) (constants m)

-- the term of an axiom as it is written
abbrev pub axiom_term : Scope → EbModel → List EbType → LabelledFormula → Term
axiom_term scope m types l = term_of (setting_of scope m types ranges.Typed) l.formula

abbrev pub axiom_terms : Scope → EbModel → List EbType → List Term
axiom_terms scope m types = map (axiom_term scope m types) (axioms m)

-- the choices are the constants and the facts are the axioms in narrow form, each in the order of the text
abbrev pub axioms_problem : Scope → EbModel → List EbType → Problem
axioms_problem scope m types = record {
  choices = choices_of m types;
  definitions = [];
  facts = map narrow (axiom_terms scope m types);
}

-- The constants have values of their types in the scope, one each, of which each axiom as it is written is True: neither False
-- nor Undefined.
pub record IsWitness (scope : Scope) (m : EbModel) (types : List EbType) (values : List Value) : Type 0 where
  pub valuation : IsValuation scope (choices_of m types) values
  pub all : All (λ t. truth_in scope (outermost (map (λ v. Some v) values)) t ≡ True) (axiom_terms scope m types)
