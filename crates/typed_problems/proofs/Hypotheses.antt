-- What the proofs take of the clauses of the crates below, as hypotheses.
use Rattle.std.proofs.Common.{◌≡◌, ℕ, true, List, [], Some}
use Rattle.std.specs.Prelude.{nat_lt, slice_get}
use Rattle.std.specs.List.{Contains, list_all}
use Rattle.type_table.specs.Rows.{Sort, predicate}
use Rattle.numbered_names.specs.declared.entries.Entry.{Entry}
use Rattle.eb_value.specs.declared.scope.Scope.{Scope}
use Rattle.eb_value.specs.declared.types.EbType.{EbType}
use Rattle.eb_value.specs.Scopes.{vals}
use Rattle.eb_value.specs.Types.{carrier, power}
use Rattle.eb_value.specs.Values.{is_ascending}
use Rattle.eb_term.specs.declared.term.Term.{Term}
use Rattle.eb_term.specs.Typed.{HasSort}
use Rattle.eb_term.specs.Leaves.{references}
use Rattle.eb_meaning.specs.Meaning.{Slot}
use Rattle.eb_meaning.specs.Fitting.{fits}
use Rattle.eb_narrow.specs.Narrow.{narrow}
use Rattle.eb_model.specs.declared.model.LabelledFormula.{LabelledFormula}
use Rattle.eb_model.specs.declared.model.ModelPart.TheVariants as part
use Rattle.eb_model.specs.declared.model.EbModel.{EbModel}
use Rattle.eb_typing.specs.Models.{Typed}
use Rattle.eb_lowering.specs.declared.setting.Setting.{Setting}
use Rattle.eb_lowering.specs.Lowering.{term_of}
use Rattle.typed_lowering.specs.Settings.{EachKnown, GivesTyped, GivesFitting}
use Rattle.typed_lowering.specs.Models.{Says}

pub record Laws : Type 0 where
  pub ascending : (scope : Scope) (ty : EbType) → is_ascending (vals scope ty) ≡ true
  pub carriers : (m : EbModel) (types : List EbType) → Typed m types → (c : ℕ) (x : Entry) → Contains m.parts (part.Carrier c x) → slice_get types x.number ≡ Some (power (carrier c))
  pub typed : (m : EbModel) (s : Setting) → Typed m s.types → GivesTyped s → (l : LabelledFormula) → Says m l → HasSort [] (term_of s l.formula) predicate
  pub fitting : (m : EbModel) (s : Setting) → Typed m s.types → GivesTyped s → (scope : Scope) (refs : List Slot) → GivesFitting scope refs s
      → (l : LabelledFormula) → Says m l → fits scope refs (term_of s l.formula) ≡ true
  pub referring : (m : EbModel) (s : Setting) → Typed m s.types → GivesTyped s → (bound : ℕ) → EachKnown s (λ t ty. list_all (λ n. nat_lt n bound) (references t) ≡ true)
      → (l : LabelledFormula) → Says m l → list_all (λ n. nat_lt n bound) (references (term_of s l.formula)) ≡ true
  pub narrow_typed : (t : Term) (s : Sort) → HasSort [] t s → HasSort [] (narrow t) s
  pub narrow_fits : (scope : Scope) (refs : List Slot) (t : Term) (s : Sort) → HasSort [] t s → fits scope refs t ≡ true → fits scope refs (narrow t) ≡ true
  pub narrow_refers : (t : Term) (number : ℕ) → Contains (references (narrow t)) number → Contains (references t) number
