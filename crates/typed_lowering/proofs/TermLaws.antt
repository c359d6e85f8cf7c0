-- The laws of lowered terms.
use Rattle.std.proofs.Common.{◌≡◌, ℕ, true, List, [], refl}
use Rattle.std.specs.Prelude.{nat_lt}
use Rattle.std.specs.List.{list_all}
use Rattle.eb_value.specs.declared.scope.Scope.{Scope}
use Rattle.eb_value.specs.declared.types.EbType.{EbType}
use Rattle.type_table.specs.Rows.{Sort, predicate}
use Rattle.eb_term.specs.Typed.{HasSort}
use Rattle.eb_term.specs.Leaves.{references}
use Rattle.eb_meaning.specs.Meaning.{Slot}
use Rattle.eb_meaning.specs.Fitting.{fits}
use Rattle.eb_resolved.specs.declared.resolved.Resolved.{Resolved}
use Rattle.eb_model.specs.declared.model.LabelledFormula.{LabelledFormula}
use Rattle.eb_model.specs.declared.model.EbModel.{EbModel}
use Rattle.eb_typing.specs.Numbering.{numbered}
use Rattle.eb_typing.specs.Typing as formula
use Rattle.eb_typing.specs.Models.{Typed}
use Rattle.eb_lowering.specs.declared.setting.Setting.{Setting}
use Rattle.eb_lowering.specs.declared.around.Around.{Around}
use Rattle.eb_lowering.specs.Lowering.{lowered, term_of, outermost}
use Rattle.typed_lowering.specs.Settings.{EachKnown, GivesTyped, GivesFitting, AroundFits}
use Rattle.typed_lowering.specs.Models.{Says}
use Rattle.typed_lowering.proofs.Identifiers.{Suits}
use Rattle.typed_lowering.proofs.Lowering.{every_formula}
use Rattle.typed_lowering.proofs.TypedTerms.{typed_judges}
use Rattle.typed_lowering.proofs.FittingTerms.{fitting_judges}
use Rattle.typed_lowering.proofs.References.{referring_judges}
use Rattle.typed_lowering.proofs.ModelFormulas.{says_predicate}

suits_typed : (s : Setting) → GivesTyped s → Suits HasSort s
suits_typed s g = record { judges = typed_judges; ranges = g.ranges; known = g.known }

suits_fitting : (s : Setting) → GivesTyped s → (scope : Scope) (refs : List Slot) → GivesFitting scope refs s → Suits (λ bound e r. fits scope refs e ≡ true) s
suits_fitting s g scope refs k = record { judges = fitting_judges scope refs; ranges = g.ranges; known = λ n t ty e f bound. k n t ty e f }

suits_referring : (s : Setting) → GivesTyped s → (bound : ℕ) → EachKnown s (λ t ty. list_all (λ n. nat_lt n bound) (references t) ≡ true)
    → Suits (λ types e r. list_all (λ n. nat_lt n bound) (references e) ≡ true) s
suits_referring s g bound k = record { judges = referring_judges (λ n. nat_lt n bound); ranges = g.ranges; known = λ n t ty e f types. k n t ty e f }

pub terms_typed : (s : Setting) → GivesTyped s → (r : Resolved) (sort : Sort) → formula.HasSort s.types (numbered r) sort
    → (bound : List EbType) (w : Around) → AroundFits s.types bound w → HasSort bound ((lowered s r).term w) sort
terms_typed s g r sort x = (every_formula HasSort s (suits_typed s g) r).term sort x

pub terms_fit : (s : Setting) → GivesTyped s → (scope : Scope) (refs : List Slot) → GivesFitting scope refs s → (r : Resolved) (sort : Sort) → formula.HasSort s.types (numbered r) sort
    → (bound : List EbType) (w : Around) → AroundFits s.types bound w → fits scope refs ((lowered s r).term w) ≡ true
terms_fit s g scope refs k r sort x = (every_formula (λ bound e r. fits scope refs e ≡ true) s (suits_fitting s g scope refs k) r).term sort x

pub terms_refer : (s : Setting) → GivesTyped s → (bound : ℕ) → EachKnown s (λ t ty. list_all (λ n. nat_lt n bound) (references t) ≡ true) → (r : Resolved) (sort : Sort)
    → formula.HasSort s.types (numbered r) sort → (types : List EbType) (w : Around) → AroundFits s.types types w → list_all (λ n. nat_lt n bound) (references ((lowered s r).term w)) ≡ true
terms_refer s g bound k r sort x = (every_formula (λ types e r. list_all (λ n. nat_lt n bound) (references e) ≡ true) s (suits_referring s g bound k) r).term sort x

outermost_fits : (types : List EbType) → AroundFits types [] outermost
outermost_fits types = record { depth = refl; places = tt }

pub formulas_typed : (m : EbModel) (s : Setting) → Typed m s.types → GivesTyped s → (l : LabelledFormula) → Says m l → HasSort [] (term_of s l.formula) predicate
formulas_typed m s t g l y = terms_typed s g l.formula predicate (says_predicate s.types y t) [] outermost (outermost_fits s.types)

pub formulas_fit : (m : EbModel) (s : Setting) → Typed m s.types → GivesTyped s → (scope : Scope) (refs : List Slot) → GivesFitting scope refs s → (l : LabelledFormula) → Says m l
    → fits scope refs (term_of s l.formula) ≡ true
formulas_fit m s t g scope refs k l y = terms_fit s g scope refs k l.formula predicate (says_predicate s.types y t) [] outermost (outermost_fits s.types)

pub formulas_refer : (m : EbModel) (s : Setting) → Typed m s.types → GivesTyped s → (bound : ℕ) → EachKnown s (λ t ty. list_all (λ n. nat_lt n bound) (references t) ≡ true)
    → (l : LabelledFormula) → Says m l → list_all (λ n. nat_lt n bound) (references (term_of s l.formula)) ≡ true
formulas_refer m s t g bound k l y = terms_refer s g bound k l.formula predicate (says_predicate s.types y t) [] outermost (outermost_fits s.types)
