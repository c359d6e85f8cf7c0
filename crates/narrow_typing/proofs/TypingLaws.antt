-- The laws of narrow terms that are typed.
use Rattle.std.proofs.Common.{◌≡◌, ◌∙◌, true, List, length, Some, None}
use Rattle.eb_value.specs.declared.scope.Scope.{Scope}
use Rattle.eb_value.specs.declared.types.EbType.{EbType}
use Rattle.type_table.specs.Rows.{Sort, predicate, expression}
use Rattle.eb_term.specs.declared.term.Term.{Term}
use Rattle.eb_term.specs.Typed.{HasSort}
use Rattle.eb_meaning.specs.Meaning.{Slot}
use Rattle.eb_meaning.specs.Fitting.{fits}
use Rattle.term_types.specs.Types.{type_of, type_in}
use Rattle.eb_narrow.specs.Narrow.{narrowed}
use Rattle.narrow_typing.proofs.NarrowTerms.{narrowed_typed}
use Rattle.narrow_typing.proofs.Instances.{Any, typed_judges, typed_leaves, fitting_judges, fitting_leaves}

-- narrow form goes by the types of the typing
abbrev pub GoesBy : Type 0
GoesBy = (types : List EbType) (t : Term) (s : Sort) → HasSort types t s → (narrowed t).ty ≡ type_in s

pub goes_by : ((types : List EbType) (t : Term) (ty : EbType) → HasSort types t (expression ty) → type_of t ≡ Some ty)
    → ((types : List EbType) (t : Term) → HasSort types t predicate → type_of t ≡ None) → ((t : Term) → (narrowed t).ty ≡ type_of t) → GoesBy
goes_by value truth same types t predicate d = same t ∙ truth types t d
goes_by value truth same types t (expression ty) d = same t ∙ value types t ty d

pub narrow_typed : GoesBy → (types : List EbType) (t : Term) (s : Sort) → HasSort types t s → HasSort types ((narrowed t).term (length types)) s
narrow_typed h types t s d = (narrowed_typed HasSort typed_judges Any typed_leaves h d tt).term

pub narrow_fits : GoesBy → (scope : Scope) (refs : List Slot) (types : List EbType) (t : Term) (s : Sort) → HasSort types t s → fits scope refs t ≡ true
    → fits scope refs ((narrowed t).term (length types)) ≡ true
narrow_fits h scope refs types t s d f =
    (narrowed_typed (λ bound e r. fits scope refs e ≡ true) (fitting_judges scope refs) (λ e. fits scope refs e ≡ true) (fitting_leaves scope refs) h d f).term
