-- Terms whose literals and references have the types that they say.
use Rattle.std.specs.Prelude.{Bool, true, ◌&&◌, List, Some, None}
use Rattle.std.specs.List.{list_all}
use Rattle.eb_value.specs.declared.scope.Scope.{Scope}
use Rattle.eb_value.specs.declared.types.EbType.{EbType}
use Rattle.eb_value.specs.Typing.{has_type}
use Rattle.eb_term.specs.declared.term.Term.{Term}
use Rattle.eb_term.specs.declared.term.Head.{Head-F}
use Rattle.eb_term.specs.declared.term.Head.TheOpen as head
use Rattle.eb_term.specs.Terms.{by_parts}
use Rattle.eb_meaning.specs.Meaning.{Slot, slot_at}
pub use Rattle.eb_value.specs.Typing.{AreOfTypes}

-- Undefined, or a value of the type
abbrev pub slot_has_type : Scope → Slot → EbType → Bool
slot_has_type scope None ty = true
slot_has_type scope (Some v) ty = has_type scope v ty

-- the value of each literal has its type, and what each reference stands for is Undefined or has the type of the reference
abbrev pub fits_step : Scope → List Slot → Head-F Bool Bool → Bool
fits_step scope refs (head.Literal v ty) = has_type scope v ty
fits_step scope refs (head.Reference place ty) = slot_has_type scope (slot_at refs place) ty
fits_step scope refs (head.Unary o a) = a
fits_step scope refs (head.Binary o a b) = a && b
fits_step scope refs (head.Many o es) = list_all (λ e. e) es
fits_step scope refs (head.Over o range body) = range && body
fits_step scope refs (head.All o ty body) = body
fits_step scope refs (head.Truth b) = true
fits_step scope refs (head.Variable k path ty) = true
fits_step scope refs (head.Infinite i) = true
fits_step scope refs (head.Identity ty) = true
fits_step scope refs (head.Projection s a b) = true

-- each literal and each reference of the term fits
abbrev pub fits : Scope → List Slot → Term → Bool
fits scope refs = by_parts Bool (fits_step scope refs)
