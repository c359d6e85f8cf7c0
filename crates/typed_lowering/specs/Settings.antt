-- What makes lowered terms typed: typed terms of what is declared, and binders whose values have the types of their identifiers.
use Rattle.std.specs.Prelude.{◌≡◌, ℕ, true, List, length, Some, slice_get}
use Rattle.std.specs.List.{AllByRecursion}
use Rattle.type_table.specs.Rows.{expression}
use Rattle.eb_value.specs.declared.types.EbType.{EbType}
use Rattle.eb_value.specs.declared.scope.Scope.{Scope}
use Rattle.eb_term.specs.declared.term.Term.{Term}
use Rattle.eb_term.specs.Typed.{HasSort, part_type_at}
use Rattle.eb_meaning.specs.Meaning.{Slot}
use Rattle.eb_meaning.specs.Fitting.{fits}
use Rattle.eb_lowering.specs.declared.setting.Setting.{Setting}
use Rattle.eb_lowering.specs.declared.setting.Ranges.TheVariants as ranges
use Rattle.eb_lowering.specs.declared.around.Around.{Around}
use Rattle.eb_lowering.specs.declared.around.Place.{Place}

-- this holds of the term of each declared identifier and the identifier's type
abbrev pub EachKnown : Setting → (Term → EbType → Type 0) → Type 0
EachKnown s P = (k : ℕ) (t : Term) (ty : EbType) → slice_get s.known k ≡ Some (Some t) → slice_get s.types k ≡ Some ty → P t ty

-- Ranges are of the identifiers' types, and what is declared has a term of its type, under any binders.
pub record GivesTyped (s : Setting) : Type 0 where
  pub ranges : s.ranges ≡ ranges.Typed
  pub known : EachKnown s (λ t ty. (bound : List EbType) → HasSort bound t (expression ty))

-- the literals and references of what is declared fit
abbrev pub GivesFitting : Scope → List Slot → Setting → Type 0
GivesFitting scope refs s = EachKnown s (λ t ty. fits scope refs t ≡ true)

-- the identifier is the value of a binder, or a part of it, that has the identifier's type
abbrev pub PlaceFits : List EbType → List EbType → Place → Type 0
PlaceFits types bound p = (ty : EbType) → slice_get types p.number ≡ Some ty → (whole : EbType) × (slice_get bound p.binder ≡ Some whole) × (part_type_at p.path whole ≡ Some ty)

-- The values of the binders around have these types, the outermost first, and so their identifiers have theirs.
pub record AroundFits (types : List EbType) (bound : List EbType) (w : Around) : Type 0 where
  pub depth : length bound ≡ w.depth
  pub places : AllByRecursion (PlaceFits types bound) w.bound
