-- The limits of a scope and of a model's formulas, each by itself of any query.
use Rattle.std.specs.Prelude.{ℤ, pos, negsuc, int_le, nat_lt, Bool, false, not, ◌&&◌, if◌then◌else◌, List, [], ◌∷◌, length, filter, codes, Option, Some, None}
use Rattle.std.specs.List.{list_any}
use Rattle.std.specs.Str.{bytes_eq}
use Rattle.eb_syntax.specs.declared.units.ScopeSetting.{ScopeSetting}
use Rattle.eb_syntax.specs.declared.units.ScopeSetting.TheVariants as setting
use Rattle.eb_syntax.specs.declared.units.EbUnit.{EbUnit}
use Rattle.eb_model.specs.declared.model.EbModel.{EbModel}
use Rattle.eb_model.specs.declared.model.ModelPart.{ModelPart}
use Rattle.eb_model.specs.declared.model.ModelPart.TheVariants as part
use Rattle.eb_forms.specs.Widths.{wide_in_model}
use Rattle.scope_settings.specs.declared.limit.Limit.{Limit}
use Rattle.scope_settings.specs.declared.limit.Limit.TheVariants as limit
use Rattle.scope_settings.specs.Scopes.{settings, integers, depth}

-- the number lies between these
abbrev pub lies_within : ℤ → ℤ → ℤ → Bool
lies_within lo hi n = int_le lo n && int_le n hi

-- the integers lie in -32768..32767, and there is one
abbrev pub passes_int : ℤ × ℤ → Bool
passes_int b = not (lies_within (negsuc 32767) (pos 32767) b.0 && lies_within (negsuc 32767) (pos 32767) b.1 && int_le b.0 b.1)

-- a carrier set has 1..16 atoms
abbrev pub passes_size : ScopeSetting → Bool
passes_size (setting.Integers place lo hi) = false
passes_size (setting.Size x n) = not (lies_within (pos 1) (pos 16) n)
passes_size (setting.Depth place n) = false

-- the depth is 0..8
abbrev pub passes_depth : ℤ → Bool
passes_depth n = not (lies_within (pos 0) (pos 8) n)

abbrev pub is_other_event : ModelPart → Bool
is_other_event (part.Carrier s x) = false
is_other_event (part.Constant x) = false
is_other_event (part.Variable x) = false
is_other_event (part.Axiom l) = false
is_other_event (part.Invariant l) = false
is_other_event (part.Event e) = not (bytes_eq e.name (codes "INITIALISATION"))

-- there are at most 200 events besides INITIALISATION
abbrev pub passes_events : EbModel → Bool
passes_events m = nat_lt 200 (length (filter is_other_event m.parts))

-- the first limit that is passed
abbrev pub first_passed : List (Bool × Limit) → Option Limit
first_passed [] = None
first_passed (l ∷ ls) = if l.0 then Some l.1 else first_passed ls

-- The first limit that the scope of these units or their model passes: binders have at most 8 identifiers, and a partition has at
-- most 64 sets behind its first one.
abbrev pub passed : List EbUnit → EbModel → Option Limit
passed us m = first_passed (
    (passes_int (integers (settings us)), limit.Int)
    ∷ (list_any passes_size (settings us), limit.Size)
    ∷ (passes_depth (depth (settings us)), limit.Depth)
    ∷ (passes_events m, limit.Events)
    ∷ ((wide_in_model m).binder, limit.Binder)
    ∷ ((wide_in_model m).partition, limit.Partition) ∷ [])
