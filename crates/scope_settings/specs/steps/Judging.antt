-- The limits by the settings.
use Rattle.std.specs.Prelude.{◌≡◌, Bool, false, List, [], ◌∷◌, Option}
use Rattle.std.specs.List.{list_any}
use Rattle.eb_syntax.specs.declared.units.ScopeSetting.{ScopeSetting}
use Rattle.eb_model.specs.declared.model.EbModel.{EbModel}
use Rattle.eb_forms.specs.Widths.{wide_in_model}
use Rattle.scope_settings.specs.declared.limit.Limit.{Limit}
use Rattle.scope_settings.specs.declared.limit.Limit.TheVariants as limit
use Rattle.scope_settings.specs.Scopes.{integers, depth}
use Rattle.scope_settings.specs.Limits.{passes_int, passes_size, passes_depth, passes_events, first_passed}

-- the limits of the model
abbrev pub model_limits : EbModel → List (Bool × Limit)
model_limits m =
    (passes_events m, limit.Events)
    ∷ ((wide_in_model m).binder, limit.Binder)
    ∷ ((wide_in_model m).partition, limit.Partition) ∷ []

-- the first limit of the model that is passed
abbrev pub passed_by_model : EbModel → Option Limit
passed_by_model m = first_passed (model_limits m)

-- the first limit that is passed
abbrev pub passed_by : List ScopeSetting → EbModel → Option Limit
passed_by ss m = first_passed (
    (passes_int (integers ss), limit.Int)
    ∷ (list_any passes_size ss, limit.Size)
    ∷ (passes_depth (depth ss), limit.Depth) ∷ model_limits m)

-- the settings pass no limit
pub record ArePassingNone (ss : List ScopeSetting) : Type 0 where
  pub ints : passes_int (integers ss) ≡ false
  pub sizes : list_any passes_size ss ≡ false
  pub sequences : passes_depth (depth ss) ≡ false
