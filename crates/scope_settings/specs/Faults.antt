-- Why a text has no scope.
use Rattle.std.specs.Prelude.{◌≡◌, ⊤, List, Some}
use Rattle.eb_syntax.specs.declared.units.EbUnit.{EbUnit}
use Rattle.eb_model.specs.declared.model.EbModel.{EbModel}
use Rattle.scope_settings.specs.declared.fault.ScopeFault.{ScopeFault}
use Rattle.scope_settings.specs.declared.fault.ScopeFault.TheVariants as fault
use Rattle.scope_settings.specs.Limits.{passed}

-- a limit is passed, and it is the first
abbrev pub IsFaultOf : List EbUnit → EbModel → ScopeFault → Type 0
IsFaultOf us m (fault.Limit l) = passed us m ≡ Some l
IsFaultOf us m fault.Memory = ⊤
