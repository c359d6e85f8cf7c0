-- Why a query has no problem.
use Rattle.std.specs.Prelude.{◌≡◌, ⊤, List, Some}
use Rattle.eb_value.specs.declared.scope.Scope.{Scope}
use Rattle.eb_value.specs.declared.types.EbType.{EbType}
use Rattle.eb_model.specs.declared.model.EbModel.{EbModel}
use Rattle.cbc_query.specs.declared.fault.QueryFault.{QueryFault}
use Rattle.cbc_query.specs.declared.fault.QueryFault.TheVariants as fault
use Rattle.cbc_query.specs.Limits.{axioms_passed}

-- a limit is passed, and it is the first
abbrev pub IsFaultOf : Scope → EbModel → List EbType → QueryFault → Type 0
IsFaultOf scope m types (fault.Limit l) = axioms_passed scope m types ≡ Some l
IsFaultOf scope m types fault.Memory = ⊤
