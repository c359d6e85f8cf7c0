-- What is answered to the names of a text whose units have some marks.
use Rattle.std.specs.Prelude.{ℕ, ◌≡◌, Bool, List, [], ◌∷◌, ⊤}
use Rattle.std.specs.List.{AllByRecursion}
use Rattle.std.specs.declared.result.Result.{Result}
use Rattle.std.specs.declared.result.Result.TheVariants.{Ok, Err}
use Rattle.eb_syntax.specs.declared.units.EbUnit.{EbUnit}
use Rattle.eb_lower.specs.declared.fault.NameFault.{NameFault}
use Rattle.eb_lower.specs.declared.fault.NameFault.TheVariants as fault
use Rattle.eb_lower.specs.Unsupported.{unsupported}
use Rattle.eb_declared.specs.Parts.{parts}
use Rattle.eb_declared.specs.Declarations.{declarations, AreDistinct, RepeatsFirst}
use Rattle.eb_lower.specs.Usages.{Usage, usages, IsKnown}
use Rattle.eb_lower.specs.Names.{IsFirstUnknown}

abbrev pub KnowsAll : List EbUnit → List Bool → List Usage → Result (Unit {0}) NameFault → Type 0
KnowsAll us marks found (Ok u) = AllByRecursion (IsKnown us marks) found
KnowsAll us marks found (Err (fault.Unsupported place)) = ⊥
KnowsAll us marks found (Err (fault.DuplicateName name)) = ⊥
KnowsAll us marks found (Err (fault.UnknownName name)) = IsFirstUnknown us marks found name
KnowsAll us marks found (Err fault.Memory) = ⊤

-- the answer to a text whose units have these marks: what isn't supported comes before names that repeat, and these before unknown ones
abbrev pub Answers : List EbUnit → List Bool → Result (Unit {0}) NameFault → Type 0
Answers us marks (Ok u) = (unsupported us ≡ []) × AreDistinct (declarations (parts us marks)) × AllByRecursion (IsKnown us marks) (usages (parts us marks))
Answers us marks (Err (fault.Unsupported place)) = (rest : List ℕ) × (unsupported us ≡ place ∷ rest)
Answers us marks (Err (fault.DuplicateName name)) = (unsupported us ≡ []) × RepeatsFirst (declarations (parts us marks)) name
Answers us marks (Err (fault.UnknownName name)) = (unsupported us ≡ []) × AreDistinct (declarations (parts us marks)) × IsFirstUnknown us marks (usages (parts us marks)) name
Answers us marks (Err fault.Memory) = ⊤
