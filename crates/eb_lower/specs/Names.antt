-- Which texts have names that make up a model, and which fault the others have.
use Rattle.std.specs.Prelude.{ℕ, ◌≡◌, ⊤, Bool, List, [], ◌∷◌, ◌++◌}
use Rattle.std.specs.List.{AllByRecursion}
use Rattle.eb_syntax.specs.declared.units.EbUnit.{EbUnit}
use Rattle.eb_scoping.specs.Models.{AreMarked}
use Rattle.eb_lower.specs.declared.fault.NameFault.{NameFault}
use Rattle.eb_lower.specs.declared.fault.NameFault.TheVariants as fault
use Rattle.eb_lower.specs.Unsupported.{unsupported}
use Rattle.eb_declared.specs.Parts.{parts}
use Rattle.eb_declared.specs.Declarations.{declarations, AreDistinct, RepeatsFirst}
use Rattle.eb_lower.specs.Usages.{Usage, usages, use_text, IsKnown}

-- the first of the usages whose name is not known there has this name
pub record IsFirstUnknown (us : List EbUnit) (marks : List Bool) (found : List Usage) (name : List ℕ) : Type 0 where
  pub before : List Usage
  pub unknown : Usage
  pub rest : List Usage
  pub is : found ≡ before ++ unknown ∷ rest
  pub known : AllByRecursion (IsKnown us marks) before
  pub fails : IsKnown us marks unknown → ⊥
  pub named : use_text unknown.use_of ≡ name

-- nothing is unsupported, no declaration repeats an earlier one, and every used name is known
abbrev pub AreNamed : List EbUnit → Type 0
AreNamed us = (marks : List Bool) × AreMarked us us marks × (unsupported us ≡ []) × AreDistinct (declarations (parts us marks)) × AllByRecursion (IsKnown us marks) (usages (parts us marks))

-- what isn't supported comes before names that repeat, and these before unknown ones
abbrev pub IsFaultOf : List EbUnit → NameFault → Type 0
IsFaultOf us (fault.Unsupported place) = (rest : List ℕ) × (unsupported us ≡ place ∷ rest)
IsFaultOf us (fault.DuplicateName name) = (marks : List Bool) × AreMarked us us marks × (unsupported us ≡ []) × RepeatsFirst (declarations (parts us marks)) name
IsFaultOf us (fault.UnknownName name) = (marks : List Bool) × AreMarked us us marks × (unsupported us ≡ []) × AreDistinct (declarations (parts us marks)) × IsFirstUnknown us marks (usages (parts us marks)) name
IsFaultOf us fault.Memory = ⊤
