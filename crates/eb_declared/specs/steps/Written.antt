-- What the declarations in memory stand for.
use Rattle.std.specs.List.{flat_map}
use Rattle.eb_declared.specs.declared.declarations.Declaration.{Declaration as DeclarationAt}
use Rattle.eb_declared.specs.declared.declarations.Declaration.TheVariants as found
use Rattle.eb_scoping.specs.FreeNames.{names_of, mark_names}
use Rattle.eb_declared.specs.Declarations.{Declaration, declared, binds}
use Rattle.eb_declared.specs.Seen.{space}

abbrev pub declaration : DeclarationAt → Declaration
declaration (found.Name s x) = declared (space s) x.now
declaration (found.Identifiers xs) = binds (names_of xs.now)
declaration (found.Pattern ms) = binds (flat_map mark_names ms.now)
