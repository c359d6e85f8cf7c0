-- What usages in memory stand for.
use Rattle.eb_syntax.specs.declared.units.EbUnit.{EbUnit}
use Rattle.eb_scoping.specs.FreeNames.{seen}
use Rattle.eb_declared.specs.Seen.{position}
use Rattle.eb_lower.specs.declared.usages.Usage.{Usage as UsageAt}
use Rattle.eb_lower.specs.Usages.{Usage}
use Rattle.eb_lower.specs.Usages as spec

abbrev pub Unit : Type 0
Unit = EbUnit

abbrev pub usage : UsageAt → Usage
usage u = spec.usage (position u.position) (seen u.used)
