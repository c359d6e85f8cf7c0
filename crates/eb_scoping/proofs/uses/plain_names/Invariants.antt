use Rattle.std.proofs.Common.{◌≡◌, map, take}
use Rattle.eb_scoping.specs.FreeNames.{seen}
use Rattle.eb_scoping.specs.steps.FreeByParts.{plain_names}
use Rattle.eb_scoping.proofs.uses.plain_names.Given as goal

abbrev pub invariant-loop-used : goal.invariant-loop-used
invariant-loop-used l = map (λ x. x.now) l.names.items ≡ plain_names (map seen (take l.used-index l.uses))
