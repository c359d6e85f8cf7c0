use Rattle.std.proofs.Common.{◌≡◌, ◌++◌, map, take}
use Rattle.eb_scoping.specs.FreeNames.{seen}
use Rattle.eb_scoping.specs.steps.FreeByParts.{unbound}
use Rattle.eb_scoping.proofs.uses.push_unbound.Given as goal

abbrev pub invariant-loop-used : goal.invariant-loop-used
invariant-loop-used l = map seen l.out.items ≡ map seen l.initial.out.items ++ unbound (map (λ x. x.now) l.names) (map seen (take l.used-index l.uses))
