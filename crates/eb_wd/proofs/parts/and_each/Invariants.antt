use Rattle.std.proofs.Common.{◌≡◌, map, take}
use Rattle.eb_wd.specs.WellDefined as spec
use Rattle.eb_wd.proofs.parts.and_each.Given as goal

abbrev pub invariant-loop-term : goal.invariant-loop-term
invariant-loop-term l = l.all ≡ spec.and_on l.initial.all (map spec.is_defined (take l.term-index l.terms))
