use Rattle.std.proofs.Common.{◌≡◌, take, filter}
use Rattle.occ_domains.specs.Tests.{is_alike}
use Rattle.occ_domains.proofs.tests.alike.Given as goal

abbrev pub invariant-loop-other : goal.invariant-loop-other
invariant-loop-other l = l.kept ≡ filter (is_alike l.keep l.value) (take l.other-index l.values)
