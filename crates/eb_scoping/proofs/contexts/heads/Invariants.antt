use Rattle.eb_scoping.specs.steps.Heads.{AreHeads, seen_heads}
use Rattle.eb_scoping.proofs.contexts.heads.Given as goal

abbrev pub invariant-loop-i : goal.invariant-loop-i
invariant-loop-i l = AreHeads l.units l.i (seen_heads l.heads.items)
