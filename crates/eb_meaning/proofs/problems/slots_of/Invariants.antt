use Rattle.std.proofs.Common.{◌≡◌, drop}
use Rattle.eb_meaning.specs.Problems as spec
use Rattle.eb_meaning.specs.Slots.{AreCanonicalSlots}
use Rattle.eb_meaning.proofs.problems.slots_of.Given as goal

abbrev pub invariant-loop-definition : goal.invariant-loop-definition
invariant-loop-definition l = (spec.slots_of l.scope l.definitions l.values ≡ spec.with_definitions l.scope l.slots (drop l.definition-index l.definitions))
    × AreCanonicalSlots l.slots
