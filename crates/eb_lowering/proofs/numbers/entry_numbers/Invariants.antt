use Rattle.std.proofs.Common.{◌≡◌, take}
use Rattle.eb_lowering.specs.Lowering as spec
use Rattle.eb_lowering.proofs.numbers.entry_numbers.Given as goal

abbrev pub invariant-loop-entry : goal.invariant-loop-entry
invariant-loop-entry l = l.numbers ≡ spec.entry_numbers (take l.entry-index l.entries)
