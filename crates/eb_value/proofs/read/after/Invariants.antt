use Rattle.std.proofs.Common.{◌≡◌, drop}
use Rattle.eb_value.specs.steps.Reading as spec
use Rattle.eb_value.proofs.read.after.Given as goal

abbrev pub invariant-loop-byte : goal.invariant-loop-byte
invariant-loop-byte l = spec.after (drop l.byte-index l.front) l.rest ≡ spec.after l.front l.text
