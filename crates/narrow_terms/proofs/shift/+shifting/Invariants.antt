use Rattle.std.proofs.Common.{◌≡◌, map, take}
use Rattle.narrow_terms.specs.Shifting.{shift}
use Rattle.narrow_terms.proofs.shift.+shifting.Given as goal

abbrev pub invariant-all_shifted-loop-term : goal.invariant-all_shifted-loop-term
invariant-all_shifted-loop-term l = l.all ≡ map (shift l.from l.by) (take l.term-index l.terms)
