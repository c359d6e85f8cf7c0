use Rattle.std.proofs.Common.{◌≡◌, ℕ, List, take}
use Rattle.std.specs.BTreeMap.{get_by_text}
use Rattle.numbered_names.specs.Names as spec
use Rattle.numbered_names.proofs.scope.places_of.Given as goal

abbrev pub invariant-loop-entry : goal.invariant-loop-entry
invariant-loop-entry l = (q : List ℕ) → get_by_text l.places q ≡ spec.oldest q (take l.entry-index l.entries)
