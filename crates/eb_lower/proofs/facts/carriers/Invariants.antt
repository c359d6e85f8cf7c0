use Rattle.std.proofs.Common.{◌≡◌, ℕ, List, take}
use Rattle.eb_scoping.specs.FreeNames.{is_among}
use Rattle.eb_lower.specs.steps.Facts as facts
use Rattle.eb_scoping.specs.Sets.{has_text}
use Rattle.eb_lower.proofs.facts.carriers.Given as goal

abbrev pub invariant-loop-i : goal.invariant-loop-i
invariant-loop-i l = (q : List ℕ) → has_text l.set q ≡ is_among (facts.all_carriers (take l.i l.units) (take l.i l.marks)) q
