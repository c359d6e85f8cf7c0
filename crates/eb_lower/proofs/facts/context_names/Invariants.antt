use Rattle.std.proofs.Common.{◌≡◌, ℕ, List, take}
use Rattle.eb_scoping.specs.FreeNames.{is_among}
use Rattle.eb_lower.specs.steps.Facts as facts
use Rattle.eb_scoping.specs.Sets.{has_text}
use Rattle.eb_lower.proofs.facts.context_names.Given as goal

abbrev pub invariant-loop-unit : goal.invariant-loop-unit
invariant-loop-unit l = (q : List ℕ) → has_text l.set q ≡ is_among (facts.context_names (take l.unit-index l.units)) q
