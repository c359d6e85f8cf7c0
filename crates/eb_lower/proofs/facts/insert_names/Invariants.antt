use Rattle.std.proofs.Common.{◌≡◌, ◌||◌, ℕ, List, take}
use Rattle.eb_scoping.specs.FreeNames.{names_of, is_among}
use Rattle.eb_scoping.specs.Sets.{has_text}
use Rattle.eb_lower.proofs.facts.insert_names.Given as goal

abbrev pub invariant-loop-name : goal.invariant-loop-name
invariant-loop-name l = (q : List ℕ) → has_text l.set q ≡ (is_among (names_of (take l.name-index l.names)) q || has_text l.initial.set q)
