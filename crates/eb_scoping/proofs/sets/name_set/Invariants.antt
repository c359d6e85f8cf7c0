use Rattle.std.proofs.Common.{◌≡◌, ℕ, List, map, take}
use Rattle.eb_scoping.specs.FreeNames.{is_among}
use Rattle.eb_scoping.specs.Sets.{has_text}
use Rattle.eb_scoping.proofs.sets.name_set.Given as goal

abbrev pub invariant-loop-name : goal.invariant-loop-name
invariant-loop-name l = (q : List ℕ) → has_text l.set q ≡ is_among (map (λ x. x.now) (take l.name-index l.names)) q
