use Rattle.std.proofs.Common.{◌≡◌, ◌+◌, ◌≤◌, length, filter, drop}
use Rattle.scope_settings.specs.Limits as spec
use Rattle.scope_settings.proofs.judging.event_count.Given as goal

abbrev pub invariant-loop-part : goal.invariant-loop-part
invariant-loop-part l = (length (filter spec.is_other_event l.parts) ≡ l.count + length (filter spec.is_other_event (drop l.part-index l.parts)))
    × (l.count ≤ l.part-index)
