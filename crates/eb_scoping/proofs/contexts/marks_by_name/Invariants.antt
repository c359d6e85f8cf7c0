use Rattle.std.proofs.Common.{◌≡◌, map, take}
use Rattle.eb_scoping.specs.steps.Marks.{is_named_in}
use Rattle.eb_scoping.proofs.contexts.marks_by_name.Given as goal

abbrev pub invariant-loop-unit : goal.invariant-loop-unit
invariant-loop-unit l = l.marks.items ≡ map (is_named_in l.names) (take l.unit-index l.units)
