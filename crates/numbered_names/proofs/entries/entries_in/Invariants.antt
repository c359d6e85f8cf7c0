use Rattle.std.proofs.Common.{◌≡◌, take}
use Rattle.numbered_names.specs.steps.Layers.{entries_of}
use Rattle.numbered_names.proofs.entries.entries_in.Given as goal

abbrev pub invariant-loop-layer : goal.invariant-loop-layer
invariant-loop-layer l = l.entries ≡ entries_of (take l.layer-index l.layers)
