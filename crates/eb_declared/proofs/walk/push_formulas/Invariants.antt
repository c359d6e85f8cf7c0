use Rattle.std.proofs.Common.{◌≡◌, ◌++◌, map, take}
use Rattle.std.specs.Prelude.{[]}
use Rattle.eb_declared.specs.Parts as spec
use Rattle.eb_declared.specs.Seen as seen
use Rattle.eb_declared.proofs.walk.push_formulas.Given as goal

abbrev pub invariant-loop-formula : goal.invariant-loop-formula
invariant-loop-formula l = map seen.part l.out.items ≡ map seen.part l.initial.out.items ++ map (spec.formula (spec.in_event l.event [])) (take l.formula-index l.formulas)
