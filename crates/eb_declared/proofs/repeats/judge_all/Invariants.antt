use Rattle.std.proofs.Common.{map, take}
use Rattle.eb_declared.specs.steps.Written as seen
use Rattle.eb_declared.specs.steps.Keys.{JudgesFront}
use Rattle.eb_declared.proofs.repeats.judge_all.Given as goal

abbrev pub invariant-loop-declaration : goal.invariant-loop-declaration
invariant-loop-declaration l = JudgesFront l.known.keys l.known.parameters (map seen.declaration (take l.declaration-index l.declarations))
