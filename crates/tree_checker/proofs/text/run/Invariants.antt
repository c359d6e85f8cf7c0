use Rattle.std.proofs.Common.{◌≡◌, ◌≤◌, ◌+◌, length}
use Rattle.tree_checker.specs.steps.Checking as checking
use Rattle.tree_checker.specs.Texts.{task_of}
use Rattle.tree_checker.specs.steps.Machine as spec
use Rattle.tree_checker.proofs.text.run.Given as goal

abbrev pub invariant-loop-line : goal.invariant-loop-line
invariant-loop-line l = record {
  few_lines : l.number + length l.rest ≤ length l.text + 1;
  few_opens : l.checker.opens + 1 ≤ l.number;
  verdict : (reader : spec.Reader l.problem) → spec.text_verdict reader.read l.scope l.problem l.first l.text ≡ spec.text_rest reader.read (task_of l.scope l.problem l.first) l.number (checking.state_of l.checker) l.rest;
}

abbrev pub decreases-loop-line : goal.decreases-loop-line
decreases-loop-line l = length l.rest
