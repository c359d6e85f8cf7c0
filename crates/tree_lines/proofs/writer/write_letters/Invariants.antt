use Rattle.std.proofs.Common.{◌≡◌, ◌++◌, drop}
use Rattle.tree_lines.specs.Words as spec
use Rattle.tree_lines.proofs.writer.write_letters.Given as goal

abbrev pub invariant-loop-side : goal.invariant-loop-side
invariant-loop-side l = l.text.items ++ spec.letters (drop l.side-index l.path) ≡ l.fn.text.items ++ spec.letters l.path
