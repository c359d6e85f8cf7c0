use Rattle.std.proofs.Common.{◌≡◌, ◌++◌, map, drop}
use Rattle.tree_form.specs.Lines.{line_text}
use Rattle.tree_checker.specs.Texts.{joined}
use Rattle.cbc_answers.proofs.answer.push_lines.Given as goal

abbrev pub invariant-loop-line : goal.invariant-loop-line
invariant-loop-line l = l.text.items ++ joined (map line_text (drop l.line-index l.lines)) ≡ l.fn.text.items ++ joined (map line_text l.lines)
