use Rattle.std.proofs.Common.{rules, ◌≡◌, sym, Some}
use Rattle.tree_form.specs.steps.Reading as spec
use Rattle.tree_form.proofs.LineLaws.{word_read}
use Rattle.tree_form.proofs.reader.read.Goals as goal

pub returns-in-Some : goal.returns-in-Some
returns-in-Some c =
    let read : spec.word_of c.args.text.now ≡ Some c.in-Some.line = search rules in
    sym (word_read c.args.problem.now c.args.text.now c.in-Some.line read)
