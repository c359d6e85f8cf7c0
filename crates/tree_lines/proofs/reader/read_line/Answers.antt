use Rattle.std.proofs.Common.{rules, ◌≡◌, ◌∙◌, sym, Some, None}
use Rattle.tree_lines.specs.steps.Reading as step
use Rattle.tree_lines.specs.steps.Seen.{seen}
use Rattle.tree_lines.specs.Lines as lines
use Rattle.tree_lines.proofs.WrittenLaws.{written_is, written_back}
use Rattle.tree_lines.proofs.ReadingLaws.{reading_of}
use Rattle.tree_lines.proofs.reader.read_line.Goals as goal

pub fitted-requires-clause-small : goal.fitted-requires-clause-small
fitted-requires-clause-small c =
    let read : step.written_of c.args.text.now ≡ Some (seen c.in-Some.written) = search rules in
    (written_is c.args.text.now (seen c.in-Some.written) read).1

pub returns-in-Some : goal.returns-in-Some
returns-in-Some c =
    let read : step.written_of c.args.text.now ≡ Some (seen c.in-Some.written) = search rules in
    reading_of (lines.reader c.args.scope.now c.args.nodes.now c.args.names.now) c.args.text.now (seen c.in-Some.written) c.fitted.result
    (written_is c.args.text.now (seen c.in-Some.written) read) c.fitted.ensures

pub returns-in-None : goal.returns-in-None
returns-in-None c =
    let read : step.written_of c.args.text.now ≡ None = search rules in
    λ w h. let same : None ≡ Some w = sym read ∙ written_back c.args.text.now w h in cc
