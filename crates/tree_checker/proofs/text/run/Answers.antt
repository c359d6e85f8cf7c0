use Rattle.std.proofs.Common.{rules, ◌≡◌, ◌<◌, length, ◌+◌, Some, None, sym, ◌∙◌, ap, arith, not}
use Rattle.tree_form.specs.Lines.{IsReading}
use Rattle.tree_checker.specs.steps.Checking as checking
use Rattle.tree_checker.specs.Trees.{facts_of}
use Rattle.tree_checker.specs.Texts.{task_of}
use Rattle.tree_checker.specs.Verdicts.{fault}
use Rattle.tree_checker.specs.steps.Machine as spec
use Rattle.tree_checker.proofs.Cuts.{step_text, stop_text, end_text, shorter, some_rest}
use Rattle.tree_checker.proofs.text.run.Goals as goal

pub returns-in-Some-2 : goal.returns-in-Some-2
returns-in-Some-2 c = λ reader.
    let cut : spec.first_line c.loop-line.rest.now ≡ Some (c.in-Some.line.now, c.in-Some.more.now) = search rules in
    let read : IsReading c.args.problem.now c.in-Some.line.now c.read_line.result = search rules in
    let same = reader.only c.in-Some.line.now c.read_line.result read in
    let fails : fault (facts_of c.args.scope.now c.args.problem.now) (checking.state_of c.loop-line.checker) c.read_line.result ≡ Some c.in-Some-2.cause = search rules in
    let is = ap (fault (facts_of c.args.scope.now c.args.problem.now) (checking.state_of c.loop-line.checker)) same ∙ fails in
    sym (c.loop-line.invariant.verdict reader ∙ stop_text reader.read (task_of c.args.scope.now c.args.problem.now c.args.first.now) c.loop-line.number (checking.state_of c.loop-line.checker) c.loop-line.rest.now c.in-Some.line.now c.in-Some.more.now c.in-Some-2.cause cut is)

pub returns : goal.returns
returns c = λ reader.
    let cut : spec.first_line c.loop-line.rest.now ≡ None = search rules in
    let rest : not c.is_empty.result ≡ spec.is_some_byte c.loop-line.rest.now = ap not c.is_empty.ensures ∙ some_rest c.loop-line.rest.now in
    c.finish.ensures ∙ ap (spec.at_end (checking.state_of c.loop-line.checker) c.loop-line.number) rest
    ∙ sym (c.loop-line.invariant.verdict reader ∙ end_text reader.read (task_of c.args.scope.now c.args.problem.now c.args.first.now) c.loop-line.number (checking.state_of c.loop-line.checker) c.loop-line.rest.now cut)

pub loop-line-preserved : goal.loop-line-preserved
loop-line-preserved c =
    let cut : spec.first_line c.loop-line.rest.now ≡ Some (c.in-Some.line.now, c.in-Some.more.now) = search rules in
    let read : IsReading c.args.problem.now c.in-Some.line.now c.read_line.result = search rules in
    let passes : fault (facts_of c.args.scope.now c.args.problem.now) (checking.state_of c.loop-line.checker) c.read_line.result ≡ None = search rules in
    let next : checking.state_of c.feed.new.self ≡ spec.next_place (task_of c.args.scope.now c.args.problem.now c.args.first.now) (checking.state_of c.loop-line.checker) c.read_line.result = search rules in
    let less = shorter c.loop-line.rest.now c.in-Some.line.now c.in-Some.more.now cut in
    record {
      few_lines = omega arith;
      few_opens = omega arith;
      verdict = λ reader.
          let same = reader.only c.in-Some.line.now c.read_line.result read in
          let none = ap (fault (facts_of c.args.scope.now c.args.problem.now) (checking.state_of c.loop-line.checker)) same ∙ passes in
          let place = next ∙ ap (spec.next_place (task_of c.args.scope.now c.args.problem.now c.args.first.now) (checking.state_of c.loop-line.checker)) (sym same) in
          c.loop-line.invariant.verdict reader
          ∙ step_text reader.read (task_of c.args.scope.now c.args.problem.now c.args.first.now) c.loop-line.number (checking.state_of c.loop-line.checker) c.loop-line.rest.now c.in-Some.line.now c.in-Some.more.now cut none
          ∙ ap (λ at. spec.text_rest reader.read (task_of c.args.scope.now c.args.problem.now c.args.first.now) (c.loop-line.number + 1) at c.in-Some.more.now) (sym place);
    }

pub loop-line-smaller : goal.loop-line-smaller
loop-line-smaller c =
    let cut : spec.first_line c.loop-line.rest.now ≡ Some (c.in-Some.line.now, c.in-Some.more.now) = search rules in
    let less = shorter c.loop-line.rest.now c.in-Some.line.now c.in-Some.more.now cut in
    let small : length c.in-Some.more.now < length c.loop-line.rest.now = omega arith in
    small
