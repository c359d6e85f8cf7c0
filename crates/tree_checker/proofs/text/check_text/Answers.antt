use Rattle.std.proofs.Common.{rules, ◌∙◌, sym, subst}
use Rattle.occ_store.specs.Stores.{IsFirst}
use Rattle.tree_checker.specs.Texts as texts
use Rattle.tree_checker.specs.steps.Machine as spec
use Rattle.tree_checker.proofs.Sound.{no_solution}
use Rattle.tree_checker.proofs.OneVerdict.{verdict_is, verdict_only}
use Rattle.tree_checker.proofs.text.check_text.Goals as goal

pub returns-clause-exact : goal.returns-clause-exact
returns-clause-exact c =
    let is_first : IsFirst c.args.scope.now c.args.problem.now.choices c.in_ok-first.first = search rules in
    let law = c.lines_are_read_back.ensures in
    let reader : spec.Reader c.args.problem.now = record {
      read = λ text. (law.some c.args.problem.now text).0;
      is = λ text. (law.some c.args.problem.now text).1;
      only = λ text reading h. law.one c.args.problem.now text (law.some c.args.problem.now text).0 reading (law.some c.args.problem.now text).1 h;
      line = law.line;
    } in
    subst (texts.IsVerdict c.args.scope.now c.args.problem.now c.args.text.now) (sym (c.in_ok-verdict.ensures reader))
    (verdict_is c.first_stores_have_the_valuations.ensures.exact c.args.scope.now c.args.problem.now reader c.args.text.now c.in_ok-first.first c.requires.scope c.requires.integers is_first)

pub returns-clause-sound : goal.returns-clause-sound
returns-clause-sound c = λ accepted values solution.
    no_solution c.args.scope.now c.args.problem.now c.args.text.now
    (subst (texts.IsVerdict c.args.scope.now c.args.problem.now c.args.text.now) accepted (returns-clause-exact c)) values solution

pub returns-clause-only : goal.returns-clause-only
returns-clause-only c = λ other is.
    let is_first : IsFirst c.args.scope.now c.args.problem.now.choices c.in_ok-first.first = search rules in
    let law = c.lines_are_read_back.ensures in
    let reader : spec.Reader c.args.problem.now = record {
      read = λ text. (law.some c.args.problem.now text).0;
      is = λ text. (law.some c.args.problem.now text).1;
      only = λ text reading h. law.one c.args.problem.now text (law.some c.args.problem.now text).0 reading (law.some c.args.problem.now text).1 h;
      line = law.line;
    } in
    c.in_ok-verdict.ensures reader
    ∙ verdict_only c.first_stores_have_the_valuations.ensures.exact c.args.scope.now c.args.problem.now reader c.args.text.now c.in_ok-first.first other c.requires.scope c.requires.integers is_first is
