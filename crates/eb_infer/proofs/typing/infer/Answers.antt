use Rattle.std.proofs.Common.{rules, subst}
use Rattle.type_equations.specs.Equations.{IsOnlySolution, HaveNone, HaveSeveral}
use Rattle.eb_infer.proofs.TypingLaws.{only_typing, no_typing, several_typings}
use Rattle.eb_infer.proofs.typing.infer.Goals as goal

pub returns-in-Ok-clause-typed : goal.returns-in-Ok-clause-typed
returns-in-Ok-clause-typed c =
    let p = c.in_ok-problem.problem in
    let s : IsOnlySolution p.asked p.equations c.in-Ok.typing = search rules in
    only_typing c.args.model.now p.asked p.equations c.in-Ok.typing c.in_ok-problem.ensures.equated s

pub returns-in-Err-Clash-clause-cause : goal.returns-in-Err-Clash-clause-cause
returns-in-Err-Clash-clause-cause c =
    let p = c.in_ok-problem.problem in
    let o = rw c.in-Err-Clash.field-0-is at c.in-Err-Clash.ensures.solution in
    let s : HaveNone p.equations = subst HaveNone c.as_slice-equations.ensures o in
    no_typing c.args.model.now p.asked p.equations c.in_ok-problem.ensures.equated s

pub returns-in-Err-Open-clause-cause : goal.returns-in-Err-Open-clause-cause
returns-in-Err-Open-clause-cause c =
    let p = c.in_ok-problem.problem in
    let s : HaveSeveral p.asked p.equations = search rules in
    several_typings c.args.model.now p.asked p.equations c.in_ok-problem.ensures.equated s
