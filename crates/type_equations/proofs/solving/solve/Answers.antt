use Rattle.std.proofs.Common.{rules, arith, length, subst, sym}
use Rattle.type_equations.specs.Equations.{HaveNone, HaveSeveral, IsOnlySolution}
use Rattle.type_equations.specs.Faults.{OnFault}
use Rattle.type_equations.specs.steps.Merging.{Says}
use Rattle.type_equations.specs.steps.Settling.{AreFixed, Circular}
use Rattle.type_equations.proofs.Faulting.{refused}
use Rattle.type_equations.proofs.SolutionLaws.{says_same, only_solution, several_solutions, circular_none}
use Rattle.type_equations.proofs.DepthLaws.{is_solution}
use Rattle.type_equations.proofs.solving.solve.Goals as goal

pub returns-in_err-marks-clause-solution : goal.returns-in_err-marks-clause-solution
returns-in_err-marks-clause-solution c =
    let says : Says (length c.in_ok-store.store) c.args.equations.now c.shorten_all.new.store = says_same (length c.in_ok-store.store) c.args.equations.now c.add_all.new.store c.shorten_all.new.store c.in_ok-add_all.ensures c.shorten_all.ensures in
    let told : OnFault c.in_err-marks.field-0.0 (HaveNone c.args.equations.now) (HaveSeveral c.args.asked c.args.equations.now) =
    refused c.in_err-marks.field-0.0 (Circular c.shorten_all.new.store) (HaveNone c.args.equations.now) (HaveSeveral c.args.asked c.args.equations.now)
    (circular_none (length c.in_ok-store.store) c.args.equations.now c.shorten_all.new.store says) c.in_err-marks.ensures.settled in
    search (rules, told)

pub returns-in-Some-clause-solution : goal.returns-in-Some-clause-solution
returns-in-Some-clause-solution c =
    let says : Says c.args.total c.args.equations.now c.shorten_all.new.store = subst (λ n. Says n c.args.equations.now c.shorten_all.new.store) c.in_ok-store.ensures.count
    (says_same (length c.in_ok-store.store) c.args.equations.now c.add_all.new.store c.shorten_all.new.store c.in_ok-add_all.ensures c.shorten_all.ensures) in
    several_solutions c.args.total c.args.asked _ c.args.equations.now c.shorten_all.new.store c.in_ok-marks.marks says c.in_ok-marks.ensures.settled c.requires.asked c.in-Some.ensures

pub returns-else-not-are_low-clause-solution : goal.returns-else-not-are_low-clause-solution
returns-else-not-are_low-clause-solution c =
    let says : Says (length c.in_ok-store.store) c.args.equations.now c.shorten_all.new.store = says_same (length c.in_ok-store.store) c.args.equations.now c.add_all.new.store c.shorten_all.new.store c.in_ok-add_all.ensures c.shorten_all.ensures in
    let fixed : AreFixed c.args.asked c.in_ok-marks.marks = c.in-None.ensures in
    subst (IsOnlySolution c.args.asked c.args.equations.now) (sym c.new.ensures)
    (only_solution (length c.in_ok-store.store) c.args.asked c.args.equations.now c.shorten_all.new.store c.in_ok-marks.marks says c.in_ok-marks.ensures.settled fixed)

pub new-requires : goal.new-requires
new-requires c =
    is_solution c.shorten_all.new.store c.in_ok-marks.marks _ c.args.asked (search rules) c.in_ok-marks.ensures.settled (omega (arith, c.shorten_all.ensures.count, c.in_ok-add_all.ensures.count, c.in_ok-store.ensures.count, c.requires.asked)) c.in-None.ensures c.in_ok-marks.ensures.deep (search rules)
