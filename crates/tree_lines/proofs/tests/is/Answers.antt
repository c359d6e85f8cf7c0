use Rattle.std.proofs.Common.{rules, ◌≡◌, sym, ap, Some, None, Err}
use Rattle.eb_term.specs.Typed.{part_type_at}
use Rattle.tree_lines.specs.steps.Fitting.{plain}
use Rattle.tree_lines.specs.steps.Reading as step
use Rattle.tree_lines.proofs.TestLaws.{value_fits_none, not_plain, plain_is, untyped}
use Rattle.tree_lines.proofs.tests.is.Goals as goal

pub returns-in_default : goal.returns-in_default
returns-in_default c =
    let none : plain (part_type_at (step.sides c.args.path.now) c.args.ty.now) ≡ None = search rules in
    value_fits_none c.args.scope.now c.args.names.now c.args.ty.now (step.sides c.args.path.now) c.args.word.now
    (λ v e. not_plain c.args.scope.now (part_type_at (step.sides c.args.path.now) c.args.ty.now) v none)

pub returns-in-Err-Form : goal.returns-in-Err-Form
returns-in-Err-Form c =
    let some : plain (part_type_at (step.sides c.args.path.now) c.args.ty.now) ≡ Some c.in-Some.part.now = search rules in
    let is = plain_is (part_type_at (step.sides c.args.path.now) c.args.ty.now) c.in-Some.part.now some in
    value_fits_none c.args.scope.now c.args.names.now c.args.ty.now (step.sides c.args.path.now) c.args.word.now
    (λ v e. untyped c.args.scope.now (part_type_at (step.sides c.args.path.now) c.args.ty.now) c.in-Some.part.now v is.0 (λ h. c.in-Err-Form.ensures.form (ap Err c.in-Err-Form.field-0-is) v h (sym e)))
