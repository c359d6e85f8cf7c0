use Rattle.std.proofs.Common.{rules, ◌≡◌, false}
use Rattle.eb_term.specs.Typed.{part_type_at}
use Rattle.tree_lines.specs.Lines as lines
use Rattle.tree_lines.specs.steps.Reading as step
use Rattle.tree_lines.proofs.TestLaws.{number_fits_none}
use Rattle.tree_lines.proofs.tests.at_most.Goals as goal

pub returns-else-is_integer_at : goal.returns-else-is_integer_at
returns-else-is_integer_at c =
    let none : lines.is_integer_type (part_type_at (step.sides c.args.path.now) c.args.ty.now) ≡ false = search rules in
    λ scope names. number_fits_none scope names c.args.ty.now (step.sides c.args.path.now) c.args.n none
