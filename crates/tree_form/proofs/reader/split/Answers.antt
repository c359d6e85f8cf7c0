use Rattle.std.proofs.Common.{rules, ◌≡◌, refl, Some, None}
use Rattle.std.specs.Prelude.{slice_get}
use Rattle.tree_form.specs.declared.line.Line.TheVariants as line
use Rattle.tree_form.specs.steps.Reading as spec
use Rattle.tree_form.proofs.LineLaws.{beyond}
use Rattle.tree_form.proofs.reader.split.Goals as goal

pub returns-in-None : goal.returns-in-None
returns-in-None c =
    let read : spec.split_of c.args.text.now ≡ Some (line.Split c.in-Some.k c.in-Some.n) = search rules in
    let none : slice_get c.args.problem.now.choices c.in-Some.k ≡ None = search rules in
    rw (read, beyond c.in-Some.k c.args.problem.now.choices none) refl
