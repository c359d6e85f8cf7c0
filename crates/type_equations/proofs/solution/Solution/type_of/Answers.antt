use Rattle.std.proofs.Common.{◌≡◌, ◌∙◌, sym, ap, rules}
use Rattle.std.specs.Prelude.{Some, slice_get}
use Rattle.eb_value.specs.Types.{integer}
use Rattle.type_equations.specs.Solutions.{type_at, solution_of}
use Rattle.type_equations.proofs.SolutionLaws.{type_below, type_past}
use Rattle.type_equations.proofs.DepthLaws.{shallow_get}
use Rattle.type_equations.proofs.solution.Solution.type_of.Goals as goal

pub returns-in_ok-ty-clause-value : goal.returns-in_ok-ty-clause-value
returns-in_ok-ty-clause-value c =
    let ty : c.in_ok-ty.ty ≡ type_at integer c.self.inside.store c.args.number = search rules in
    ap Some ty ∙ sym (type_below c.self.inside.asked c.args.number (type_at integer c.self.inside.store) c.if-number-self.true) ∙ ap (λ types. slice_get types c.args.number) c.self.view_is

pub returns-else-number-self-clause-value : goal.returns-else-number-self-clause-value
returns-else-number-self-clause-value c = sym (type_past c.self.inside.asked c.args.number (type_at integer c.self.inside.store) c.if-number-self.false) ∙ ap (λ types. slice_get types c.args.number) c.self.view_is

pub returns-in_ok-ty-clause-shallow : goal.returns-in_ok-ty-clause-shallow
returns-in_ok-ty-clause-shallow c =
    let ty : c.in_ok-ty.ty ≡ type_at integer c.self.inside.store c.args.number = search rules in
    shallow_get (solution_of c.self.inside.store c.self.inside.asked) c.args.number c.in_ok-ty.ty c.self.invariant.shallow
    (type_below c.self.inside.asked c.args.number (type_at integer c.self.inside.store) c.if-number-self.true ∙ ap Some (sym ty))
