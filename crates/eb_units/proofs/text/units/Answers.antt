use Rattle.std.proofs.Common.{drop}
use Rattle.std.proofs.lemmas.Result.{err_from_is_err_and}
use Rattle.eb_units.specs.steps.Descending as spec
use Rattle.eb_units.proofs.TextLaws.{text_reads, text_fault}
use Rattle.eb_units.proofs.text.units.Goals as goal

pub returns-clause-found : goal.returns-clause-found
returns-clause-found c = text_reads c.formulas_are_found_at_the_front.ensures (spec.room c.args.tokens.now) c.args.tokens.now (drop c.in_ok-units.field-0-1 c.args.tokens.now) c.in_ok-units.units c.in_ok-units.ensures.exact

pub returns-in_err-units-clause-cause : goal.returns-in_err-units-clause-cause
returns-in_err-units-clause-cause c =
    let p = err_from_is_err_and c.from_residual.result c.from_residual.ensures.1 in
    rw (p.1, p.2) (text_fault c.formulas_are_found_at_the_front.ensures c.args.tokens.now c.in_err-units.field-0.0 c.in_err-units.ensures.exact c.in_err-units.ensures.placed)
