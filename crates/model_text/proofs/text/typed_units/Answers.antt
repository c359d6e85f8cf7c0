use Rattle.std.proofs.lemmas.Result.{err_from_is_err_and}
use Rattle.model_text.proofs.TextLaws.{typing_faults}
use Rattle.model_text.proofs.text.typed_units.Goals as goal

pub returns-in_err-types-clause-cause : goal.returns-in_err-types-clause-cause
returns-in_err-types-clause-cause c =
    let p = err_from_is_err_and c.from_residual-in_err-types.result c.from_residual-in_err-types.ensures.1 in
    rw (p.1, p.2) (typing_faults c.args.text.now c.in_ok-units.units c.in_ok-model.model c.in_err-types.field-0.0 c.in_ok-units.ensures.read (rw c.as_slice.ensures at c.in_ok-model.ensures) c.in_err-types.ensures.cause)
