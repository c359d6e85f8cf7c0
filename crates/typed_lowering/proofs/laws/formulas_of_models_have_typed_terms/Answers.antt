use Rattle.typed_lowering.proofs.TermLaws.{formulas_typed, formulas_fit, formulas_refer}
use Rattle.typed_lowering.proofs.ModelFormulas.{carrier_typed}
use Rattle.typed_lowering.proofs.laws.formulas_of_models_have_typed_terms.Goals as goal

pub returns : goal.returns
returns c = record {
  typed = formulas_typed;
  fits = formulas_fit;
  references = formulas_refer;
  carriers = λ m types t k x i. carrier_typed types m k x i t;
}
