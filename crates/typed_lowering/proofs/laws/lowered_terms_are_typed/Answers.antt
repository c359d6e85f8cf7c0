use Rattle.typed_lowering.proofs.TermLaws.{terms_typed, terms_fit, terms_refer}
use Rattle.typed_lowering.proofs.laws.lowered_terms_are_typed.Goals as goal

pub returns : goal.returns
returns c = record { typed = terms_typed; fits = terms_fit; references = terms_refer }
