use Rattle.std.proofs.Common.{[]}
use Rattle.narrow_typing.proofs.ReferenceLaws.{narrow_refers}
use Rattle.narrow_typing.proofs.TypingLaws.{GoesBy, goes_by, narrow_typed, narrow_fits}
use Rattle.narrow_typing.proofs.laws.narrow_terms_are_typed.Goals as goal

pub returns : goal.returns
returns c =
    let laws = c.types_are_those_of_the_typing.ensures in
    let types : GoesBy = goes_by laws.value laws.truth c.narrow_form_goes_by_the_types.ensures in
    record {
      typed = narrow_typed types [];
      fits = λ scope refs. narrow_fits types scope refs [];
      references = λ t. narrow_refers t 0;
      typed_under = narrow_typed types;
      fits_under = narrow_fits types;
    }
