use Rattle.eb_narrow.proofs.TypeLaws.{narrowed_type}
use Rattle.eb_narrow.proofs.laws.narrow_form_goes_by_the_types.Goals as goal

pub returns : goal.returns
returns c = narrowed_type
