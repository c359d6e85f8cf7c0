use Rattle.term_types.proofs.TypeLaws.{type_is}
use Rattle.term_types.proofs.laws.types_are_those_of_the_typing.Goals as goal

pub returns : goal.returns
returns c = record { value = λ types t ty d. type_is d; truth = λ types t d. type_is d }
