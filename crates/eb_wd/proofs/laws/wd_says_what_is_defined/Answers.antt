use Rattle.eb_wd.proofs.SaysDefined.{Laws, says_what_is_defined}
use Rattle.eb_wd.proofs.laws.wd_says_what_is_defined.Goals as goal

pub returns : goal.returns
returns c =
    let laws : Laws = record { complete = c.values_are_complete.ensures; typed = c.typed_terms_have_values_of_their_types.ensures } in
    says_what_is_defined laws
