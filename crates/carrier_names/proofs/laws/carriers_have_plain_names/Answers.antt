use Rattle.cbc_query.specs.Parts.{carriers}
use Rattle.carrier_names.proofs.Carriers.{carriers_plain}
use Rattle.carrier_names.proofs.laws.carriers_have_plain_names.Goals as goal

pub returns-clause-plain : goal.returns-clause-plain
returns-clause-plain c = carriers_plain

pub returns-clause-readable : goal.returns-clause-readable
returns-clause-readable c text tokens units height m t r k =
    c.plain_names_are_words.ensures.readable (carriers m) (carriers_plain text tokens units height m t r k)
