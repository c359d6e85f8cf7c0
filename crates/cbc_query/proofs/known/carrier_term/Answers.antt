use Rattle.cbc_query.proofs.Typings.{canonical_set}
use Rattle.cbc_query.proofs.known.carrier_term.Goals as goal

pub literal-requires : goal.literal-requires
literal-requires c = canonical_set _ c.in_ok-members.members c.args.scope.now c.carrier.result c.set.ensures c.in_ok-members.ensures
    (c.values_are_ascending.ensures c.args.scope.now c.carrier.result) (c.canonical_values_have_canonical_parts.ensures.listed c.args.scope.now c.carrier.result)
