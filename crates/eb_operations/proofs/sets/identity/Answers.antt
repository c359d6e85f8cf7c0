use Rattle.eb_operations.proofs.CanonicalMaps.{doubled}
use Rattle.eb_operations.proofs.sets.identity.Goals as goal

pub returns-clause-canonical : goal.returns-clause-canonical
returns-clause-canonical c =
    let listed = c.canonical_values_have_canonical_parts.ensures.listed c.args.scope.now c.args.ty.now in
    rw (c.set.ensures, c.set_of.ensures.equals, c.in_ok-pairs.ensures, c.as_slice.ensures, c.in_ok-values.ensures) (c.operators_keep_values_canonical.ensures.set_of _ (doubled _ listed))
