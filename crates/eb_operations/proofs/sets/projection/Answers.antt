use Rattle.eb_operations.proofs.CanonicalMaps.{projected}
use Rattle.eb_operations.proofs.sets.projection.Goals as goal

pub returns-clause-canonical : goal.returns-clause-canonical
returns-clause-canonical c =
    let listed = c.canonical_values_have_canonical_parts.ensures.listed in
    rw (c.set.ensures, c.set_of.ensures.equals, c.in_ok-maplets.ensures, c.as_slice.ensures, c.as_slice-2.ensures, c.in_ok-firsts.ensures, c.in_ok-seconds.ensures)
    (c.operators_keep_values_canonical.ensures.set_of _ (projected c.args.side _ _ (listed c.args.scope.now c.args.first.now) (listed c.args.scope.now c.args.second.now)))
