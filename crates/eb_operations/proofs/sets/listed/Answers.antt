use Rattle.eb_operations.proofs.sets.listed.Goals as goal

pub returns-clause-canonical : goal.returns-clause-canonical
returns-clause-canonical c = rw c.in_ok-all.ensures (c.canonical_values_have_canonical_parts.ensures.listed c.args.scope.now c.args.ty.now)
