use Rattle.eb_operations.proofs.operations.of_sets.Goals as goal

pub returns-in_ok-dom_keep-in-DomainRestriction-clause-canonical : goal.returns-in_ok-dom_keep-in-DomainRestriction-clause-canonical
returns-in_ok-dom_keep-in-DomainRestriction-clause-canonical c =
    let part = c.canonical_values_have_canonical_parts.ensures in
    rw c.in_ok-dom_keep-in-DomainRestriction.ensures.equals (c.operators_keep_values_canonical.ensures.dom_keep _ _ (part.sets _ c.requires.first).1 (part.sets _ c.requires.second).1)

pub returns-in_ok-dom_drop-in-DomainSubtraction-clause-canonical : goal.returns-in_ok-dom_drop-in-DomainSubtraction-clause-canonical
returns-in_ok-dom_drop-in-DomainSubtraction-clause-canonical c =
    let part = c.canonical_values_have_canonical_parts.ensures in
    rw c.in_ok-dom_drop-in-DomainSubtraction.ensures.equals (c.operators_keep_values_canonical.ensures.dom_drop _ _ (part.sets _ c.requires.first).1 (part.sets _ c.requires.second).1)
