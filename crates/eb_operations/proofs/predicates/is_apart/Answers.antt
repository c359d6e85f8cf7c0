use Rattle.eb_operations.proofs.CanonicalLists.{item_is_canonical}
use Rattle.eb_operations.proofs.predicates.is_apart.Goals as goal

pub are_apart-requires-clause-other : goal.are_apart-requires-clause-other
are_apart-requires-clause-other c = item_is_canonical _ _ _ c.requires.others c.loop-other-test.true c.other-item.is
