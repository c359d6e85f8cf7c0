use Rattle.eb_operations.proofs.CanonicalLists.{item_is_canonical}
use Rattle.eb_operations.proofs.predicates.are_arrows.Goals as goal

pub is_arrow_in-requires : goal.is_arrow_in-requires
is_arrow_in-requires c = item_is_canonical _ _ _ c.requires c.loop-value-test.true c.value-item.is
