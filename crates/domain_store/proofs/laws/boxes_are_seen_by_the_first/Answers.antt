use Rattle.domain_store.proofs.BoxLaws.{seen_first}
use Rattle.domain_store.proofs.laws.boxes_are_seen_by_the_first.Goals as goal

pub returns : goal.returns
returns c = seen_first
