use Rattle.std.proofs.Common.{◌≤◌, sym, ap, subst}
use Rattle.occurrences.specs.Targets as spec
use Rattle.occurrences.proofs.targets.below.Goals as goal

pub returns-then-k-len : goal.returns-then-k-len
returns-then-k-len c = ap (spec.below c.args.k) (sym (c.nodes_have_their_places.ensures.past c.args.nodes.now c.args.k (subst (λ n. n ≤ c.args.k) c.len.ensures c.if-k-len.true)))
