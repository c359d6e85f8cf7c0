use Rattle.std.proofs.Common.{subst, ◌≤◌}
use Rattle.tree_lines.proofs.OccursLaws.{node_there, node_nowhere}
use Rattle.tree_lines.proofs.reader.node_binders.Goals as goal

pub returns-then-k-len : goal.returns-then-k-len
returns-then-k-len c =
    let law = c.nodes_have_their_places.ensures in
    node_nowhere c.args.nodes.now c.args.k (λ a h. law.there c.args.nodes.now c.args.k a ((law.above c.args.nodes.now c.args.k a).0 h))
    (subst (λ n. n ≤ c.args.k) c.len.ensures c.if-k-len.true)

pub returns : goal.returns
returns c = node_there c.args.nodes.now c.args.k c.in_ok-types.types.items (λ a b. c.nodes_stand_inside_one_row_of_binders.ensures c.args.nodes.now c.args.k a b) c.in_ok-types.ensures
