use Rattle.std.proofs.Common.{arith}
use Rattle.std.proofs.lemmas.Grind.{common_steps}
use Rattle.domain_store.proofs.FirstLaws.{extends_more, node_push}
use Rattle.domain_store.proofs.firsts.node_numbers.Goals as goal

pub loop-k-preserved : goal.loop-k-preserved
loop-k-preserved c = record {
  count = grind (arith, common_steps);
  each = rw c.in_ok-push.ensures.items (node_push c.loop-k.wholes c.node_number.new.wholes c.args.nodes.now c.loop-k.numbers.items c.loop-k.k _
      c.node_number.ensures.keeps c.loop-k.invariant.each c.loop-k.invariant.count c.in_ok-node_number.ensures.number);
  keeps = extends_more c.loop-k.invariant.keeps c.node_number.ensures.keeps;
}
