use Rattle.std.proofs.Common.{◌≡◌, length}
use Rattle.domain_store.specs.steps.Firsts.{Each, IsOfNode, Extends}
use Rattle.domain_store.proofs.firsts.node_numbers.Given as goal

abbrev pub invariant-loop-k : goal.invariant-loop-k
invariant-loop-k l = record {
  count : length l.numbers.items ≡ l.k;
  each : Each (IsOfNode l.wholes.types l.nodes) l.numbers.items;
  keeps : Extends l.fn.wholes l.wholes;
}
