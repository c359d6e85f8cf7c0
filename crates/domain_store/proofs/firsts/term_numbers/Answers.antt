use Rattle.std.proofs.Common.{rules, arith}
use Rattle.std.proofs.lemmas.Grind.{common_steps}
use Rattle.domain_store.proofs.FirstLaws.{extends_more, term_push}
use Rattle.domain_store.proofs.firsts.term_numbers.Goals as goal

pub loop-term-preserved : goal.loop-term-preserved
loop-term-preserved c = record {
  count = grind (arith, common_steps);
  each = rw c.in_ok-push.ensures.items (term_push c.loop-term.wholes c.number.new.self c.args.terms.now c.loop-term.numbers.items c.loop-term.term-index _ c.term-item.result
      c.number.ensures.keeps c.loop-term.invariant.each c.loop-term.invariant.count c.loop-term-test.true c.term-item.is (search rules));
  keeps = extends_more c.loop-term.invariant.keeps c.number.ensures.keeps;
}
