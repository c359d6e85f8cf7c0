use Rattle.std.proofs.Common.{rules, refl}
use Rattle.domain_store.proofs.FirstLaws.{terms_more}
use Rattle.domain_store.proofs.firsts.Firsts.new.Goals as goal

pub invariant_of-result : goal.invariant_of-result
invariant_of-result c = record {
  choices = search rules;
  definitions = terms_more _ _ c.node_numbers.ensures.keeps _ _ (rw (c.as_slice-2.ensures, c.problem-problem.ensures) at c.in_ok-definitions.ensures.numbers);
  nodes = c.in_ok-numbers.ensures.numbers;
  fact = refl;
  none = refl;
}
