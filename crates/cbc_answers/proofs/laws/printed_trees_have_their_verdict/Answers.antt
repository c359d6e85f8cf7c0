use Rattle.std.proofs.Common.{rules}
use Rattle.cbc_answers.proofs.PrintedVerdicts.{refuted_verdict, undecided_verdict}
use Rattle.cbc_answers.proofs.laws.printed_trees_have_their_verdict.Goals as goal

pub returns-clause-refuted : goal.returns-clause-refuted
returns-clause-refuted c = λ tree refutation.
    refuted_verdict c.trees_have_small_numbers.ensures c.whole_texts_are_printed_trees.ensures.whole c.args.asked.now c.args.budget tree c.requires.lawful c.requires.some c.requires.plain refutation

pub returns-clause-undecided : goal.returns-clause-undecided
returns-clause-undecided c = λ tree undecided.
    undecided_verdict c.trees_have_small_numbers.ensures c.whole_texts_are_printed_trees.ensures.whole c.args.asked.now c.args.budget tree (search rules) c.requires.lawful c.requires.some c.requires.plain undecided
