use Rattle.std.proofs.Common.{arith}
use Rattle.occ_store.specs.Stores.{IsFirst}
use Rattle.tree_checker.specs.Trees.{facts_of}
use Rattle.branch_search.proofs.Endings.{filled, first_length, answered}
use Rattle.branch_search.proofs.depth_first.search.Goals as goal

pub close-requires-clause-filled : goal.close-requires-clause-filled
close-requires-clause-filled c =
    let first : IsFirst c.args.scope.now c.args.problem.now.choices c.in_ok-first.first = rw c.as_slice.ensures at c.in_ok-first.ensures in
    filled c.in_ok-first.first (c.first_stores_have_the_valuations.ensures.some c.args.scope.now c.args.problem.now.choices c.in_ok-first.first c.requires.integers c.requires.scope first)

pub close-requires-clause-few : goal.close-requires-clause-few
close-requires-clause-few c =
    let first : IsFirst c.args.scope.now c.args.problem.now.choices c.in_ok-first.first = rw c.as_slice.ensures at c.in_ok-first.ensures in
    let same = first_length c.args.scope.now c.args.problem.now.choices c.in_ok-first.first first in
    omega (arith, same, c.requires.few)

pub returns : goal.returns
returns c =
    let first : IsFirst c.args.scope.now c.args.problem.now.choices c.in_ok-first.first = rw c.as_slice.ensures at c.in_ok-first.ensures in
    answered c.args.scope.now c.args.problem.now c.in_ok-first.first c.args.budget c.in_ok-answer.answer first c.requires.named
    (λ lines leads. c.closing_lines_are_trees.ensures.lines (facts_of c.args.scope.now c.args.problem.now) c.in_ok-first.first lines leads)
    (λ tree holds loose. c.splits_are_fewer_than_valuations.ensures.opens c.in_ok-first.first tree first holds loose) c.in_ok-answer.ensures
