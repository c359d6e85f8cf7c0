use Rattle.std.proofs.Common.{◌+◌, ◌≤◌, subst}
use Rattle.tree_checker.specs.Trees as trees
use Rattle.tree_checker.proofs.Budget.{budget, loose_budget}
use Rattle.tree_checker.proofs.laws.splits_are_fewer_than_valuations.Goals as goal

pub returns-clause-splits : goal.returns-clause-splits
returns-clause-splits c = λ first tree is_first holds.
    let law = c.first_stores_have_the_valuations.ensures in
    let volume = law.count c.args.scope.now c.args.problem.now.choices first c.requires.integers c.requires.scope is_first in
    let some = law.some c.args.scope.now c.args.problem.now.choices first c.requires.integers c.requires.scope is_first in
    subst (λ n. trees.splits_of (trees.lines_of tree) + 1 ≤ n) volume (budget (trees.facts_of c.args.scope.now c.args.problem.now) tree first some holds)

pub returns-clause-opens : goal.returns-clause-opens
returns-clause-opens c = λ first tree is_first holds loose.
    let law = c.first_stores_have_the_valuations.ensures in
    let volume = law.count c.args.scope.now c.args.problem.now.choices first c.requires.integers c.requires.scope is_first in
    let some = law.some c.args.scope.now c.args.problem.now.choices first c.requires.integers c.requires.scope is_first in
    subst (λ n. trees.splits_of (trees.lines_of tree) + trees.opens (trees.lines_of tree) + 1 ≤ n) volume (loose_budget (trees.facts_of c.args.scope.now c.args.problem.now) tree first some holds loose)
