use Rattle.std.proofs.Common.{◌≡◌, ◌∙◌, ◌≤◌, ◌^◌, length, ap, arith}
use Rattle.std.proofs.lemmas.List.{length-map}
use Rattle.occ_store.specs.Stores.{whole}
use Rattle.tree_checker.specs.Trees.{facts_of}
use Rattle.tree_checker.proofs.SmallNumbers.{small_numbers}
use Rattle.tree_checker.proofs.laws.trees_have_small_numbers.Goals as goal

pub returns : goal.returns
returns c = λ scope problem first tree integers filled low high few_choices few_facts is_first holds.
    let same = c.first_stores_have_the_valuations.ensures.exact scope problem.choices first integers filled is_first in
    let count : length first ≡ length problem.choices = ap length same ∙ length-map problem.choices (λ c. whole scope) in
    let few : length first ≤ 2 ^ 62 = omega (arith, few_choices) in
    small_numbers scope problem.choices (facts_of scope problem) first tree
    (record { low = low; high = high; few = few_facts }) same few holds
