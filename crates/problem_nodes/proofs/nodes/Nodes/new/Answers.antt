use Rattle.std.proofs.Common.{length}
use Rattle.problem_nodes.specs.declared.lists.Made.TheVariants as made
use Rattle.problem_nodes.specs.Aboves.{rows}
use Rattle.problem_nodes.specs.steps.Lists.{made_at}
use Rattle.problem_nodes.proofs.PushLaws.{lists_are, definition_roots_are, fact_roots_are}
use Rattle.problem_nodes.proofs.nodes.Nodes.new.Goals as goal

pub invariant_of-result : goal.invariant_of-result
invariant_of-result c =
    let p = c.args.problem.now in
    let none = c.new-lists.result in
    let definitions = c.as_slice-definitions.result.now in
    let facts = c.as_slice.result.now in
    let half = c.push_roots.new.lists in (
      lists_are p none half c.push_roots-2.new.lists definitions facts c.new-lists.ensures c.as_slice-definitions.ensures c.as_slice.ensures
          c.in_ok-definition_roots.ensures.nodes c.in_ok-fact_roots.ensures.nodes,
      definition_roots_are p none definitions c.in_ok-definition_roots.definition_roots.items c.new-lists.ensures c.as_slice-definitions.ensures c.in_ok-definition_roots.ensures.roots,
      fact_roots_are p none half definitions facts (rows (made_at made.Definitions) 0 (length none.terms) definitions) c.in_ok-fact_roots.fact_roots.items
          c.new-lists.ensures c.as_slice-definitions.ensures c.as_slice.ensures c.in_ok-definition_roots.ensures.nodes c.in_ok-fact_roots.ensures.roots,
    )
