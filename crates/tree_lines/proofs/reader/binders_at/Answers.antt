use Rattle.std.proofs.Common.{◌≡◌, ◌∙◌, ap, Some, None, [], cond, length}
use Rattle.std.specs.Prelude.{nat_lt}
use Rattle.tree_lines.proofs.OccursLaws.{choice_there, definition_there}
use Rattle.tree_lines.proofs.reader.binders_at.Goals as goal

pub returns-in-Choice : goal.returns-in-Choice
returns-in-Choice c =
    let count : length c.problem.result.now.choices ≡ length c.args.nodes.now.choices = ap (λ p. length p.choices) c.problem.ensures in
    let types = c.no_binders.ensures ∙ ap (λ n. cond (nat_lt c.in-Choice.k n) (Some []) None) (c.len.ensures ∙ count) in
    rw (c.in-Choice.is, types) (choice_there c.args.nodes.now c.in-Choice.k)

pub returns-in-Definition : goal.returns-in-Definition
returns-in-Definition c =
    let count : length c.problem-in-Definition.result.now.definitions ≡ length c.args.nodes.now.definitions = ap (λ p. length p.definitions) c.problem-in-Definition.ensures in
    let types = c.no_binders-in-Definition.ensures ∙ ap (λ n. cond (nat_lt c.in-Definition.k n) (Some []) None) (c.len-in-Definition.ensures ∙ count) in
    rw (c.in-Definition.is, types) (definition_there c.args.nodes.now c.in-Definition.k)
