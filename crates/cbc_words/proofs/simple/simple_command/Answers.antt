-- The command's definition grows by one rule with each `arg`.
use Rattle.std.proofs.Common.{rules, ap₂, ◌≡◌, ◌∙◌}
use Rattle.clap.specs.Words.{app_of, rule_of, with_rule}
use Rattle.cbc_words.specs.SimpleCommand.{action_rule, rest_rule, budget_rule, json_rule, bare_command}
use Rattle.cbc_words.proofs.NumberLaws.{is_some_with}
use Rattle.cbc_words.proofs.simple.simple_command.Goals as goal

pub returns : goal.returns
returns c =
    let action_is : rule_of c.action-action.result ≡ action_rule = search rules in
    let range_is : c.num_args-rest.result.num_vals ≡ rest_rule.range = is_some_with _ _ c.num_args-rest.ensures.1 in
    let rest_is : rule_of c.num_args-rest.result ≡ rest_rule = search rules in
    let budget_is : rule_of c.long-budget.result ≡ budget_rule = search rules in
    let json_is : rule_of c.action-json.result ≡ json_rule = search rules in
    let bare_is : app_of c.no_binary_name.result ≡ bare_command = search rules in
    let one = c.in_ok-arg.ensures.shape (search rules) ∙ ap₂ with_rule bare_is action_is in
    let two = c.in_ok-arg-2.ensures.shape (search rules) ∙ ap₂ with_rule one rest_is in
    let three = c.in_ok-arg-3.ensures.shape (search rules) ∙ ap₂ with_rule two budget_is in
    c.in_ok-made.ensures.shape (search rules) ∙ ap₂ with_rule three json_is
