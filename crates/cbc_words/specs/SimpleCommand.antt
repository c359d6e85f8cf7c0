-- The one command line of the program, as `clap` defines a command.
use Rattle.std.specs.Prelude.{Some, codes, true}
use Rattle.clap.specs.Lexer.{usize_max}
use Rattle.clap.specs.Words.{App, Rule, new_app, new_rule, with_rule}
use Rattle.clap.specs.declared.builder.ArgAction.TheVariants.{Set, SetTrue}

-- ACTION: one word that has to be there
abbrev pub action_rule : Rule
action_rule = record (new_rule (codes "ACTION")) { required = true; action = Some Set }

-- REST: the last positional, of one word or more
abbrev pub rest_rule : Rule
rest_rule = record (new_rule (codes "REST")) {
  required = true;
  range = Some (record { start_inclusive = 1; end_inclusive = usize_max });
}

-- `--budget N`, at most once; which texts N may be isn't said here
abbrev pub budget_rule : Rule
budget_rule = record (new_rule (codes "budget")) { long = Some (codes "budget") }

-- the flag `--json`, at most once
abbrev pub json_rule : Rule
json_rule = record (new_rule (codes "json")) { long = Some (codes "json"); action = Some SetTrue }

-- a command without arguments, whose words don't begin with the program's name
abbrev pub bare_command : App
bare_command = let new = new_app (codes "cbc") in record new { top = record new.top { no_binary_name = true } }

abbrev pub simple_command : App
simple_command = with_rule (with_rule (with_rule (with_rule bare_command action_rule) rest_rule) budget_rule) json_rule
