-- What the words of a command line ask for.
use Rattle.std.specs.Prelude.{◌≡◌, ◌≢◌, Bool, false, if◌then◌else◌, List, [], codes, Option, Some, None, unwrap_or}
use Rattle.std.specs.Str.{bytes_eq}
use Rattle.std.specs.Option.{option_map_or}
use Rattle.clap.specs.Walk.{is_empty}
use Rattle.clap.specs.Words.{Row, all_of, fault_of, first_of, matches_of}
use Rattle.cbc_words.specs.Actions.{Text, ◌>>=◌, IsAction, IsBudget, IsUnknown, IsWrongRest, IsWrongBudget, action_of, budget_of}
use Rattle.cbc_words.specs.SimpleCommand.{simple_command}
use Rattle.cbc_words.specs.declared.action.Command.{Command}

-- ---- what clap found in the words: a row for each argument that has values

-- the word of ACTION, which clap takes no words without
abbrev pub action_word : List Row → Text
action_word rows = unwrap_or (first_of (codes "ACTION") rows) []

-- the words of REST, in their order
abbrev pub rest_words : List Row → List Text
rest_words rows = unwrap_or (all_of (codes "REST") rows) []

-- the text behind `--budget`, where it stands
abbrev pub budget_text : List Row → Option Text
budget_text rows = first_of (codes "budget") rows

-- `--json` stands among the words: clap's text for a flag is "true" then, and "false" else
abbrev pub is_json : List Row → Bool
is_json rows = option_map_or (λ text. bytes_eq text (codes "true")) (first_of (codes "json") rows) false

-- ---- the command

-- clap's definition of the simple command takes the words, and what it finds in them is this command
pub record IsCommand (words : List Text) (command : Command) : Type 0 where
  pub taken : fault_of simple_command words ≡ []
  pub action : IsAction (action_word (matches_of simple_command words)) (rest_words (matches_of simple_command words)) command.action
  pub budget : IsBudget (budget_text (matches_of simple_command words)) command.budget
  pub json : command.json ≡ is_json (matches_of simple_command words)

-- why words are no command
pub data IsRefused (words : List Text) : Type 0 where
  -- clap refuses them; a request for help is such a fault, and one for the version an unknown argument
  by_clap : fault_of simple_command words ≢ [] → IsRefused words
  unknown_action : IsUnknown (action_word (matches_of simple_command words)) → IsRefused words
  wrong_rest : IsWrongRest (action_word (matches_of simple_command words)) (rest_words (matches_of simple_command words))
      → IsRefused words
  wrong_budget : IsWrongBudget (budget_text (matches_of simple_command words)) → IsRefused words

-- ---- the same as a function

abbrev pub command_in : List Row → Option Command
command_in rows = do
  action ← action_of (action_word rows) (rest_words rows)
  budget ← budget_of (budget_text rows)
  Some (record { action = action; budget = budget; json = is_json rows })

-- the command that the words are, where they are one
unfoldable pub command_of : List Text → Option Command
command_of words = if is_empty (fault_of simple_command words) then command_in (matches_of simple_command words) else None
