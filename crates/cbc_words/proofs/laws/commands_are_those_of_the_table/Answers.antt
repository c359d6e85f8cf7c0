use Rattle.cbc_words.proofs.CommandLaws.{command_sound, command_complete}
use Rattle.cbc_words.proofs.laws.commands_are_those_of_the_table.Goals as goal

pub returns : goal.returns
returns c = λ words command. (command_sound words command, command_complete words command)
