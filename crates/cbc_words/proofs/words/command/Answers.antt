use Rattle.std.proofs.Common.{rules, ◌≡◌}
use Rattle.std.specs.Prelude.{None}
use Rattle.cbc_words.specs.Words.{command_of}
use Rattle.cbc_words.proofs.RefusalLaws.{refused_sound}
use Rattle.cbc_words.proofs.words.command.Goals as goal

pub returns-clause-cause : goal.returns-clause-cause
returns-clause-cause c _ =
    let none : command_of c.args.words.now ≡ None = search rules in
    refused_sound c.args.words.now none
