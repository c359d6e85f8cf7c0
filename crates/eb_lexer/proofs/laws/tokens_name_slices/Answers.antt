use Rattle.eb_lexer.proofs.TextLaws.{tokens_lie}
use Rattle.eb_lexer.proofs.laws.tokens_name_slices.Goals as goal

pub returns : goal.returns
returns c = tokens_lie
