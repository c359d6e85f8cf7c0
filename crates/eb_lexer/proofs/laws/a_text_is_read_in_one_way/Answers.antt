use Rattle.eb_lexer.proofs.TextLaws.{one_reading, no_bad_place, one_bad_place}
use Rattle.eb_lexer.proofs.laws.a_text_is_read_in_one_way.Goals as goal

pub returns-clause-tokens : goal.returns-clause-tokens
returns-clause-tokens c = one_reading

pub returns-clause-places : goal.returns-clause-places
returns-clause-places c = one_bad_place

pub returns-clause-apart : goal.returns-clause-apart
returns-clause-apart c = no_bad_place
