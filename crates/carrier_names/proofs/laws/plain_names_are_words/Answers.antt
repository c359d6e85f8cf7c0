use Rattle.carrier_names.proofs.Words.{plain_words, bytes_apart, no_white_space}
use Rattle.carrier_names.proofs.laws.plain_names_are_words.Goals as goal

pub returns-clause-words : goal.returns-clause-words
returns-clause-words c = no_white_space

pub returns-clause-bytes : goal.returns-clause-bytes
returns-clause-bytes c = plain_words

pub returns-clause-apart : goal.returns-clause-apart
returns-clause-apart c = bytes_apart
