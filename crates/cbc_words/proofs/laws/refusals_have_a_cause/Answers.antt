use Rattle.cbc_words.proofs.RefusalLaws.{refused_sound, refused_complete}
use Rattle.cbc_words.proofs.laws.refusals_have_a_cause.Goals as goal

pub returns : goal.returns
returns c = λ words. (refused_sound words, refused_complete words)
