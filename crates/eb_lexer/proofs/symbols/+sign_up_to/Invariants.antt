-- The number of characters at most.
use Rattle.eb_lexer.proofs.symbols.+sign_up_to.Given as goal

abbrev pub decreases-sign_up_to : goal.decreases-sign_up_to
decreases-sign_up_to l = l.most
