use Rattle.eb_spelling.proofs.FormulaLaws.{own_kinds, read_back}
use Rattle.eb_spelling.proofs.laws.a_formula_reads_back.Goals as goal

pub returns-clause-own : goal.returns-clause-own
returns-clause-own c k tokens from end a h s = own_kinds k tokens from end a h s

pub returns-clause-back : goal.returns-clause-back
returns-clause-back c k tokens from end a h s us e = read_back k tokens from end a h s us e
