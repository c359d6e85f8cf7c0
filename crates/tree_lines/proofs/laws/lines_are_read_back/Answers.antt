use Rattle.tree_lines.specs.Words.{line_text}
use Rattle.tree_lines.proofs.OneReading.{one_reading}
use Rattle.tree_lines.proofs.BackLaws.{all_word, read_back, one_line_long, each_apart, only_own}
use Rattle.eb_value.specs.Texts.{values_text}
use Rattle.tree_lines.proofs.laws.lines_are_read_back.Goals as goal

pub returns-clause-one : goal.returns-clause-one
returns-clause-one c = λ r readable sizes text a b na nb x y. one_reading r (c.nodes_stand_inside_one_row_of_binders.ensures r.problem)
    (λ types vs ws t u e. c.values_are_told_by_their_texts.ensures.told r.names readable r.scope sizes types vs ws t u e) text a b na nb x y

pub returns-clause-back : goal.returns-clause-back
returns-clause-back c = λ r stay line small there fits.
    read_back r (λ vs. all_word (values_text r.names vs) (c.values_are_told_by_their_texts.ensures.stays r.names stay vs)) line small there fits

pub returns-clause-words : goal.returns-clause-words
returns-clause-words c = λ names stay line small. each_apart (line_text names line)
    (one_line_long names (λ vs. all_word (values_text names vs) (c.values_are_told_by_their_texts.ensures.stays names stay vs)) line small)

pub returns-clause-own : goal.returns-clause-own
returns-clause-own c = λ r text line read other. only_own r.names text line read.1 other
