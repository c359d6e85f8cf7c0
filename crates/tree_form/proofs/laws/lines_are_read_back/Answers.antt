use Rattle.std.proofs.Common.{◌∙◌, sym}
use Rattle.tree_form.specs.steps.Reading.{reading}
use Rattle.tree_form.proofs.LineLaws.{one_line, reading_is, reading_only}
use Rattle.tree_form.proofs.laws.lines_are_read_back.Goals as goal

pub returns-clause-one : goal.returns-clause-one
returns-clause-one c = λ problem text first second a b. sym (reading_only problem text first a) ∙ reading_only problem text second b

pub returns-clause-line : goal.returns-clause-line
returns-clause-line c = λ text first second a b. one_line text first second a b

pub returns-clause-some : goal.returns-clause-some
returns-clause-some c = λ problem text. (reading problem text, reading_is problem text)
