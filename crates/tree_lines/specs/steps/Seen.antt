-- The forms of lines and tests as the code has them: paths by their words.
use Rattle.tree_lines.specs.declared.written.Asked.{Asked as TestForm}
use Rattle.tree_lines.specs.declared.written.Asked.TheVariants as test
use Rattle.tree_lines.specs.declared.written.Written.{Written as LineForm}
use Rattle.tree_lines.specs.declared.written.Written.TheVariants as line
use Rattle.tree_lines.specs.Written.{Asked, at_most, is, has, card, says_defined, says_true, says_false, says_undefined, Written, narrow, split, clash, eval, left_open, header, begins, ends}
use Rattle.tree_lines.specs.steps.Reading.{sides}

abbrev pub seen_test : TestForm → Asked
seen_test (test.AtMost path n) = at_most (sides path.now) n
seen_test (test.Is path word) = is (sides path.now) word.now
seen_test (test.Has path word) = has (sides path.now) word.now
seen_test (test.Card path n) = card (sides path.now) n
seen_test test.Defined = says_defined
seen_test test.True = says_true
seen_test test.False = says_false
seen_test test.Undefined = says_undefined

abbrev pub seen : LineForm → Written
seen (line.Narrow rule at inside) = narrow rule at inside.now
seen (line.Split at inside asked) = split at inside.now (seen_test asked)
seen (line.Clash at inside) = clash at inside.now
seen (line.Eval k) = eval k
seen line.Open = left_open
seen (line.Header text) = header text.now
seen line.Begin = begins
seen line.End = ends
