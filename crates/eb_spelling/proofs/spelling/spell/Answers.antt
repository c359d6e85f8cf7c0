use Rattle.std.proofs.Common.{◌≡◌, rules}
use Rattle.std.specs.Prelude.{IfOk}
use Rattle.eb_spelling.specs.Spelling.{text_of, kinds_of}
use Rattle.eb_spelling.proofs.FormulaLaws.{answer_reads}
use Rattle.eb_spelling.proofs.spelling.spell.Goals as goal

pub returns-clause-reads : goal.returns-clause-reads
returns-clause-reads c =
    let e : IfOk c.text_of.result (λ t. t ≡ text_of (kinds_of c.args.ast.now)) = search rules in
    answer_reads c.a_sign_is_spelled_by_its_text.ensures c.text_of.result c.args.ast.now e
