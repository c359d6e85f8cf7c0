-- A text's reading, by the form that it has.
use Rattle.std.proofs.Common.{sym, subst, ℕ, List, Result, Ok, Err}
use Rattle.tree_lines.specs.declared.line.Line.{Line}
use Rattle.tree_lines.specs.declared.line.LineFault.{LineFault}
use Rattle.tree_lines.specs.declared.line.LineFault.TheVariants.{BadLine, NoSuchOccurrence, BadTest, Memory}
use Rattle.tree_lines.specs.Written.{Written}
use Rattle.tree_lines.specs.Lines.{Reader, IsLine, IsOf, IsReading}
use Rattle.tree_lines.specs.steps.Fitting.{IsFitted}

-- what is read of a form is read of the text that has it
pub reading_of : (r : Reader) (text : List ℕ) (w : Written) (result : Result Line LineFault) → IsOf text w → IsFitted r w result → IsReading r text result
reading_of r text w (Ok l) of fitted = ((w, of), subst (λ t. IsLine r.names t l) (sym of.0) fitted.0, fitted.1, fitted.2, fitted.3)
reading_of r text w (Err BadLine) of fitted = absurd fitted
reading_of r text w (Err NoSuchOccurrence) of fitted = (w, of, fitted)
reading_of r text w (Err BadTest) of fitted = (w, of, fitted)
reading_of r text w (Err Memory) of fitted = tt
