-- Formulas at the front of tokens.
use Rattle.std.specs.Prelude.{◌≡◌, ℕ, IsTrue, List, ◌++◌}
use Rattle.eb_lexer.specs.declared.token.Token.{Token}
use Rattle.eb_syntax.specs.declared.ast.Ast.{Ast}
use Rattle.eb_parser.specs.declared.part.Part.{Part}
use Rattle.eb_parser.specs.declared.formulas.FormulaKind.{FormulaKind}
use Rattle.eb_parser.specs.Grammar.{Derives}
use Rattle.eb_parser.specs.Formulas.{fits}

-- a formula of the kind stands at the front of the tokens, with this tree and of this height, and the rest behind it
pub record Front (k : FormulaKind) (ts : List Token) (a : Ast) (h : ℕ) (rest : List Token) : Type 0 where
  pub tokens : List Token
  pub whole : ts ≡ tokens ++ rest
  pub part : Part
  pub derived : Derives tokens part
  pub fits : IsTrue (fits k part.level)
  pub tree : part.tree ≡ a
  pub height : part.height ≡ h
