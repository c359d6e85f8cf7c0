-- The formulas that stand at a place of some tokens.
use Rattle.std.specs.Prelude.{◌≡◌, ℕ, ◌-◌, ◌≤◌, ◌<◌, ◌⊎◌, Bool, true, false, not, IsTrue, List, [], ◌∷◌, length, take, drop, take_while, ⊤}
use Rattle.eb_signs.specs.declared.sign.Sign.{Sign}
use Rattle.eb_signs.specs.declared.sign.Sign.TheVariants as s
use Rattle.eb_lexer.specs.declared.token.Token.{Token}
use Rattle.eb_lexer.specs.declared.token.TokenKind.{TokenKind}
use Rattle.eb_lexer.specs.declared.token.TokenKind.TheVariants as kind
use Rattle.eb_syntax.specs.declared.ast.Ast.{Ast}
use Rattle.eb_syntax.specs.declared.ast.Operator.{Operator}
use Rattle.eb_parser.specs.declared.part.Part.{Part}
use Rattle.eb_parser.specs.declared.fault.ParseFault.{ParseFault}
use Rattle.eb_parser.specs.declared.fault.ParseFault.TheVariants as fault
use Rattle.eb_parser.specs.declared.formulas.FormulaKind.{FormulaKind}
use Rattle.eb_parser.specs.declared.formulas.FormulaKind.TheVariants as formula
use Rattle.eb_signs.specs.Levels as level
use Rattle.eb_signs.specs.Levels.{is_pred, is_expr}
use Rattle.eb_parser.specs.Signs.{IsSign, operator_sign}
use Rattle.eb_parser.specs.Grammar.{Derives}

-- the levels of the kind
abbrev pub fits : FormulaKind → ℕ → Bool
fits formula.Pred n = is_pred n
fits formula.Expr n = is_expr n

-- the least level of the kind
abbrev pub least_of : FormulaKind → ℕ
least_of formula.Pred = level.pred
least_of formula.Expr = level.expr

-- the tokens from this place to before that end are a formula of the kind, with this tree and of this height
pub record Stands (k : FormulaKind) (tokens : List Token) (from end : ℕ) (a : Ast) (h : ℕ) : Type 0 where
  pub ordered : from < end
  pub within : end ≤ length tokens
  pub part : Part
  pub derived : Derives (take (end - from) (drop from tokens)) part
  pub fits : IsTrue (fits k part.level)
  pub tree : part.tree ≡ a
  pub height : part.height ≡ h

-- and no formula of the kind at this place is longer
pub record IsLongest (k : FormulaKind) (tokens : List Token) (from end : ℕ) (a : Ast) (h : ℕ) : Type 0 where
  pub stands : Stands k tokens from end a h
  pub longest : (other : ℕ) (b : Ast) (g : ℕ) → Stands k tokens from other b g → other ≤ end

-- the signs that are words of contexts and machines
abbrev pub is_unit_word : Sign → Bool
is_unit_word s.Context = true
is_unit_word s.Extends = true
is_unit_word s.Sets = true
is_unit_word s.Constants = true
is_unit_word s.Axioms = true
is_unit_word s.Theorem = true
is_unit_word s.End = true
is_unit_word s.Machine = true
is_unit_word s.Refines = true
is_unit_word s.Sees = true
is_unit_word s.Variables = true
is_unit_word s.Invariants = true
is_unit_word s.Variant = true
is_unit_word s.Events = true
is_unit_word s.Event = true
is_unit_word s.Any = true
is_unit_word s.Where = true
is_unit_word s.When = true
is_unit_word s.With = true
is_unit_word s.Begin = true
is_unit_word s.Then = true
is_unit_word s.Ordinary = true
is_unit_word s.Convergent = true
is_unit_word s.Anticipated = true
is_unit_word _ = false

-- neither a label nor one of these words: a formula never reaches past one
abbrev pub is_inside : TokenKind → Bool
is_inside (kind.Label x) = false
is_inside (kind.Sign sign) = not (is_unit_word sign)
is_inside _ = true

-- the stretch at the front: the tokens before the first label or word of contexts and machines
abbrev pub stretch : List Token → List Token
stretch ts = take_while (λ t. is_inside t.kind) ts

-- a connective, a relation, an operator, `(`, `[` or `~` stands at the front
abbrev pub Continues : List Token → Type 0
Continues [] = ⊥
Continues (t ∷ ts) = ((op : Operator) × IsSign t (operator_sign op)) ⊎ IsSign t s.Inverse

-- the end of the last token
abbrev pub end_of : List Token → ℕ
end_of [] = 0
end_of (t ∷ []) = t.end
end_of (t ∷ u ∷ ts) = end_of (u ∷ ts)

abbrev pub place_or : ℕ → List Token → ℕ
place_or end [] = end
place_or end (t ∷ ts) = t.start

-- the place of the token with this number, or the end of the last one
abbrev pub place_of : List Token → ℕ → ℕ
place_of tokens from = place_or (end_of tokens) (drop from tokens)

-- The cause of each fault; want of memory has none. A formula is too deep where the longest one is higher than 200; or the
-- reader stopped in a stretch of more than 200 tokens, where no formula begins, or what goes on with the longest one can't be read.
abbrev pub IsFaultOf : FormulaKind → List Token → ℕ → ParseFault → Type 0
IsFaultOf k tokens from (fault.Syntax at) = ((end : ℕ) (a : Ast) (h : ℕ) → Stands k tokens from end a h → ⊥) × (at ≡ place_of tokens from)
IsFaultOf k tokens from fault.TooDeep = (200 < length (stretch (drop from tokens)))
    × ((end : ℕ) (a : Ast) (h : ℕ) → IsLongest k tokens from end a h → h ≤ 200 → Continues (drop end tokens))
IsFaultOf k tokens from fault.Memory = ⊤
