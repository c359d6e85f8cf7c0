-- The tokens of a formula as it is written, and formulas without their places.
use Rattle.std.specs.Prelude.{ℕ, ◌≡◌, List, [], ◌∷◌, ◌++◌, map, codes, Option, Some, None, length}
use Rattle.std.specs.List.{flat_map}
use Rattle.std.specs.Fmt.{signed_decimal}
use Rattle.eb_signs.specs.declared.sign.Sign.{Sign}
use Rattle.eb_signs.specs.declared.sign.Sign.TheVariants as s
use Rattle.eb_lexer.specs.declared.token.Token.{Token}
use Rattle.eb_signs.specs.Signs.{sign_text}
use Rattle.eb_lexer.specs.Tokens.{IsTokens}
use Rattle.eb_lexer.specs.declared.token.TokenKind.{TokenKind}
use Rattle.eb_lexer.specs.declared.token.TokenKind.TheVariants as kind
use Rattle.eb_syntax.specs.declared.ast.Ast.{Ast}
use Rattle.eb_syntax.specs.declared.ast.Node.{Node-F}
use Rattle.eb_syntax.specs.declared.ast.Node.TheOpen as form
use Rattle.eb_syntax.specs.declared.ast.Node.TheVariants as node
use Rattle.eb_syntax.specs.declared.ast.Bound.{Bound}
use Rattle.eb_syntax.specs.declared.ast.Bound.TheVariants as bound
use Rattle.eb_syntax.specs.declared.ast.Mark.{Mark}
use Rattle.eb_syntax.specs.declared.ast.Mark.TheVariants as mark
use Rattle.eb_syntax.specs.declared.ast.Identifier.{Identifier}
use Rattle.eb_syntax.specs.Asts.{by_parts, at}
use Rattle.eb_parser.specs.declared.formulas.FormulaKind.{FormulaKind}
use Rattle.eb_parser.specs.Formulas.{Stands}
use Rattle.eb_parser.specs.Signs.{constant_sign, prefix_sign, call_sign, quantifier_sign, binder_sign, operator_sign, closing_sign}

abbrev pub sign : Sign → TokenKind
sign r = kind.Sign r

-- parted by commas
abbrev pub name_kinds : List Identifier → List TokenKind
name_kinds [] = []
name_kinds (x ∷ xs) = kind.Word x.name ∷ flat_map (λ y. sign s.Comma ∷ kind.Word y.name ∷ []) xs

abbrev pub mark_kind : Mark → TokenKind
mark_kind (mark.Identifier x) = kind.Word x.name
mark_kind mark.MapsTo = sign s.MapsTo
mark_kind mark.Open = sign s.LeftParenthesis
mark_kind mark.Close = sign s.RightParenthesis

abbrev pub bound_kinds : Bound → List TokenKind
bound_kinds (bound.Identifiers xs) = name_kinds xs
bound_kinds (bound.Pattern ms) = map mark_kind ms

-- parted by commas
abbrev pub row_kinds : List (List TokenKind) → List TokenKind
row_kinds [] = []
row_kinds (ts ∷ rows) = ts ++ flat_map (λ us. sign s.Comma ∷ us) rows

abbrev pub closing_kinds : Option Sign → List TokenKind
closing_kinds None = []
closing_kinds (Some r) = sign r ∷ []

abbrev pub kinds_step : Node-F (List TokenKind) (List TokenKind) → List TokenKind
kinds_step (form.Number n) = kind.Number n ∷ []
kinds_step (form.Identifier x) = kind.Word x ∷ []
kinds_step (form.Primed x) = kind.Primed x ∷ []
kinds_step (form.Constant c) = sign (constant_sign c) ∷ []
kinds_step (form.Prefix op ts) = sign (prefix_sign op) ∷ ts
kinds_step (form.Call op ts) = sign (call_sign op) ∷ sign s.LeftParenthesis ∷ (ts ++ (sign s.RightParenthesis ∷ []))
kinds_step (form.Parentheses ts) = sign s.LeftParenthesis ∷ (ts ++ (sign s.RightParenthesis ∷ []))
kinds_step (form.Inverse ts) = ts ++ (sign s.Inverse ∷ [])
kinds_step (form.Operator op ts us) = ts ++ (sign (operator_sign op) ∷ (us ++ closing_kinds (closing_sign op)))
kinds_step (form.Quantifier q xs ts) = sign (quantifier_sign q) ∷ (name_kinds xs ++ (sign s.Dot ∷ ts))
kinds_step (form.Binder op b ts us) = sign (binder_sign op) ∷ (bound_kinds b ++ (sign s.Dot ∷ (ts ++ (sign s.Bar ∷ us))))
kinds_step (form.Comprehension xs ts us) = sign s.LeftBrace ∷ (name_kinds xs ++ (sign s.Dot ∷ (ts ++ (sign s.Bar ∷ (us ++ (sign s.RightBrace ∷ []))))))
kinds_step (form.Builder ts us) = sign s.LeftBrace ∷ (ts ++ (sign s.Bar ∷ (us ++ (sign s.RightBrace ∷ []))))
kinds_step (form.Extension rows) = sign s.LeftBrace ∷ (row_kinds rows ++ (sign s.RightBrace ∷ []))
kinds_step (form.Partition rows) = sign s.Partition ∷ sign s.LeftParenthesis ∷ (row_kinds rows ++ (sign s.RightParenthesis ∷ []))

-- the tokens of a formula, without their places
abbrev pub kinds_of : Ast → List TokenKind
kinds_of = by_parts (List TokenKind) kinds_step

-- how a token is written: a number in decimal
abbrev pub kind_text : TokenKind → List ℕ
kind_text (kind.Word x) = x
kind_text (kind.Primed x) = x ++ codes "'"
kind_text (kind.Label x) = codes "@" ++ x
kind_text (kind.Number n) = signed_decimal n
kind_text (kind.Sign r) = sign_text r

-- the tokens as they are written, each with a blank behind it
abbrev pub text_of : List TokenKind → List ℕ
text_of ks = flat_map (λ k. kind_text k ++ codes " ") ks

-- the tokens have these kinds
abbrev pub HaveKinds : List Token → List TokenKind → Type 0
HaveKinds ts ks = map (λ t. t.kind) ts ≡ ks

abbrev pub unplaced_name : Identifier → Identifier
unplaced_name x = record { name = x.name; place = 0 }

abbrev pub unplaced_mark : Mark → Mark
unplaced_mark (mark.Identifier x) = mark.Identifier (unplaced_name x)
unplaced_mark mark.MapsTo = mark.MapsTo
unplaced_mark mark.Open = mark.Open
unplaced_mark mark.Close = mark.Close

abbrev pub unplaced_bound : Bound → Bound
unplaced_bound (bound.Identifiers xs) = bound.Identifiers (map unplaced_name xs)
unplaced_bound (bound.Pattern ms) = bound.Pattern (map unplaced_mark ms)

abbrev pub unplaced_step : Node-F Ast Ast → Ast
unplaced_step (form.Number n) = at 0 (node.Number n)
unplaced_step (form.Identifier x) = at 0 (node.Identifier x)
unplaced_step (form.Primed x) = at 0 (node.Primed x)
unplaced_step (form.Constant c) = at 0 (node.Constant c)
unplaced_step (form.Prefix op a) = at 0 (node.Prefix op a)
unplaced_step (form.Call op a) = at 0 (node.Call op a)
unplaced_step (form.Parentheses a) = at 0 (node.Parentheses a)
unplaced_step (form.Inverse a) = at 0 (node.Inverse a)
unplaced_step (form.Operator op a b) = at 0 (node.Operator op a b)
unplaced_step (form.Quantifier q xs a) = at 0 (node.Quantifier q (map unplaced_name xs) a)
unplaced_step (form.Binder op b p e) = at 0 (node.Binder op (unplaced_bound b) p e)
unplaced_step (form.Comprehension xs p e) = at 0 (node.Comprehension (map unplaced_name xs) p e)
unplaced_step (form.Builder e p) = at 0 (node.Builder e p)
unplaced_step (form.Extension es) = at 0 (node.Extension es)
unplaced_step (form.Partition es) = at 0 (node.Partition es)

-- the same formula with 0 for each place
abbrev pub unplaced : Ast → Ast
unplaced = by_parts Ast unplaced_step

-- the text's tokens are this formula, of the kind and the height, but for its places
pub record ReadsAs (k : FormulaKind) (text : List ℕ) (a : Ast) (h : ℕ) : Type 0 where
  pub tokens : List Token
  pub are : IsTokens tokens text
  pub tree : Ast
  pub stands : Stands k tokens 0 (length tokens) tree h
  pub same : unplaced tree ≡ unplaced a
