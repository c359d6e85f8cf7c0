-- The formula that the reader finds at the front of tokens. No definition rests on it: it serves proofs of readers that read more
-- than formulas, and `FrontLaws` says what it answers.
use Rattle.std.specs.Prelude.{◌≡◌, ℕ, ◌<◌, ◌≤◌, if◌then◌else◌, List, ◌∷◌, length, drop, Result, Ok, Err, ⊤}
use Rattle.eb_signs.specs.declared.sign.Sign.TheVariants as s
use Rattle.eb_lexer.specs.declared.token.Token.{Token}
use Rattle.eb_lexer.specs.declared.token.TokenKind.TheVariants as kind
use Rattle.eb_syntax.specs.declared.ast.Ast.{Ast}
use Rattle.eb_parser.specs.declared.part.Part.{Part}
use Rattle.eb_parser.specs.declared.fault.Fault.{Fault}
use Rattle.eb_parser.specs.declared.fault.Fault.TheVariants.{Syntax, TooDeep}
use Rattle.eb_parser.specs.declared.fault.ParseFault.{ParseFault}
use Rattle.eb_parser.specs.declared.fault.ParseFault.TheVariants as fault
use Rattle.eb_parser.specs.declared.formulas.FormulaKind.{FormulaKind}
use Rattle.eb_parser.specs.Signs.{IsSign}
use Rattle.eb_parser.specs.Formulas.{fits, least_of, Continues}
use Rattle.eb_parser.specs.Fronts.{Front}
use Rattle.eb_parser.specs.steps.Climbing.{◌>>=◌, read}

abbrev pub of_kind : FormulaKind → Part × List Token → Result (Ast × List Token) Fault
of_kind k y = if fits k (y.0).level then Ok ((y.0).tree, y.1) else Err Syntax

-- the formula of the kind that the reader finds at the front, lower than the number, and the tokens behind it
unfoldable pub formula_at : ℕ → FormulaKind → List Token → Result (Ast × List Token) Fault
formula_at n k ts = read n (least_of k) ts >>= of_kind k

-- what was answered, with the number of the token behind it, is what a reader finds, unless memory ran out
abbrev pub Finds : {A : Type 0} → List Token → Result (A × ℕ) ParseFault → Result (A × List Token) Fault → Type 0
Finds tokens (Ok x) read = read ≡ Ok (x.0, drop x.1 tokens)
Finds tokens (Err (fault.Syntax at)) read = read ≡ Err Syntax
Finds tokens (Err fault.TooDeep) read = read ≡ Err TooDeep
Finds tokens (Err fault.Memory) read = ⊤

-- What the reader finds is a formula at the front. A formula at the front that nothing goes on with is found, or is too deep
-- where it is not lower than the number. No formula is empty, and none begins with a label or `:`.
pub record FrontLaws : Type 0 where
  pub sound : (n : ℕ) (k : FormulaKind) (ts rest : List Token) (a : Ast) → formula_at n k ts ≡ Ok (a, rest) → (h : ℕ) × (h < n) × Front k ts a h rest
  pub found : (n : ℕ) (k : FormulaKind) (ts rest : List Token) (a : Ast) (h : ℕ) → Front k ts a h rest → (Continues rest → ⊥) → h < n → formula_at n k ts ≡ Ok (a, rest)
  pub deep : (n : ℕ) (k : FormulaKind) (ts rest : List Token) (a : Ast) (h : ℕ) → Front k ts a h rest → (Continues rest → ⊥) → n ≤ h → formula_at n k ts ≡ Err TooDeep
  pub shorter : (k : FormulaKind) (ts rest : List Token) (a : Ast) (h : ℕ) → Front k ts a h rest → length rest < length ts
  pub no_label : (k : FormulaKind) (t : Token) (ts rest : List Token) (a : Ast) (h : ℕ) (x : List ℕ) → Front k (t ∷ ts) a h rest → t.kind ≡ kind.Label x → ⊥
  pub no_colon : (k : FormulaKind) (t : Token) (ts rest : List Token) (a : Ast) (h : ℕ) → Front k (t ∷ ts) a h rest → IsSign t s.MemberOf → ⊥
