-- From the tokens and units of a text to what it holds, and why it is refused.
use Rattle.std.proofs.Common.{◌≡◌, ℕ, ◌+◌, ◌≤◌, List, [], ◌∷◌, length, arith, inl, inr}
use Rattle.eb_lexer.specs.declared.token.Token.{Token}
use Rattle.eb_lexer.specs.declared.token.LexFault.{LexFault}
use Rattle.eb_lexer.specs.declared.token.LexFault.TheVariants as lexing
use Rattle.eb_lexer.specs.Tokens.{IsTokens, LieFrom}
use Rattle.eb_lexer.specs.Tokens as lexer
use Rattle.eb_parser.specs.declared.fault.ParseFault.{ParseFault}
use Rattle.eb_parser.specs.declared.fault.ParseFault.TheVariants as parsing
use Rattle.eb_syntax.specs.declared.units.EbUnit.{EbUnit}
use Rattle.eb_units.specs.Grammar.{Reads}
use Rattle.eb_units.specs.Faults as reading
use Rattle.eb_lower.specs.declared.fault.NameFault.{NameFault}
use Rattle.eb_lower.specs.declared.fault.NameFault.TheVariants as naming
use Rattle.eb_lower.specs.Names as names
use Rattle.eb_model.specs.declared.model.EbModel.{EbModel}
use Rattle.eb_model.specs.Models.{IsModelOf}
use Rattle.eb_infer.specs.declared.fault.TypeFault.{TypeFault}
use Rattle.eb_infer.specs.declared.fault.TypeFault.TheVariants as typing
use Rattle.eb_infer.specs.Typings as types
use Rattle.eb_value.specs.declared.types.EbType.{EbType}
use Rattle.scope_settings.specs.declared.fault.ScopeFault.{ScopeFault}
use Rattle.scope_settings.specs.declared.fault.ScopeFault.TheVariants as scoping
use Rattle.scope_settings.specs.Faults as scopes
use Rattle.cbc_query.specs.declared.fault.QueryFault.{QueryFault}
use Rattle.cbc_query.specs.declared.fault.QueryFault.TheVariants as asking
use Rattle.model_text.specs.Asking.{IsProblemFault}
use Rattle.model_text.specs.Texts.{AreUnits, AreNamedUnits, AreFormedUnits, AreScopedUnits, IsAlwaysFaultOf}
use Rattle.model_text.specs.steps.Faults.{lexing_fault, parsing_fault, naming_fault, typing_fault, scope_fault, query_fault}
use Rattle.model_text.specs.declared.fault.TextFault.{TextFault}

few_from : (ts : List Token) (at : ℕ) (text : List ℕ) → LieFrom at text ts → at + length ts ≤ length text
few_from [] at text h = omega arith
few_from (t ∷ ts) at text h = let rest = few_from ts t.end text h.3 in omega arith

-- a text has no more tokens than bytes
pub few_tokens : (ts : List Token) (text : List ℕ) → LieFrom 0 text ts → length ts ≤ length text
few_tokens ts text h = let few = few_from ts 0 text h in omega arith

pub are_units : (text : List ℕ) (ts : List Token) (us : List EbUnit) → IsTokens ts text → (h : ℕ) × Reads ts us h × (h ≤ 200) → AreUnits text us
are_units text ts us is found = record { tokens = ts; are_tokens = is; height = found.0; read = found.1; low = found.2 }

-- the cause of each fault

pub lexing_faults : (text : List ℕ) (fault : LexFault) → lexer.IsFaultOf text fault → IsAlwaysFaultOf text (lexing_fault fault)
lexing_faults text lexing.NotUtf8 h = λ wanted. h
lexing_faults text (lexing.BadToken place) h = λ wanted. h
lexing_faults text lexing.Memory h = λ wanted. tt

pub parsing_faults : (text : List ℕ) (ts : List Token) (fault : ParseFault) → IsTokens ts text → reading.IsFaultOf ts fault → IsAlwaysFaultOf text (parsing_fault fault)
parsing_faults text ts (parsing.Syntax place) is h = λ wanted. (ts, is, h)
parsing_faults text ts parsing.TooDeep is h = λ wanted. (ts, is, h)
parsing_faults text ts parsing.Memory is h = λ wanted. tt

pub naming_faults : (text : List ℕ) (us : List EbUnit) (fault : NameFault) → AreUnits text us → names.IsFaultOf us fault → IsAlwaysFaultOf text (naming_fault fault)
naming_faults text us (naming.Unsupported place) are h = λ wanted. (us, are, h)
naming_faults text us (naming.DuplicateName name) are h = λ wanted. (us, are, h)
naming_faults text us (naming.UnknownName name) are h = λ wanted. (us, are, h)
naming_faults text us naming.Memory are h = λ wanted. tt

pub typing_faults : (text : List ℕ) (us : List EbUnit) (model : EbModel) (fault : TypeFault) → AreNamedUnits text us → IsModelOf us model → types.IsFaultOf model fault → IsAlwaysFaultOf text (typing_fault fault)
typing_faults text us model typing.Clash are is h = λ wanted. (us, are, model, is, h)
typing_faults text us model typing.Open are is h = λ wanted. (us, are, model, is, h)
typing_faults text us model typing.Memory are is h = λ wanted. tt

pub scope_faults : (text : List ℕ) (us : List EbUnit) (m : EbModel) (types : List EbType) (fault : ScopeFault) → AreFormedUnits text us m types → scopes.IsFaultOf us m fault → IsAlwaysFaultOf text (scope_fault fault)
scope_faults text us m types (scoping.Limit l) are h = λ wanted. inl (record { units = us; model = m; types = types; are = are; have = h })
scope_faults text us m types scoping.Memory are h = λ wanted. tt

pub query_faults : (text : List ℕ) (us : List EbUnit) (m : EbModel) (types : List EbType) (fault : QueryFault) → AreScopedUnits text us m types → IsProblemFault us m types fault → IsAlwaysFaultOf text (query_fault fault)
query_faults text us m types (asking.Limit l) are h = λ wanted. inr (record { units = us; model = m; types = types; are = are; have = h })
query_faults text us m types asking.Memory are h = λ wanted. tt
