-- What a text of a model asks, and why it is refused. A text is judged in steps: its tokens, its units, their names, types, forms,
-- scope, the problems of its queries, their number; and last what isn't answered yet.
use Rattle.std.specs.Prelude.{◌≡◌, ◌⊎◌, ⊤, ℕ, true, false, ◌≤◌, List, [], length, Option, Some, None}
use Rattle.std.specs.Str.{IsUtf8}
use Rattle.eb_lexer.specs.declared.token.Token.{Token}
use Rattle.eb_lexer.specs.Tokens.{IsTokens, IsBadAt}
use Rattle.eb_parser.specs.declared.fault.ParseFault.{ParseFault}
use Rattle.eb_parser.specs.declared.fault.ParseFault.TheVariants as parsing
use Rattle.eb_syntax.specs.declared.units.EbUnit.{EbUnit}
use Rattle.eb_units.specs.Grammar.{Reads}
use Rattle.eb_units.specs.Faults as reading
use Rattle.eb_lower.specs.declared.fault.NameFault.{NameFault}
use Rattle.eb_lower.specs.declared.fault.NameFault.TheVariants as naming
use Rattle.eb_lower.specs.Names.{AreNamed}
use Rattle.eb_lower.specs.Names as names
use Rattle.eb_value.specs.declared.types.EbType.{EbType}
use Rattle.eb_model.specs.declared.model.EbModel.{EbModel}
use Rattle.eb_model.specs.Models.{IsModelOf}
use Rattle.eb_infer.specs.declared.fault.TypeFault.{TypeFault}
use Rattle.eb_infer.specs.declared.fault.TypeFault.TheVariants as typing
use Rattle.eb_infer.specs.Typings.{IsOnly}
use Rattle.eb_infer.specs.Typings as types
use Rattle.eb_forms.specs.Forms.{in_model}
use Rattle.scope_settings.specs.declared.limit.Limit.{Limit}
use Rattle.scope_settings.specs.Limits.{passed}
use Rattle.model_text.specs.declared.asked.Asked.{Asked}
use Rattle.model_text.specs.declared.asked.Wanted.{Wanted}
use Rattle.model_text.specs.declared.fault.TextFault.{TextFault}
use Rattle.model_text.specs.declared.fault.TextFault.TheVariants as fault
use Rattle.model_text.specs.declared.refusal.Refusal.{Refusal}
use Rattle.model_text.specs.declared.refusal.Refusal.TheVariants as refusal
use Rattle.model_text.specs.Asking.{queries, problem_passed, is_wanted, IsAnsweredToday, IsAskedBy}

-- The text's tokens are read as these units, of which no formula is higher than 200.
pub record AreUnits (text : List ℕ) (us : List EbUnit) : Type 0 where
  pub tokens : List Token
  pub are_tokens : IsTokens tokens text
  pub height : ℕ
  pub read : Reads tokens us height
  pub low : height ≤ 200

-- and their names are those of the language
pub record AreNamedUnits (text : List ℕ) (us : List EbUnit) : Type 0 where
  pub units : AreUnits text us
  pub named : AreNamed us

-- and the identifiers and marks of their model have these types, and no others
pub record AreTypedUnits (text : List ℕ) (us : List EbUnit) (m : EbModel) (types : List EbType) : Type 0 where
  pub named : AreNamedUnits text us
  pub is_model : IsModelOf us m
  pub only : IsOnly m types

-- and each form stands where it may
pub record AreFormedUnits (text : List ℕ) (us : List EbUnit) (m : EbModel) (types : List EbType) : Type 0 where
  pub typed : AreTypedUnits text us m types
  pub none : in_model types m ≡ None

-- and no limit of the scope and of the formulas is passed
pub record AreScopedUnits (text : List ℕ) (us : List EbUnit) (m : EbModel) (types : List EbType) : Type 0 where
  pub formed : AreFormedUnits text us m types
  pub none : passed us m ≡ None

-- and none of the problems of the queries
pub record AreLimitedUnits (text : List ℕ) (us : List EbUnit) (m : EbModel) (types : List EbType) : Type 0 where
  pub scoped : AreScopedUnits text us m types
  pub none : problem_passed us m types ≡ None

-- and there are as many queries as are wanted
pub record AreAskingUnits (wanted : Wanted) (text : List ℕ) (us : List EbUnit) (m : EbModel) (types : List EbType) : Type 0 where
  pub limited : AreLimitedUnits text us m types
  pub count : is_wanted wanted (length (queries us)) ≡ true

-- What the text asks, which is answered today.
pub record IsText (wanted : Wanted) (text : List ℕ) (a : Asked) : Type 0 where
  pub units : List EbUnit
  pub asking : AreAskingUnits wanted text units a.model a.types
  pub today : IsAnsweredToday units a.model a.types
  pub asked : IsAskedBy units a

-- the text has tokens with this fault
abbrev pub HasTokens : List ℕ → ParseFault → Type 0
HasTokens text fault = (ts : List Token) × IsTokens ts text × reading.IsFaultOf ts fault

-- the text has units with this fault of their names
abbrev pub HasUnits : List ℕ → NameFault → Type 0
HasUnits text fault = (us : List EbUnit) × AreUnits text us × names.IsFaultOf us fault

-- the text has a model with this fault of its types
abbrev pub HasNamedUnits : List ℕ → TypeFault → Type 0
HasNamedUnits text fault = (us : List EbUnit) × AreNamedUnits text us × (m : EbModel) × IsModelOf us m × types.IsFaultOf m fault

-- a text with units that have P, by their model and its types
pub record Has (Units : List EbUnit → EbModel → List EbType → Type 0) (P : List EbUnit → EbModel → List EbType → Type 0) : Type 0 where
  pub units : List EbUnit
  pub model : EbModel
  pub types : List EbType
  pub are : Units units model types
  pub have : P units model types

-- this is the first limit that is passed
abbrev pub PassesLimit : List ℕ → Limit → Type 0
PassesLimit text l = Has (AreFormedUnits text) (λ us m types. passed us m ≡ Some l) ⊎ Has (AreScopedUnits text) (λ us m types. problem_passed us m types ≡ Some l)

-- why a text of a model is refused, where so many queries are wanted
abbrev pub RefusesText : Wanted → List ℕ → Refusal → Type 0
RefusesText wanted text refusal.NotUtf8 = IsUtf8 text → ⊥
RefusesText wanted text (refusal.BadToken place) = IsBadAt place text
RefusesText wanted text refusal.TooDeep = HasTokens text parsing.TooDeep
RefusesText wanted text (refusal.Syntax place) = HasTokens text (parsing.Syntax place)
RefusesText wanted text (refusal.Unsupported place) = HasUnits text (naming.Unsupported place)
RefusesText wanted text (refusal.DuplicateName name) = HasUnits text (naming.DuplicateName name)
RefusesText wanted text (refusal.UnknownName name) = HasUnits text (naming.UnknownName name)
RefusesText wanted text refusal.TypeClash = HasNamedUnits text typing.Clash
RefusesText wanted text refusal.TypeOpen = HasNamedUnits text typing.Open
RefusesText wanted text (refusal.InfiniteSet place) = Has (AreTypedUnits text) (λ us m types. in_model types m ≡ Some place)
RefusesText wanted text (refusal.ScopeBad limit) = PassesLimit text limit
RefusesText wanted text refusal.QueryCount = Has (AreLimitedUnits text) (λ us m types. is_wanted wanted (length (queries us)) ≡ false)
RefusesText wanted text refusal.NotYet = Has (AreAskingUnits wanted text) (λ us m types. IsAnsweredToday us m types → ⊥)
RefusesText wanted text refusal.Words = ⊥
RefusesText wanted text refusal.TooLong = ⊥

-- why a text asks nothing that is answered
abbrev pub IsFaultOf : Wanted → List ℕ → TextFault → Type 0
IsFaultOf wanted text (fault.Refused refusal) = RefusesText wanted text refusal
IsFaultOf wanted text fault.Memory = ⊤

-- and however many queries are wanted
abbrev pub IsAlwaysFaultOf : List ℕ → TextFault → Type 0
IsAlwaysFaultOf text f = (wanted : Wanted) → IsFaultOf wanted text f

-- why these queries aren't answered
abbrev pub IsCountFault : Wanted → List EbUnit → EbModel → List EbType → TextFault → Type 0
IsCountFault wanted us m types (fault.Refused refusal.QueryCount) = is_wanted wanted (length (queries us)) ≡ false
IsCountFault wanted us m types (fault.Refused refusal.NotYet) = (is_wanted wanted (length (queries us)) ≡ true) × (IsAnsweredToday us m types → ⊥)
IsCountFault wanted us m types fault.Memory = ⊤
IsCountFault wanted us m types _ = ⊥
