-- The causes of faults.
use Rattle.std.specs.Prelude.{◌≡◌, ◌<◌, ℕ, List, length, drop, ⊤}
use Rattle.eb_lexer.specs.declared.token.Token.{Token}
use Rattle.eb_syntax.specs.declared.units.EbUnit.{EbUnit}
use Rattle.eb_parser.specs.declared.fault.ParseFault.{ParseFault}
use Rattle.eb_parser.specs.declared.fault.ParseFault.TheVariants as fault
use Rattle.eb_parser.specs.Formulas.{stretch, place_of}
use Rattle.eb_units.specs.Grammar.{Reads}

-- the start of some token, or the end of the last one
abbrev pub IsPlace : List Token → ℕ → Type 0
IsPlace ts at = (i : ℕ) × (at ≡ place_of ts i)

-- some stretch has more than 200 tokens
abbrev pub HasLongStretch : List Token → Type 0
HasLongStretch ts = (i : ℕ) × (200 < length (stretch (drop i ts)))

-- The cause of each fault; want of memory has none. The text has no reading; or every reading has a formula higher than 200.
abbrev pub IsFaultOf : List Token → ParseFault → Type 0
IsFaultOf ts (fault.Syntax at) = ((us : List EbUnit) (h : ℕ) → Reads ts us h → ⊥) × IsPlace ts at
IsFaultOf ts fault.TooDeep = ((us : List EbUnit) (h : ℕ) → Reads ts us h → 200 < h) × HasLongStretch ts
IsFaultOf ts fault.Memory = ⊤
