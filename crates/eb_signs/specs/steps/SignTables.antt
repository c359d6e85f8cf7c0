-- The spellings of signs by their number of characters, and the words among them, as the code tells them apart.
use Rattle.std.specs.Prelude.{ℕ, List, [], ◌∷◌, ◌++◌, codes, Option, Some, None, if◌then◌else◌}
use Rattle.std.specs.Str.{bytes_eq}
use Rattle.eb_signs.specs.declared.sign.Sign.{Sign}
use Rattle.eb_signs.specs.declared.sign.Sign.TheVariants as s

-- the sign of a spelling
abbrev pub sign_in : List ℕ → List (List ℕ × Sign) → Option Sign
sign_in w [] = None
sign_in w (row ∷ rows) = if bytes_eq w row.0 then Some row.1 else sign_in w rows

-- the words among the operators, constants and set names
unfoldable pub operator_words : List (List ℕ × Sign)
operator_words =
    (codes "or", s.Or) ∷
    (codes "not", s.Not) ∷
    (codes "true", s.Truth) ∷
    (codes "false", s.Falsity) ∷
    (codes "mod", s.Modulo) ∷
    (codes "INT", s.Integers) ∷
    (codes "NAT", s.Naturals) ∷
    (codes "NAT1", s.PositiveNaturals) ∷
    (codes "POW", s.PowerSet) ∷
    (codes "POW1", s.NonemptyPowerSet) ∷
    (codes "UNION", s.QuantifiedUnion) ∷
    (codes "INTER", s.QuantifiedIntersection) ∷
    (codes "circ", s.BackwardComposition) ∷
    []

-- the other words of formulas
unfoldable pub formula_words : List (List ℕ × Sign)
formula_words =
    (codes "BOOL", s.Booleans) ∷
    (codes "TRUE", s.TrueValue) ∷
    (codes "FALSE", s.FalseValue) ∷
    (codes "card", s.Cardinality) ∷
    (codes "min", s.Minimum) ∷
    (codes "max", s.Maximum) ∷
    (codes "dom", s.Domain) ∷
    (codes "ran", s.Range) ∷
    (codes "union", s.GeneralizedUnion) ∷
    (codes "inter", s.GeneralizedIntersection) ∷
    (codes "bool", s.BoolOf) ∷
    (codes "finite", s.Finite) ∷
    (codes "partition", s.Partition) ∷
    (codes "id", s.Identity) ∷
    (codes "prj1", s.FirstProjection) ∷
    (codes "prj2", s.SecondProjection) ∷
    []

-- the words of contexts and machines
unfoldable pub unit_words : List (List ℕ × Sign)
unit_words =
    (codes "context", s.Context) ∷
    (codes "extends", s.Extends) ∷
    (codes "sets", s.Sets) ∷
    (codes "constants", s.Constants) ∷
    (codes "axioms", s.Axioms) ∷
    (codes "theorem", s.Theorem) ∷
    (codes "end", s.End) ∷
    (codes "machine", s.Machine) ∷
    (codes "refines", s.Refines) ∷
    (codes "sees", s.Sees) ∷
    (codes "variables", s.Variables) ∷
    (codes "invariants", s.Invariants) ∷
    (codes "variant", s.Variant) ∷
    []

-- the words of events
unfoldable pub event_words : List (List ℕ × Sign)
event_words =
    (codes "events", s.Events) ∷
    (codes "event", s.Event) ∷
    (codes "any", s.Any) ∷
    (codes "where", s.Where) ∷
    (codes "when", s.When) ∷
    (codes "with", s.With) ∷
    (codes "begin", s.Begin) ∷
    (codes "then", s.Then) ∷
    (codes "ordinary", s.Ordinary) ∷
    (codes "convergent", s.Convergent) ∷
    (codes "anticipated", s.Anticipated) ∷
    []

-- one ASCII character
unfoldable pub ascii_ones : List (List ℕ × Sign)
ascii_ones =
    (codes "&", s.And) ∷
    (codes "!", s.ForAll) ∷
    (codes "#", s.Exists) ∷
    (codes ".", s.Dot) ∷
    (codes "=", s.Equal) ∷
    (codes ":", s.MemberOf) ∷
    (codes "<", s.Less) ∷
    (codes ">", s.Greater) ∷
    (codes "+", s.Plus) ∷
    (codes "-", s.Minus) ∷
    (codes "*", s.Times) ∷
    (codes "/", s.Divide) ∷
    (codes "^", s.Power) ∷
    (codes "\\", s.Difference) ∷
    (codes "%", s.Lambda) ∷
    (codes "|", s.Bar) ∷
    (codes "{", s.LeftBrace) ∷
    (codes "}", s.RightBrace) ∷
    (codes "(", s.LeftParenthesis) ∷
    (codes ")", s.RightParenthesis) ∷
    (codes "[", s.LeftBracket) ∷
    (codes "]", s.RightBracket) ∷
    (codes ",", s.Comma) ∷
    (codes ";", s.ForwardComposition) ∷
    (codes "~", s.Inverse) ∷
    []

-- one other character: connectives, relations and arithmetic
unfoldable pub logic_ones : List (List ℕ × Sign)
logic_ones =
    (0x2227 ∷ [], s.And) ∷
    (0x2228 ∷ [], s.Or) ∷
    (0x21D2 ∷ [], s.Implies) ∷
    (0x21D4 ∷ [], s.Equivalent) ∷
    (0x00AC ∷ [], s.Not) ∷
    (0x2200 ∷ [], s.ForAll) ∷
    (0x2203 ∷ [], s.Exists) ∷
    (0x00B7 ∷ [], s.Dot) ∷
    (0x22A4 ∷ [], s.Truth) ∷
    (0x22A5 ∷ [], s.Falsity) ∷
    (0x2260 ∷ [], s.Unequal) ∷
    (0x2208 ∷ [], s.MemberOf) ∷
    (0x2209 ∷ [], s.NotMemberOf) ∷
    (0x2286 ∷ [], s.SubsetOf) ∷
    (0x2288 ∷ [], s.NotSubsetOf) ∷
    (0x2282 ∷ [], s.ProperSubsetOf) ∷
    (0x2284 ∷ [], s.NotProperSubsetOf) ∷
    (0x2264 ∷ [], s.AtMost) ∷
    (0x2265 ∷ [], s.AtLeast) ∷
    (0x2212 ∷ [], s.Minus) ∷
    (0x2217 ∷ [], s.Times) ∷
    (0x00F7 ∷ [], s.Divide) ∷
    (0x2025 ∷ [], s.UpTo) ∷
    []

-- one other character: sets and actions
unfoldable pub set_ones : List (List ℕ × Sign)
set_ones =
    (0x21A6 ∷ [], s.MapsTo) ∷
    (0x222A ∷ [], s.Union) ∷
    (0x2229 ∷ [], s.Intersection) ∷
    (0x2216 ∷ [], s.Difference) ∷
    (0x00D7 ∷ [], s.Product) ∷
    (0x03BB ∷ [], s.Lambda) ∷
    (0x2223 ∷ [], s.Bar) ∷
    (0x2205 ∷ [], s.EmptySet) ∷
    (0x2124 ∷ [], s.Integers) ∷
    (0x2115 ∷ [], s.Naturals) ∷
    (0x2119 ∷ [], s.PowerSet) ∷
    (0x22C3 ∷ [], s.QuantifiedUnion) ∷
    (0x22C2 ∷ [], s.QuantifiedIntersection) ∷
    (0x2254 ∷ [], s.Becomes) ∷
    []

-- one other character: arrows and operators on relations
unfoldable pub relation_ones : List (List ℕ × Sign)
relation_ones =
    (0x2194 ∷ [], s.Relation) ∷
    (0xE100 ∷ [], s.TotalRelation) ∷
    (0xE101 ∷ [], s.SurjectiveRelation) ∷
    (0xE102 ∷ [], s.TotalSurjectiveRelation) ∷
    (0x21F8 ∷ [], s.PartialFunction) ∷
    (0x2192 ∷ [], s.TotalFunction) ∷
    (0x2914 ∷ [], s.PartialInjection) ∷
    (0x21A3 ∷ [], s.TotalInjection) ∷
    (0x2900 ∷ [], s.PartialSurjection) ∷
    (0x21A0 ∷ [], s.TotalSurjection) ∷
    (0x2916 ∷ [], s.Bijection) ∷
    (0x2218 ∷ [], s.BackwardComposition) ∷
    (0x25C1 ∷ [], s.DomainRestriction) ∷
    (0x2A64 ∷ [], s.DomainSubtraction) ∷
    (0x25B7 ∷ [], s.RangeRestriction) ∷
    (0x2A65 ∷ [], s.RangeSubtraction) ∷
    (0xE103 ∷ [], s.Override) ∷
    (0x2297 ∷ [], s.DirectProduct) ∷
    (0x2225 ∷ [], s.ParallelProduct) ∷
    (0x223C ∷ [], s.Inverse) ∷
    []

-- two characters
unfoldable pub twos : List (List ℕ × Sign)
twos =
    (codes "=>", s.Implies) ∷
    (codes "/=", s.Unequal) ∷
    (codes "/:", s.NotMemberOf) ∷
    (codes "<:", s.SubsetOf) ∷
    (codes "<=", s.AtMost) ∷
    (codes ">=", s.AtLeast) ∷
    (codes "..", s.UpTo) ∷
    (codes "\\/", s.Union) ∷
    (codes "/\\", s.Intersection) ∷
    (codes "**", s.Product) ∷
    (codes "{}", s.EmptySet) ∷
    (0x2115 ∷ 49 ∷ [], s.PositiveNaturals) ∷
    (0x2119 ∷ 49 ∷ [], s.NonemptyPowerSet) ∷
    (codes "<|", s.DomainRestriction) ∷
    (codes "|>", s.RangeRestriction) ∷
    (codes "<+", s.Override) ∷
    (codes "><", s.DirectProduct) ∷
    (codes "||", s.ParallelProduct) ∷
    (codes ":=", s.Becomes) ∷
    (codes "::", s.BecomesMember) ∷
    (58 ∷ 0x2208 ∷ [], s.BecomesMember) ∷
    (codes ":|", s.BecomesSuchThat) ∷
    (58 ∷ 0x2223 ∷ [], s.BecomesSuchThat) ∷
    []

-- three characters
unfoldable pub threes : List (List ℕ × Sign)
threes =
    (codes "<=>", s.Equivalent) ∷
    (codes "/<:", s.NotSubsetOf) ∷
    (codes "<<:", s.ProperSubsetOf) ∷
    (codes "|->", s.MapsTo) ∷
    (codes "<->", s.Relation) ∷
    (codes "+->", s.PartialFunction) ∷
    (codes "-->", s.TotalFunction) ∷
    (codes ">+>", s.PartialInjection) ∷
    (codes ">->", s.TotalInjection) ∷
    (codes "<<|", s.DomainSubtraction) ∷
    (codes "|>>", s.RangeSubtraction) ∷
    []

-- four characters
unfoldable pub fours : List (List ℕ × Sign)
fours =
    (codes "/<<:", s.NotProperSubsetOf) ∷
    (codes "<<->", s.TotalRelation) ∷
    (codes "<->>", s.SurjectiveRelation) ∷
    (codes "+->>", s.PartialSurjection) ∷
    (codes "-->>", s.TotalSurjection) ∷
    (codes ">->>", s.Bijection) ∷
    []

-- five characters
unfoldable pub fives : List (List ℕ × Sign)
fives =
    (codes "<<->>", s.TotalSurjectiveRelation) ∷
    []

-- the signs that are words
unfoldable pub words : List (List ℕ × Sign)
words = operator_words ++ (formula_words ++ (unit_words ++ event_words))

-- the signs of one character
unfoldable pub one_signs : List (List ℕ × Sign)
one_signs = ascii_ones ++ (logic_ones ++ (set_ones ++ relation_ones))

-- the sign of a spelling that is no word, by its number of characters
unfoldable pub symbol_in : List ℕ → Option Sign
symbol_in [] = None
symbol_in (a ∷ []) = sign_in (a ∷ []) one_signs
symbol_in (a ∷ b ∷ []) = sign_in (a ∷ b ∷ []) twos
symbol_in (a ∷ b ∷ c ∷ []) = sign_in (a ∷ b ∷ c ∷ []) threes
symbol_in (a ∷ b ∷ c ∷ d ∷ []) = sign_in (a ∷ b ∷ c ∷ d ∷ []) fours
symbol_in (a ∷ b ∷ c ∷ d ∷ e ∷ []) = sign_in (a ∷ b ∷ c ∷ d ∷ e ∷ []) fives
symbol_in (a ∷ b ∷ c ∷ d ∷ e ∷ f ∷ more) = None
