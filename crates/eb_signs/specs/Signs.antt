-- The signs of the Event-B mathematical language and how each is spelled, in characters.
use Rattle.std.specs.Prelude.{ℕ, Bool, false, ◌&&◌, ◌||◌, nat_le, List, [], ◌∷◌, codes, Option, Some, None, if◌then◌else◌}
use Rattle.std.specs.List.{list_any}
use Rattle.std.specs.Str.{bytes_eq}
use denote.Enum.Bare.{sameb}
use Rattle.eb_signs.specs.contracts.sign.Sign.{the_type}
use Rattle.eb_signs.specs.declared.sign.Sign.{Sign}
use Rattle.eb_signs.specs.declared.sign.Sign.TheVariants as s

-- each sign with its spellings, the ASCII one first
unfoldable pub signs : List (Sign × List (List ℕ))
signs =
    -- connectives
    (s.And, codes "&" ∷ (0x2227 ∷ []) ∷ []) ∷  -- ∧
    (s.Or, codes "or" ∷ (0x2228 ∷ []) ∷ []) ∷  -- ∨
    (s.Implies, codes "=>" ∷ (0x21D2 ∷ []) ∷ []) ∷  -- ⇒
    (s.Equivalent, codes "<=>" ∷ (0x21D4 ∷ []) ∷ []) ∷  -- ⇔
    (s.Not, codes "not" ∷ (0x00AC ∷ []) ∷ []) ∷  -- ¬
    (s.ForAll, codes "!" ∷ (0x2200 ∷ []) ∷ []) ∷  -- ∀
    (s.Exists, codes "#" ∷ (0x2203 ∷ []) ∷ []) ∷  -- ∃
    (s.Dot, codes "." ∷ (0x00B7 ∷ []) ∷ []) ∷  -- ·
    (s.Truth, codes "true" ∷ (0x22A4 ∷ []) ∷ []) ∷  -- ⊤
    (s.Falsity, codes "false" ∷ (0x22A5 ∷ []) ∷ []) ∷  -- ⊥
    -- relations
    (s.Equal, codes "=" ∷ []) ∷
    (s.Unequal, codes "/=" ∷ (0x2260 ∷ []) ∷ []) ∷  -- ≠
    (s.MemberOf, codes ":" ∷ (0x2208 ∷ []) ∷ []) ∷  -- ∈
    (s.NotMemberOf, codes "/:" ∷ (0x2209 ∷ []) ∷ []) ∷  -- ∉
    (s.SubsetOf, codes "<:" ∷ (0x2286 ∷ []) ∷ []) ∷  -- ⊆
    (s.NotSubsetOf, codes "/<:" ∷ (0x2288 ∷ []) ∷ []) ∷  -- ⊈
    (s.ProperSubsetOf, codes "<<:" ∷ (0x2282 ∷ []) ∷ []) ∷  -- ⊂
    (s.NotProperSubsetOf, codes "/<<:" ∷ (0x2284 ∷ []) ∷ []) ∷  -- ⊄
    (s.Less, codes "<" ∷ []) ∷
    (s.AtMost, codes "<=" ∷ (0x2264 ∷ []) ∷ []) ∷  -- ≤
    (s.Greater, codes ">" ∷ []) ∷
    (s.AtLeast, codes ">=" ∷ (0x2265 ∷ []) ∷ []) ∷  -- ≥
    -- arithmetic
    (s.Plus, codes "+" ∷ []) ∷
    (s.Minus, codes "-" ∷ (0x2212 ∷ []) ∷ []) ∷  -- −
    (s.Times, codes "*" ∷ (0x2217 ∷ []) ∷ []) ∷  -- ∗
    (s.Divide, codes "/" ∷ (0x00F7 ∷ []) ∷ []) ∷  -- ÷
    (s.Modulo, codes "mod" ∷ []) ∷
    (s.Power, codes "^" ∷ []) ∷
    (s.UpTo, codes ".." ∷ (0x2025 ∷ []) ∷ []) ∷  -- ‥
    -- sets
    (s.MapsTo, codes "|->" ∷ (0x21A6 ∷ []) ∷ []) ∷  -- ↦
    (s.Union, codes "\\/" ∷ (0x222A ∷ []) ∷ []) ∷  -- ∪
    (s.Intersection, codes "/\\" ∷ (0x2229 ∷ []) ∷ []) ∷  -- ∩
    (s.Difference, codes "\\" ∷ (0x2216 ∷ []) ∷ []) ∷  -- ∖
    (s.Product, codes "**" ∷ (0x00D7 ∷ []) ∷ []) ∷  -- ×
    (s.Lambda, codes "%" ∷ (0x03BB ∷ []) ∷ []) ∷  -- λ
    (s.Bar, codes "|" ∷ (0x2223 ∷ []) ∷ []) ∷  -- ∣
    (s.LeftBrace, codes "{" ∷ []) ∷
    (s.RightBrace, codes "}" ∷ []) ∷
    (s.EmptySet, codes "{}" ∷ (0x2205 ∷ []) ∷ []) ∷  -- ∅
    (s.Integers, codes "INT" ∷ (0x2124 ∷ []) ∷ []) ∷  -- ℤ
    (s.Naturals, codes "NAT" ∷ (0x2115 ∷ []) ∷ []) ∷  -- ℕ
    (s.PositiveNaturals, codes "NAT1" ∷ (0x2115 ∷ 49 ∷ []) ∷ []) ∷  -- ℕ1
    (s.PowerSet, codes "POW" ∷ (0x2119 ∷ []) ∷ []) ∷  -- ℙ
    (s.NonemptyPowerSet, codes "POW1" ∷ (0x2119 ∷ 49 ∷ []) ∷ []) ∷  -- ℙ1
    (s.QuantifiedUnion, codes "UNION" ∷ (0x22C3 ∷ []) ∷ []) ∷  -- ⋃
    (s.QuantifiedIntersection, codes "INTER" ∷ (0x22C2 ∷ []) ∷ []) ∷  -- ⋂
    (s.LeftParenthesis, codes "(" ∷ []) ∷
    (s.RightParenthesis, codes ")" ∷ []) ∷
    (s.LeftBracket, codes "[" ∷ []) ∷
    (s.RightBracket, codes "]" ∷ []) ∷
    (s.Comma, codes "," ∷ []) ∷
    -- arrows
    (s.Relation, codes "<->" ∷ (0x2194 ∷ []) ∷ []) ∷  -- ↔
    (s.TotalRelation, codes "<<->" ∷ (0xE100 ∷ []) ∷ []) ∷
    (s.SurjectiveRelation, codes "<->>" ∷ (0xE101 ∷ []) ∷ []) ∷
    (s.TotalSurjectiveRelation, codes "<<->>" ∷ (0xE102 ∷ []) ∷ []) ∷
    (s.PartialFunction, codes "+->" ∷ (0x21F8 ∷ []) ∷ []) ∷  -- ⇸
    (s.TotalFunction, codes "-->" ∷ (0x2192 ∷ []) ∷ []) ∷  -- →
    (s.PartialInjection, codes ">+>" ∷ (0x2914 ∷ []) ∷ []) ∷  -- ⤔
    (s.TotalInjection, codes ">->" ∷ (0x21A3 ∷ []) ∷ []) ∷  -- ↣
    (s.PartialSurjection, codes "+->>" ∷ (0x2900 ∷ []) ∷ []) ∷  -- ⤀
    (s.TotalSurjection, codes "-->>" ∷ (0x21A0 ∷ []) ∷ []) ∷  -- ↠
    (s.Bijection, codes ">->>" ∷ (0x2916 ∷ []) ∷ []) ∷  -- ⤖
    -- relation operators
    (s.ForwardComposition, codes ";" ∷ []) ∷
    (s.BackwardComposition, codes "circ" ∷ (0x2218 ∷ []) ∷ []) ∷  -- ∘
    (s.DomainRestriction, codes "<|" ∷ (0x25C1 ∷ []) ∷ []) ∷  -- ◁
    (s.DomainSubtraction, codes "<<|" ∷ (0x2A64 ∷ []) ∷ []) ∷  -- ⩤
    (s.RangeRestriction, codes "|>" ∷ (0x25B7 ∷ []) ∷ []) ∷  -- ▷
    (s.RangeSubtraction, codes "|>>" ∷ (0x2A65 ∷ []) ∷ []) ∷  -- ⩥
    (s.Override, codes "<+" ∷ (0xE103 ∷ []) ∷ []) ∷
    (s.DirectProduct, codes "><" ∷ (0x2297 ∷ []) ∷ []) ∷  -- ⊗
    (s.ParallelProduct, codes "||" ∷ (0x2225 ∷ []) ∷ []) ∷  -- ∥
    (s.Inverse, codes "~" ∷ (0x223C ∷ []) ∷ []) ∷  -- ∼
    -- actions
    (s.Becomes, codes ":=" ∷ (0x2254 ∷ []) ∷ []) ∷  -- ≔
    (s.BecomesMember, codes "::" ∷ (58 ∷ 0x2208 ∷ []) ∷ []) ∷  -- :∈
    (s.BecomesSuchThat, codes ":|" ∷ (58 ∷ 0x2223 ∷ []) ∷ []) ∷  -- :∣
    -- words of formulas
    (s.Booleans, codes "BOOL" ∷ []) ∷
    (s.TrueValue, codes "TRUE" ∷ []) ∷
    (s.FalseValue, codes "FALSE" ∷ []) ∷
    (s.Cardinality, codes "card" ∷ []) ∷
    (s.Minimum, codes "min" ∷ []) ∷
    (s.Maximum, codes "max" ∷ []) ∷
    (s.Domain, codes "dom" ∷ []) ∷
    (s.Range, codes "ran" ∷ []) ∷
    (s.GeneralizedUnion, codes "union" ∷ []) ∷
    (s.GeneralizedIntersection, codes "inter" ∷ []) ∷
    (s.BoolOf, codes "bool" ∷ []) ∷
    (s.Finite, codes "finite" ∷ []) ∷
    (s.Partition, codes "partition" ∷ []) ∷
    (s.Identity, codes "id" ∷ []) ∷
    (s.FirstProjection, codes "prj1" ∷ []) ∷
    (s.SecondProjection, codes "prj2" ∷ []) ∷
    -- words of contexts and machines
    (s.Context, codes "context" ∷ []) ∷
    (s.Extends, codes "extends" ∷ []) ∷
    (s.Sets, codes "sets" ∷ []) ∷
    (s.Constants, codes "constants" ∷ []) ∷
    (s.Axioms, codes "axioms" ∷ []) ∷
    (s.Theorem, codes "theorem" ∷ []) ∷
    (s.End, codes "end" ∷ []) ∷
    (s.Machine, codes "machine" ∷ []) ∷
    (s.Refines, codes "refines" ∷ []) ∷
    (s.Sees, codes "sees" ∷ []) ∷
    (s.Variables, codes "variables" ∷ []) ∷
    (s.Invariants, codes "invariants" ∷ []) ∷
    (s.Variant, codes "variant" ∷ []) ∷
    (s.Events, codes "events" ∷ []) ∷
    (s.Event, codes "event" ∷ []) ∷
    (s.Any, codes "any" ∷ []) ∷
    (s.Where, codes "where" ∷ []) ∷
    (s.When, codes "when" ∷ []) ∷
    (s.With, codes "with" ∷ []) ∷
    (s.Begin, codes "begin" ∷ []) ∷
    (s.Then, codes "then" ∷ []) ∷
    (s.Ordinary, codes "ordinary" ∷ []) ∷
    (s.Convergent, codes "convergent" ∷ []) ∷
    (s.Anticipated, codes "anticipated" ∷ []) ∷
    []

-- the sign among these that a text spells
abbrev pub spelled_among : List ℕ → List (Sign × List (List ℕ)) → Option Sign
spelled_among w [] = None
spelled_among w (row ∷ rows) = if list_any (bytes_eq w) row.1 then Some row.0 else spelled_among w rows

-- the sign that a text spells
unfoldable pub sign_of : List ℕ → Option Sign
sign_of w = spelled_among w signs

-- `==` on signs
unfoldable pub same_sign : Sign → Sign → Bool
same_sign = sameb the_type

abbrev pub first_of : List (List ℕ) → List ℕ
first_of [] = []
first_of (w ∷ ws) = w

-- the first spelling of a sign among these
abbrev pub first_spelling : Sign → List (Sign × List (List ℕ)) → List ℕ
first_spelling r [] = []
first_spelling r (row ∷ rows) = if same_sign row.0 r then first_of row.1 else first_spelling r rows

-- the ASCII spelling of a sign
unfoldable pub sign_text : Sign → List ℕ
sign_text r = first_spelling r signs

-- a letter of ASCII, with which every reserved word begins and no other spelling
abbrev pub is_letter : ℕ → Bool
is_letter c = (nat_le 65 c && nat_le c 90) || (nat_le 97 c && nat_le c 122)

abbrev pub begins_with_letter : List ℕ → Bool
begins_with_letter [] = false
begins_with_letter (c ∷ cs) = is_letter c

-- the sign that is this reserved word
unfoldable pub reserved : List ℕ → Option Sign
reserved w = if begins_with_letter w then sign_of w else None

-- the sign that a text spells which is no reserved word
unfoldable pub symbol : List ℕ → Option Sign
symbol w = if begins_with_letter w then None else sign_of w
