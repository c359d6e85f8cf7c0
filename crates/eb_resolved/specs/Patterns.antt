-- The pattern of a `%`, token by token: identifiers, `|->` and parentheses. What it is made into is a parameter: a type, or a term.
use Rattle.std.specs.Prelude.{ℕ, ◌+◌, List, [], ◌∷◌, Option, Some, None, option_and_then}
use Rattle.eb_syntax.specs.declared.ast.Mark.{Mark}
use Rattle.eb_syntax.specs.declared.ast.Mark.TheVariants as mark

-- A pattern read up to some token: what stands since the last open parenthesis, if anything does, and what stands before each
-- open parenthesis, the innermost first; and the number of the next identifier.
pub record Group (T : Type 0) : Type 0 where
  pub here : Option T
  pub around : List (Option T)
  pub next : ℕ

-- repetitions of `|->` group to the left
abbrev pub paired : {T : Type 0} → (T → T → T) → Option T → T → T
paired pair None t = t
paired pair (Some s) t = pair s t

-- an identifier
abbrev pub with_one : {T : Type 0} → (T → T → T) → Group T → ℕ → Option T → Option (Group T)
with_one pair g n (Some t) = Some (record { here = Some (paired pair g.here t); around = g.around; next = n })
with_one pair g n None = None

-- a closing parenthesis
abbrev pub closed : {T : Type 0} → (T → T → T) → List (Option T) → ℕ → Option T → Option (Group T)
closed pair (outer ∷ around) n (Some t) = Some (record { here = Some (paired pair outer t); around = around; next = n })
closed pair _ n _ = None

-- one more token, where an identifier becomes what its number has
abbrev pub grouped : {T : Type 0} → (ℕ → Option T) → (T → T → T) → Group T → Mark → Option (Group T)
grouped leaf pair g (mark.Identifier x) = with_one pair g (g.next + 1) (leaf g.next)
grouped leaf pair g mark.MapsTo = Some g
grouped leaf pair g mark.Open = Some (record { here = None; around = g.here ∷ g.around; next = g.next })
grouped leaf pair g mark.Close = closed pair g.around g.next g.here

-- what a pattern becomes from here on
abbrev pub pattern_from : {T : Type 0} → (ℕ → Option T) → (T → T → T) → List Mark → Group T → Option T
pattern_from leaf pair [] g = g.here
pattern_from leaf pair (m ∷ ms) g = option_and_then (pattern_from leaf pair ms) (grouped leaf pair g m)

-- before the first token, whose identifier has the number n
abbrev pub ungrouped : (T : Type 0) → ℕ → Group T
ungrouped T n = record { here = None; around = []; next = n }
