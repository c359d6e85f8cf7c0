-- The tokens of a pattern in the steps of the code.
use Rattle.std.specs.Prelude.{◌≡◌, ℕ, Bool, true, false, List, [], ◌∷◌, Option, Some, None}
use Rattle.eb_syntax.specs.declared.ast.Mark.{Mark}
use Rattle.eb_term.specs.declared.term.Term.{Term}
use Rattle.eb_resolved.specs.Patterns as pattern
use Rattle.eb_resolved.specs.Patterns.{Group}
use Rattle.eb_lowering.specs.declared.setting.Setting.{Setting}
use Rattle.eb_lowering.specs.declared.around.Around.{Around}
use Rattle.narrow_terms.specs.Building.{pair}
use Rattle.eb_lowering.specs.Lowering.{identifier_term}

-- what a number has
abbrev pub leaf : Setting → Around → ℕ → Option Term
leaf s w = λ k. Some (identifier_term s k w)

abbrev pub ungrouped : ℕ → Group Term
ungrouped n = pattern.ungrouped Term n

abbrev pub opened : Group Term → Group Term
opened g = record { here = None; around = g.here ∷ g.around; next = g.next }

-- the innermost is taken from the list, if there is one
abbrev pub Pops : List (Option Term) → List (Option Term) → Option (Option Term) → Type 0
Pops old new None = (old ≡ []) × (new ≡ [])
Pops old new (Some o) = old ≡ o ∷ new

-- the groups are what some tokens are read to, where they can be read
abbrev pub Reads : Group Term → Bool → Option (Group Term) → Type 0
Reads g true o = o ≡ Some g
Reads g false o = o ≡ None

abbrev pub tuple : Setting → Around → List Mark → ℕ → Option Term
tuple s w ms first = pattern.pattern_from (leaf s w) pair ms (ungrouped first)
