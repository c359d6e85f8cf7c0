-- Names of formulas: what their uses in memory stand for, and what their binders bind.
use Rattle.std.specs.Prelude.{ℕ, Bool, List, [], ◌∷◌, map}
use Rattle.std.specs.List.{flat_map, list_any}
use Rattle.std.specs.Str.{bytes_eq}
use Rattle.eb_syntax.specs.declared.ast.Bound.{Bound}
use Rattle.eb_syntax.specs.declared.ast.Bound.TheVariants as bound
use Rattle.eb_syntax.specs.declared.ast.Mark.{Mark}
use Rattle.eb_syntax.specs.declared.ast.Mark.TheVariants as mark
use Rattle.eb_syntax.specs.declared.ast.Identifier.{Identifier}
use Rattle.eb_resolved.specs.Unknown.{Use}
use Rattle.eb_scoping.specs.declared.uses.Use.{Use as Borrowed}

-- what a use of a formula in memory stands for
abbrev pub seen : Borrowed → Use
seen u = record { name = u.name.now; is_primed = u.is_primed }

abbrev pub is_among : List (List ℕ) → List ℕ → Bool
is_among names name = list_any (λ x. bytes_eq x name) names

abbrev pub names_of : List Identifier → List (List ℕ)
names_of xs = map (λ x. x.name) xs

abbrev pub mark_names : Mark → List (List ℕ)
mark_names (mark.Identifier x) = x.name ∷ []
mark_names mark.MapsTo = []
mark_names mark.Open = []
mark_names mark.Close = []

-- the names that a binder binds
abbrev pub bound_names : Bound → List (List ℕ)
bound_names (bound.Identifiers xs) = names_of xs
bound_names (bound.Pattern ms) = flat_map mark_names ms
