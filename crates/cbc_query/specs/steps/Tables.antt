-- The terms of declared identifiers, part by part.
use Rattle.std.specs.Prelude.{ℕ, ◌+◌, List, [], ◌∷◌, Option, Some, slice_set}
use Rattle.eb_value.specs.declared.scope.Scope.{Scope}
use Rattle.eb_value.specs.declared.types.EbType.{EbType}
use Rattle.eb_term.specs.declared.term.Term.{Term}
use Rattle.eb_term.specs.Terms.{reference}
use Rattle.eb_model.specs.declared.model.ModelPart.{ModelPart}
use Rattle.eb_model.specs.declared.model.ModelPart.TheVariants as part
use Rattle.cbc_query.specs.Settings.{type_in, carrier_term}

-- the constant with this number, at a place among the constants
abbrev pub constant_term : List EbType → ℕ → ℕ → Term
constant_term types k place = reference place (type_in types k)

abbrev pub part_terms : Scope → List EbType → ℕ → ModelPart → List (ℕ × Term)
part_terms scope types c (part.Carrier s x) = (x.number, carrier_term scope s) ∷ []
part_terms scope types c (part.Constant x) = (x.number, constant_term types x.number c) ∷ []
part_terms scope types c (part.Variable x) = []
part_terms scope types c (part.Axiom l) = []
part_terms scope types c (part.Invariant l) = []
part_terms scope types c (part.Event e) = []

abbrev pub constants_behind : ℕ → ModelPart → ℕ
constants_behind c (part.Carrier s x) = c
constants_behind c (part.Constant x) = c + 1
constants_behind c (part.Variable x) = c
constants_behind c (part.Axiom l) = c
constants_behind c (part.Invariant l) = c
constants_behind c (part.Event e) = c

-- a table in which these numbers have these terms, the last one counting
abbrev pub filled : List (Option Term) → List (ℕ × Term) → List (Option Term)
filled known [] = known
filled known (t ∷ ts) = filled (slice_set known t.0 (Some t.1)) ts
