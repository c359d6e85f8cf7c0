-- The bodies of all values of a type.
use Rattle.std.specs.Prelude.{Bool, true, false, ◌&&◌, [], ◌∷◌, pos, negsuc}
use Rattle.eb_value.specs.declared.scope.Scope.{Scope}
use Rattle.eb_value.specs.declared.types.EbType.{EbType, fold-EbType}
use Rattle.eb_value.specs.declared.types.Shape.{Shape-F}
use Rattle.eb_value.specs.declared.types.Shape.TheOpen as ty
use Rattle.eb_value.specs.Values.{truth}
use Rattle.eb_value.specs.Typing.{size_of}
use Rattle.eb_value.specs.Scopes.{atoms_from}
use Rattle.int_dom.specs.declared.interval.Interval.{Interval}
use Rattle.occ_domains.specs.declared.body.Body.{Body}
use Rattle.occ_domains.specs.declared.body.Body.TheVariants as of
use Rattle.occ_domains.specs.Bodies.{integers, members, pairs}

abbrev pub spanned_step : Interval → Scope → Shape-F Body Body → Body
spanned_step d scope ty.Integer = integers d
spanned_step d scope ty.Bool = members (truth false ∷ truth true ∷ [])
spanned_step d scope (ty.Carrier place) = members (atoms_from place 1 (size_of scope.sizes place))
spanned_step d scope (ty.Product first second) = pairs first second
spanned_step d scope (ty.Power values) = of.AllSets

-- the integers of the interval; FALSE and TRUE; the atoms; all pairs; all sets
abbrev pub spanned : Interval → Scope → EbType → Body
spanned d scope = fold-EbType Body Body (spanned_step d scope) (λ t. t.shape)

-- the values of the type, integers from -2^62 to 2^62
abbrev pub whole : Scope → EbType → Body
whole = spanned (record { lo = negsuc 4611686018427387903; hi = pos 4611686018427387904 })

-- the values of the type in the scope, integers from its lower to its upper bound
abbrev pub first : Scope → EbType → Body
first scope = spanned (record { lo = scope.lo; hi = scope.hi }) scope

abbrev pub no_sets_step : Shape-F Bool Bool → Bool
no_sets_step ty.Integer = true
no_sets_step ty.Bool = true
no_sets_step (ty.Carrier place) = true
no_sets_step (ty.Product first second) = first && second
no_sets_step (ty.Power values) = false

-- no part of the type is a type of sets
abbrev pub is_without_sets : EbType → Bool
is_without_sets = fold-EbType Bool Bool no_sets_step (λ t. t.shape)
