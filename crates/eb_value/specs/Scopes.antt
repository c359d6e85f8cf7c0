-- The values of a type in a scope.
use Rattle.std.specs.Prelude.{ℕ, zero, suc, ◌+◌, true, false, List, [], ◌∷◌, ◌++◌, map, ℤ, pos, ◌+ℤ◌}
use Rattle.std.specs.List.{flat_map}
use Rattle.std.specs.Int.{int_gap}
use Rattle.eb_value.specs.declared.scope.Scope.{Scope}
use Rattle.eb_value.specs.declared.types.EbType.{EbType, fold-EbType}
use Rattle.eb_value.specs.declared.types.Shape.{Shape-F}
use Rattle.eb_value.specs.declared.types.Shape.TheOpen as ty
use Rattle.eb_value.specs.declared.value.Value.{Value}
use Rattle.eb_value.specs.Values.{int, truth, atom, pair, set}
use Rattle.eb_value.specs.Typing.{size_of}

-- n integers from lo on
abbrev pub ints_from : ℤ → ℕ → List Value
ints_from lo zero = []
ints_from lo (suc n) = int lo ∷ ints_from (lo +ℤ pos 1) n

-- n atoms of a carrier set, from a number on
abbrev pub atoms_from : ℕ → ℕ → ℕ → List Value
atoms_from place k zero = []
atoms_from place k (suc n) = atom place k ∷ atoms_from place (k + 1) n

abbrev pub pairs : List Value → List Value → List Value
pairs xs ys = flat_map (λ x. map (pair x) ys) xs

-- the lists of members that are not empty, in order, for an ascending list of members
abbrev pub some_of : List Value → List (List Value)
some_of [] = []
some_of (x ∷ xs) = map (λ s. x ∷ s) ([] ∷ some_of xs) ++ some_of xs

abbrev pub sets : List Value → List Value
sets xs = map set ([] ∷ some_of xs)

abbrev pub vals_step : Scope → Shape-F (List Value) (List Value) → List Value
vals_step scope ty.Integer = ints_from scope.lo (int_gap scope.lo (scope.hi +ℤ pos 1))
vals_step scope ty.Bool = truth false ∷ truth true ∷ []
vals_step scope (ty.Carrier place) = atoms_from place 1 (size_of scope.sizes place)
vals_step scope (ty.Product xs ys) = pairs xs ys
vals_step scope (ty.Power xs) = sets xs

-- lo..hi; FALSE and TRUE; the atoms; all pairs; all sets: each in the order of values
abbrev pub vals : Scope → EbType → List Value
vals scope = fold-EbType (List Value) (List Value) (vals_step scope) (λ t. t.shape)
