-- What the formulas of a model stand in: the terms of its carrier sets and constants.
use Rattle.std.specs.Prelude.{ℕ, ◌+◌, ◌==◌, if◌then◌else◌, List, [], ◌∷◌, map, fold, zero, suc, Option, Some, None, slice_get, unwrap_or}
use Rattle.eb_value.specs.declared.scope.Scope.{Scope}
use Rattle.eb_value.specs.declared.types.EbType.{EbType}
use Rattle.eb_value.specs.Types.{boolean, carrier, power}
use Rattle.eb_value.specs.Values.{set}
use Rattle.eb_value.specs.Scopes.{vals}
use Rattle.eb_term.specs.declared.term.Term.{Term}
use Rattle.eb_term.specs.Terms.{literal, reference}
use Rattle.eb_model.specs.declared.model.ModelPart.{ModelPart}
use Rattle.eb_model.specs.declared.model.ModelPart.TheVariants as part
use Rattle.eb_model.specs.declared.model.EbModel.{EbModel}
use Rattle.eb_lowering.specs.declared.setting.Setting.{Setting}
use Rattle.eb_lowering.specs.declared.setting.Ranges.{Ranges}

-- the type with this number
abbrev pub type_in : List EbType → ℕ → EbType
type_in types k = unwrap_or (slice_get types k) boolean

-- the set of all atoms of a carrier set
abbrev pub carrier_term : Scope → ℕ → Term
carrier_term scope s = literal (set (vals scope (carrier s))) (power (carrier s))

-- The numbers of carrier sets and constants with their terms, where so many constants stand before: a constant refers to the
-- choice at its place among the constants.
abbrev pub terms_from : Scope → List EbType → ℕ → List ModelPart → List (ℕ × Term)
terms_from scope types c [] = []
terms_from scope types c (part.Carrier s x ∷ ps) = (x.number, carrier_term scope s) ∷ terms_from scope types c ps
terms_from scope types c (part.Constant x ∷ ps) = (x.number, reference c (type_in types x.number)) ∷ terms_from scope types (c + 1) ps
terms_from scope types c (part.Variable x ∷ ps) = terms_from scope types c ps
terms_from scope types c (part.Axiom l ∷ ps) = terms_from scope types c ps
terms_from scope types c (part.Invariant l ∷ ps) = terms_from scope types c ps
terms_from scope types c (part.Event e ∷ ps) = terms_from scope types c ps

-- the term of a number, the last one that the list has
abbrev pub known_at : List (ℕ × Term) → ℕ → Option Term
known_at ts k = fold (λ found t. if t.0 == k then Some t.1 else found) None ts

-- so many numbers, from one on
abbrev pub numbers_from : ℕ → ℕ → List ℕ
numbers_from k zero = []
numbers_from k (suc n) = k ∷ numbers_from (k + 1) n

-- what the formulas of a model with these types stand in
abbrev pub setting_of : Scope → EbModel → List EbType → Ranges → Setting
setting_of scope m types ranges = record {
  types = types;
  known = map (known_at (terms_from scope types 0 m.parts)) (numbers_from 0 m.numbers);
  ranges = ranges;
}
