-- What a model asks of the types of its identifiers and marks: formulas that are to be predicates. These are axioms, invariants
-- and guards, and also assignments and carrier sets, which are taken as predicates by a row of their own.
use Rattle.std.specs.Prelude.{◌≡◌, ℕ, List, [], ◌∷◌, ◌++◌, length, map}
use Rattle.std.specs.List.{flat_map}
use Rattle.eb_value.specs.declared.types.EbType.{EbType}
use Rattle.eb_resolved.specs.declared.resolved.Resolved.{Resolved}
use Rattle.eb_model.specs.declared.model.LabelledFormula.{LabelledFormula}
use Rattle.eb_model.specs.declared.model.Change.{Change}
use Rattle.eb_model.specs.declared.model.Change.TheVariants as change
use Rattle.eb_model.specs.declared.model.ModelAction.{ModelAction}
use Rattle.eb_model.specs.declared.model.ModelEvent.{ModelEvent}
use Rattle.eb_model.specs.declared.model.ModelPart.{ModelPart}
use Rattle.eb_model.specs.declared.model.ModelPart.TheVariants as part
use Rattle.eb_model.specs.declared.model.EbModel.{EbModel}
use Rattle.type_table.specs.Rows.{carrier_row, assignment_row, assignment_at_row, choice_row}
use Rattle.eb_typing.specs.Numbering.{Numbered, typed, unknown, of_one, of_two, of_three, numbered}
use Rattle.eb_typing.specs.Typing.{ArePredicates}

-- the identifier with this number is of POW(S), where S is this carrier set
abbrev pub is_carrier : ℕ → ℕ → Numbered
is_carrier s k = of_one (carrier_row s) (typed k)

-- `x, y := E, F`: x and E are of one type, and as many expressions as names
abbrev pub becomes_equal : List Resolved → List Resolved → List Numbered
becomes_equal [] [] = []
becomes_equal (x ∷ xs) (e ∷ es) = of_two assignment_row (numbered x) (numbered e) ∷ becomes_equal xs es
becomes_equal [] (e ∷ es) = unknown ∷ []
becomes_equal (x ∷ xs) [] = unknown ∷ []

-- `f(E) := F`: f is of R(a, b), E of a and F of b. `x :: S`: x is of a and S of POW(a).
abbrev pub owed_by_change : Change → List Numbered
owed_by_change (change.BecomesEqual xs es) = becomes_equal xs es
owed_by_change (change.BecomesEqualAt f e v) = of_three assignment_at_row (numbered f) (numbered e) (numbered v) ∷ []
owed_by_change (change.BecomesMember x e) = of_two choice_row (numbered x) (numbered e) ∷ []
owed_by_change (change.BecomesSuchThat xs p) = numbered p ∷ []

abbrev pub owed_by_formula : LabelledFormula → Numbered
owed_by_formula l = numbered l.formula

abbrev pub owed_by_action : ModelAction → List Numbered
owed_by_action a = owed_by_change a.change

abbrev pub owed_by_event : ModelEvent → List Numbered
owed_by_event e = map owed_by_formula e.guards ++ flat_map owed_by_action e.actions

abbrev pub owed_by_part : ModelPart → List Numbered
owed_by_part (part.Carrier s x) = is_carrier s x.number ∷ []
owed_by_part (part.Constant x) = []
owed_by_part (part.Variable x) = []
owed_by_part (part.Axiom l) = owed_by_formula l ∷ []
owed_by_part (part.Invariant l) = owed_by_formula l ∷ []
owed_by_part (part.Event e) = owed_by_event e

-- the formulas that are to be predicates
abbrev pub owed : EbModel → List Numbered
owed m = flat_map owed_by_part m.parts

-- The types, by their numbers, of the identifiers and marks of a model: one for each number, and with them each formula is as
-- it is to be.
pub record Typed (m : EbModel) (types : List EbType) : Type 0 where
  pub each_number : length types ≡ m.numbers
  pub predicates : ArePredicates types (owed m)
