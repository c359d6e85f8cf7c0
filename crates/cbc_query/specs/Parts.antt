-- What a model declares and says, kind by kind, each in the order of the text.
use Rattle.std.specs.Prelude.{ℕ, if◌then◌else◌, List, [], ◌∷◌}
use Rattle.std.specs.List.{flat_map}
use Rattle.numbered_names.specs.declared.entries.Entry.{Entry}
use Rattle.eb_model.specs.declared.model.LabelledFormula.{LabelledFormula}
use Rattle.eb_model.specs.declared.model.ModelPart.{ModelPart}
use Rattle.eb_model.specs.declared.model.ModelPart.TheVariants as part
use Rattle.eb_model.specs.declared.model.EbModel.{EbModel}

abbrev pub part_carriers : ModelPart → List (List ℕ)
part_carriers (part.Carrier s x) = x.name ∷ []
part_carriers (part.Constant x) = []
part_carriers (part.Variable x) = []
part_carriers (part.Axiom l) = []
part_carriers (part.Invariant l) = []
part_carriers (part.Event e) = []

-- the names of the carrier sets
abbrev pub carriers : EbModel → List (List ℕ)
carriers m = flat_map part_carriers m.parts

abbrev pub part_constants : ModelPart → List Entry
part_constants (part.Carrier s x) = []
part_constants (part.Constant x) = x ∷ []
part_constants (part.Variable x) = []
part_constants (part.Axiom l) = []
part_constants (part.Invariant l) = []
part_constants (part.Event e) = []

-- the constants with their numbers
abbrev pub constants : EbModel → List Entry
constants m = flat_map part_constants m.parts

-- a theorem is no axiom
abbrev pub unless_theorem : LabelledFormula → List LabelledFormula
unless_theorem l = if l.is_theorem then [] else (l ∷ [])

abbrev pub part_axioms : ModelPart → List LabelledFormula
part_axioms (part.Carrier s x) = []
part_axioms (part.Constant x) = []
part_axioms (part.Variable x) = []
part_axioms (part.Axiom l) = unless_theorem l
part_axioms (part.Invariant l) = []
part_axioms (part.Event e) = []

-- the axioms
abbrev pub axioms : EbModel → List LabelledFormula
axioms m = flat_map part_axioms m.parts
