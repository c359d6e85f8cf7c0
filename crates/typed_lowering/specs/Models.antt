-- The formulas of a model that are predicates of its text.
use Rattle.std.specs.Prelude.{Contains}
use Rattle.eb_model.specs.declared.model.LabelledFormula.{LabelledFormula}
use Rattle.eb_model.specs.declared.model.ModelEvent.{ModelEvent}
use Rattle.eb_model.specs.declared.model.ModelPart.TheVariants as part
use Rattle.eb_model.specs.declared.model.EbModel.{EbModel}

-- an axiom, an invariant, a theorem or a guard of the model
pub data Says : EbModel → LabelledFormula → Type 0 where
  by_axiom : {m : EbModel} (l : LabelledFormula) → Contains m.parts (part.Axiom l) → Says m l
  by_invariant : {m : EbModel} (l : LabelledFormula) → Contains m.parts (part.Invariant l) → Says m l
  by_guard : {m : EbModel} (e : ModelEvent) (l : LabelledFormula) → Contains m.parts (part.Event e) → Contains e.guards l → Says m l
