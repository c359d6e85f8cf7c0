-- The solutions of the equations of a model are its typings, so one is the only one where the other is.
use Rattle.std.proofs.Common.{◌∙◌, ℕ, List, sym, subst}
use Rattle.eb_value.specs.declared.types.EbType.{EbType}
use Rattle.eb_model.specs.declared.model.EbModel.{EbModel}
use Rattle.type_equations.specs.declared.equation.Equation.{Equation}
use Rattle.type_equations.specs.Equations.{types_below, IsOnlySolution, HaveNone, HaveSeveral}
use Rattle.eb_typing.specs.Models.{Typed}
use Rattle.eb_typing.specs.Equating.{Equated}
use Rattle.eb_infer.specs.Typings.{IsOnly, HasNone, HasSeveral}

pub only_typing : (m : EbModel) (asked : ℕ) (es : List Equation) (types : List EbType) → Equated m asked es → IsOnlySolution asked es types → IsOnly m types
only_typing m asked es types q o = record {
  typed = subst (Typed m) o.solves.2 (q.sound o.solves.0 o.solves.1);
  only = λ s w. let c = q.complete s w in sym c.2 ∙ o.only c.0 c.1;
}

pub no_typing : (m : EbModel) (asked : ℕ) (es : List Equation) → Equated m asked es → HaveNone es → HasNone m
no_typing m asked es q n = λ s w. let c = q.complete s w in n c.0 c.1

pub several_typings : (m : EbModel) (asked : ℕ) (es : List Equation) → Equated m asked es → HaveSeveral asked es → HasSeveral m
several_typings m asked es q n = record {
  first = types_below asked n.first;
  second = types_below asked n.second;
  first_typed = q.sound n.first n.first_solves;
  second_typed = q.sound n.second n.second_solves;
  differ = n.differ;
}
