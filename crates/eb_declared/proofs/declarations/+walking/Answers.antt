use Rattle.std.proofs.Common.{◌≡◌, ◌∙◌, ◌++◌, List, map, ap, sym, subst}
use Rattle.std.specs.List.{flat_map}
use Rattle.std.specs.Result.{OnOk}
use Rattle.std.specs.declared.result.Result.{Result}
use Rattle.eb_declared.specs.Declarations.{Declaration, formula_declarations}
use Rattle.eb_declared.specs.steps.Written as seen
use Rattle.eb_declared.proofs.FormulaLaws.{declared_extension, declared_partition}
use Rattle.eb_declared.proofs.declarations.+walking.Goals as goal

row : {T E : Type 0} (r : Result T E) (new old us all rest : List Declaration) → OnOk r (new ≡ old ++ us) → us ≡ rest → all ≡ rest → OnOk r (new ≡ old ++ all)
row r new old us all rest h u a = subst (λ z. OnOk r (new ≡ old ++ z)) (u ∙ sym a) h

pub push_binders-returns-in-Extension : goal.push_binders-returns-in-Extension
push_binders-returns-in-Extension t c = row c.push_row.result (map seen.declaration c.push_row.new.out.items) (map seen.declaration c.args.out.now.items) (flat_map formula_declarations c.as_slice-in-Extension.result.now) (formula_declarations c.args.ast.now) (flat_map formula_declarations c.in-Extension.members) c.push_row.ensures
    (ap (flat_map formula_declarations) c.as_slice-in-Extension.ensures) (declared_extension c.args.ast.now c.in-Extension.members c.in-Extension.is)

pub push_binders-returns-in-Partition : goal.push_binders-returns-in-Partition
push_binders-returns-in-Partition t c = row c.push_row-in-Partition.result (map seen.declaration c.push_row-in-Partition.new.out.items) (map seen.declaration c.args.out.now.items) (flat_map formula_declarations c.as_slice-in-Partition.result.now) (formula_declarations c.args.ast.now) (flat_map formula_declarations c.in-Partition.members) c.push_row-in-Partition.ensures
    (ap (flat_map formula_declarations) c.as_slice-in-Partition.ensures) (declared_partition c.args.ast.now c.in-Partition.members c.in-Partition.is)
