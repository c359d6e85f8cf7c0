-- Lines lead to no store left exactly where they are those of trees that hold.
use Rattle.std.proofs.Common.{◌≡◌, List, [], ◌∷◌, ◌++◌, refl, sym, subst, append-nil}
use Rattle.tree_form.specs.declared.line.Line.{Line}
use Rattle.occ_store.specs.Stores.{Store}
use Rattle.tree_checker.specs.Trees.{Facts, Tree, Holds, lines_of, parts_of}
use Rattle.tree_checker.specs.Verdicts.{LeadsTo}
use Rattle.tree_checker.proofs.Forests.{Forest, some_line, step_in, step_out}

pub forest_leads : (facts : Facts) (lines : List Line) (stores : List Store) → Forest facts stores lines → LeadsTo facts stores lines []
forest_leads facts [] [] f = refl
forest_leads facts [] (store ∷ stores) f = absurd (some_line f.0 f.1 f.3)
forest_leads facts (line ∷ lines) [] f = absurd (let e : line ∷ lines ≡ [] = f in cc)
forest_leads facts (line ∷ lines) (store ∷ stores) f = let s = step_in facts store stores line lines f in (s.0, forest_leads facts lines (parts_of store line ++ stores) s.1)

pub leads_forest : (facts : Facts) (lines : List Line) (stores : List Store) → LeadsTo facts stores lines [] → Forest facts stores lines
leads_forest facts [] stores e = subst (λ x. Forest facts x []) (sym e) refl
leads_forest facts (line ∷ lines) [] e = absurd e
leads_forest facts (line ∷ lines) (store ∷ stores) e = step_out facts store stores line lines e.0 (leads_forest facts lines (parts_of store line ++ stores) e.1)

pub tree_leads : (facts : Facts) (store : Store) (tree : Tree) → Holds facts store tree → LeadsTo facts (store ∷ []) (lines_of tree) []
tree_leads facts store tree holds = forest_leads facts (lines_of tree) (store ∷ []) (tree, [], holds, sym (append-nil (lines_of tree)), refl)

pub leads_tree : (facts : Facts) (store : Store) (lines : List Line) → LeadsTo facts (store ∷ []) lines [] → (tree : Tree) × Holds facts store tree × (lines_of tree ≡ lines)
leads_tree facts store lines e =
    let f = leads_forest facts lines (store ∷ []) e in
    let all : lines ≡ lines_of f.0 ++ [] = subst (λ x. lines ≡ lines_of f.0 ++ x) f.4 f.3 in
    let nil : lines_of f.0 ++ [] ≡ lines_of f.0 = append-nil (lines_of f.0) in
    (f.0, f.2, cc)
