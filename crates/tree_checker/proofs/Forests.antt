-- A list of stores is closed by the lines of a list of trees: one step for each line.
use Rattle.tree_form.specs.declared.line.Line.TheVariants.{Header as header, Begin as begin, Split as split, Clash as clash, Eval as eval, Open as leave, End as finish}
use Rattle.tree_form.specs.declared.line.Line.{Line}
use Rattle.std.proofs.Common.{◌≡◌, ◌≤◌, List, [], ◌∷◌, ◌++◌, length, subst, refl, append_assoc, arith}
use Rattle.occ_store.specs.Stores.{Store}
use Rattle.tree_checker.specs.Trees.{Facts, Fits, parts_of, Tree, leaf, one, two, Holds, lines_of}

abbrev pub Forest : Facts → List Store → List Line → Type 0
Forest facts [] lines = lines ≡ []
Forest facts (store ∷ stores) lines = (tree : Tree) × (rest : List Line) × Holds facts store tree × (lines ≡ lines_of tree ++ rest) × Forest facts stores rest

pub some_line : (tree : Tree) (rest : List Line) → [] ≡ lines_of tree ++ rest → ⊥
some_line (leaf line) rest e = cc
some_line (one line t) rest e = cc
some_line (two line t u) rest e = cc

pub step_in : (facts : Facts) (store : Store) (stores : List Store) (line : Line) (lines : List Line) → Forest facts (store ∷ stores) (line ∷ lines) → Fits facts store line × Forest facts (parts_of store line ++ stores) lines
step_in facts store stores line lines (leaf l, rest, (fits, parts), text, forest) =
    let e : l ≡ line = cc in
    let none : [] ≡ parts_of store line = cc in
    (subst (Fits facts store) e fits, subst (λ x. Forest facts (x ++ stores) lines) none (subst (Forest facts stores) (cc) forest))
step_in facts store stores line lines (one l t, rest, (a, fits, parts, holds), text, forest) =
    let e : l ≡ line = cc in
    let single : a ∷ [] ≡ parts_of store line = cc in
    (subst (Fits facts store) e fits, subst (λ x. Forest facts (x ++ stores) lines) single (t, rest, holds, cc, forest))
step_in facts store stores line lines (two l t u, rest, (a, b, fits, parts, first, second), text, forest) =
    let e : l ≡ line = cc in
    let both : a ∷ b ∷ [] ≡ parts_of store line = cc in
    let same : (lines_of t ++ lines_of u) ++ rest ≡ lines_of t ++ (lines_of u ++ rest) = append_assoc (lines_of t) (lines_of u) rest in
    (subst (Fits facts store) e fits, subst (λ x. Forest facts (x ++ stores) lines) both (t, lines_of u ++ rest, first, cc, (u, rest, second, refl, forest)))

few_parts : (store : Store) (line : Line) → length (parts_of store line) ≤ 2
few_parts store (split k n) = omega arith
few_parts store header = omega arith
few_parts store begin = omega arith
few_parts store (clash k) = omega arith
few_parts store (eval k) = omega arith
few_parts store leave = omega arith
few_parts store finish = omega arith

close : (facts : Facts) (store : Store) (stores : List Store) (line : Line) (lines : List Line) (parts : List Store) → parts_of store line ≡ parts → length parts ≤ 2 → Fits facts store line → Forest facts (parts ++ stores) lines → Forest facts (store ∷ stores) (line ∷ lines)
close facts store stores line lines [] e few fits forest = (leaf line, lines, (fits, e), refl, forest)
close facts store stores line lines (a ∷ []) e few fits (t, rest, holds, text, forest) = (one line t, rest, (a, fits, e, holds), cc, forest)
close facts store stores line lines (a ∷ b ∷ []) e few fits (t, between, first, text, (u, rest, second, text_2, forest)) =
    let same : (lines_of t ++ lines_of u) ++ rest ≡ lines_of t ++ (lines_of u ++ rest) = append_assoc (lines_of t) (lines_of u) rest in
    (two line t u, rest, (a, b, fits, e, first, second), cc, forest)
close facts store stores line lines (a ∷ b ∷ c ∷ more) e few fits forest = absurd (omega arith)

pub step_out : (facts : Facts) (store : Store) (stores : List Store) (line : Line) (lines : List Line) → Fits facts store line → Forest facts (parts_of store line ++ stores) lines → Forest facts (store ∷ stores) (line ∷ lines)
step_out facts store stores line lines fits forest = close facts store stores line lines (parts_of store line) refl (few_parts store line) fits forest

-- open lines close any list
abbrev pub leaves : (facts : Facts) (stores : List Store) → (lines : List Line) × Forest facts stores lines
leaves facts [] = ([], refl)
leaves facts (store ∷ stores) = let rest = leaves facts stores in (leave ∷ rest.0, (leaf leave, rest.0, (tt, refl), refl, rest.1))
