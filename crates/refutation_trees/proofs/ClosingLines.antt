-- Lines that leave nothing to be closed are those of trees that hold, and the other way round.
use Rattle.std.proofs.Common.{◌≡◌, ◌∙◌, refl, sym, ap, subst, List, [], ◌∷◌, ◌++◌}
use Rattle.std.proofs.lemmas.List.{append_assoc, append-nil}
use Rattle.occurrences.specs.Stores.{Domains}
use Rattle.tree_lines.specs.declared.line.Line.{Line}
use Rattle.refutation_trees.specs.Fresh.{Task, Standing, MayStand, anywhere}
use Rattle.refutation_trees.specs.Trees.{Leaves, narrow, split, clash, eval, left_open, Tree, leaf, one, two, Holds, at_leaf, at_one, at_two, lines_of, LeadsTo, none, more}

-- a tree for each store, which holds there, and their lines
data Forest (task : Task) (standing : Standing) : List Domains → List Line → Type 0 where
  bare : Forest task standing [] []
  grown : {at : Domains} {stores : List Domains} {lines : List Line} (tree : Tree) → Holds task standing at tree → Forest task standing stores lines → Forest task standing (at ∷ stores) (lines_of tree ++ lines)

record Begins (task : Task) (standing : Standing) (at : Domains) (stores : List Domains) (lines : List Line) : Type 0 where
  pub tree : Tree
  pub holds : Holds task standing at tree
  pub after : List Line
  pub rest : Forest task standing stores after
  pub are : lines ≡ lines_of tree ++ after

begins : {task : Task} {standing : Standing} {at : Domains} {stores : List Domains} {lines : List Line} → Forest task standing (at ∷ stores) lines → Begins task standing at stores lines
begins (grown {lines = after} tree h rest) = record { tree = tree; holds = h; after = after; rest = rest; are = refl }

as_lines : {task : Task} {standing : Standing} {stores : List Domains} {a b : List Line} → a ≡ b → Forest task standing stores a → Forest task standing stores b
as_lines {task} {standing} {stores} e f = subst (Forest task standing stores) e f

grow_one : {task : Task} {standing : Standing} {at a : Domains} {stores : List Domains} {line : Line} {lines : List Line} → MayStand task standing at line → Leaves task at line (a ∷ []) → Forest task standing (a ∷ stores) lines → Forest task standing (at ∷ stores) (line ∷ lines)
grow_one {line = line} may leaves f =
    let w = begins f in
    as_lines (ap (λ ls. line ∷ ls) (sym w.are)) (grown (one line w.tree) (at_one line w.tree may leaves w.holds) w.rest)

grow_two : {task : Task} {standing : Standing} {at a b : Domains} {stores : List Domains} {line : Line} {lines : List Line} → MayStand task standing at line → Leaves task at line (a ∷ b ∷ []) → Forest task standing (a ∷ b ∷ stores) lines → Forest task standing (at ∷ stores) (line ∷ lines)
grow_two {line = line} may leaves f =
    let w = begins f in
    let v = begins w.rest in
    as_lines (ap (λ ls. line ∷ ls) (append_assoc (lines_of w.tree) (lines_of v.tree) v.after ∙ ap (λ ls. lines_of w.tree ++ ls) (sym v.are) ∙ sym w.are))
    (grown (two line w.tree v.tree) (at_two line w.tree v.tree may leaves w.holds v.holds) v.rest)

grow : {task : Task} {standing : Standing} {at : Domains} {new stores : List Domains} {line : Line} {lines : List Line} → MayStand task standing at line → Leaves task at line new → Forest task standing (new ++ stores) lines → Forest task standing (at ∷ stores) (line ∷ lines)
grow may (narrow rule occ to o t) f = grow_one may (narrow rule occ to o t) f
grow may (split occ t both o e) f = grow_two may (split occ t both o e) f
grow may (clash occ o e) f = grown (leaf _) (at_leaf _ may (clash occ o e)) f
grow may (eval k values h u) f = grown (leaf _) (at_leaf _ may (eval k values h u)) f
grow may left_open f = grown (leaf _) (at_leaf _ may left_open) f

forest : {task : Task} {standing : Standing} {stores left : List Domains} {lines : List Line} → LeadsTo task standing stores lines left → left ≡ [] → Forest task standing stores lines
forest {task} {standing} none e = subst (λ stores. Forest task standing stores []) (sym e) bare
forest (more line new may leaves rest) e = grow may leaves (forest rest e)

empty_forest : {task : Task} {standing : Standing} {lines : List Line} → Forest task standing [] lines → lines ≡ []
empty_forest bare = refl

pub record ATree (task : Task) (standing : Standing) (at : Domains) (lines : List Line) : Type 0 where
  pub tree : Tree
  pub holds : Holds task standing at tree
  pub are : lines_of tree ≡ lines

pub closing_tree : {task : Task} {standing : Standing} {at : Domains} {lines : List Line} → LeadsTo task standing (at ∷ []) lines [] → ATree task standing at lines
closing_tree leads =
    let w = begins (forest leads refl) in
    record {
      tree = w.tree;
      holds = w.holds;
      are = sym (append-nil (lines_of w.tree)) ∙ ap (λ ls. lines_of w.tree ++ ls) (sym (empty_forest w.rest)) ∙ sym w.are;
    }

-- ---- a tree's lines close

closes : {task : Task} {standing : Standing} {at : Domains} {tree : Tree} → Holds task standing at tree → {stores left : List Domains} {lines : List Line} → LeadsTo task standing stores lines left
    → LeadsTo task standing (at ∷ stores) (lines_of tree ++ lines) left
closes (at_leaf line may leaves) rest = more line [] may leaves rest
closes (at_one line tree may leaves h) rest = more line _ may leaves (closes h rest)
closes {task} {standing} {at} (at_two line first second may leaves h g) {stores} {left} {lines} rest =
    subst (λ ls. LeadsTo task standing (at ∷ stores) (line ∷ ls) left) (sym (append_assoc (lines_of first) (lines_of second) lines))
    (more line _ may leaves (closes h (closes g rest)))

pub tree_closes : {task : Task} {standing : Standing} {at : Domains} {tree : Tree} → Holds task standing at tree → LeadsTo task standing (at ∷ []) (lines_of tree) []
tree_closes {task} {standing} {at} {tree} h = subst (λ ls. LeadsTo task standing (at ∷ []) ls []) (append-nil (lines_of tree)) (closes h none)

-- ---- a tree holds wherever its lines may stand

pub holds_anywhere : {task : Task} {standing : Standing} {at : Domains} {tree : Tree} → Holds task standing at tree → Holds task anywhere at tree
holds_anywhere (at_leaf line may leaves) = at_leaf line tt leaves
holds_anywhere (at_one line tree may leaves h) = at_one line tree tt leaves (holds_anywhere h)
holds_anywhere (at_two line first second may leaves h g) = at_two line first second tt leaves (holds_anywhere h) (holds_anywhere g)
