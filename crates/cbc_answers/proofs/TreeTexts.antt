-- Lines of a tree, one after another.
use Rattle.std.proofs.Common.{◌≡◌, ◌∙◌, ap, sym, refl, List, [], ◌∷◌, ◌++◌, map, ℕ, codes, append_assoc}
use Rattle.tree_form.specs.declared.line.Line.{Line}
use Rattle.tree_form.specs.Lines.{line_text}
use Rattle.tree_checker.specs.Texts.{joined}
use Rattle.cbc_answers.specs.Answers.{tree_lines_text}

pub joined_append : (xs ys : List (List ℕ)) → joined (xs ++ ys) ≡ joined xs ++ joined ys
joined_append [] ys = refl
joined_append (x ∷ xs) ys = ap (λ z. x ++ (10 ∷ z)) (joined_append xs ys) ∙ sym (append_assoc x (10 ∷ joined xs) (joined ys))

-- the parts of a tree's text, as they are written
pub tree_parts : (text : List ℕ) (lines : List Line)
    → ((text ++ codes "tree 1\n") ++ joined (map line_text lines)) ++ codes "end\n" ≡ text ++ tree_lines_text lines
tree_parts text lines =
    append_assoc (text ++ codes "tree 1\n") (joined (map line_text lines)) (codes "end\n")
    ∙ append_assoc text (codes "tree 1\n") (joined (map line_text lines) ++ codes "end\n")
    ∙ ap (λ z. text ++ (codes "tree 1\n" ++ z)) (sym (joined_append (map line_text lines) (codes "end" ∷ [])))
