-- The declarations of a formula by its kind.
use Rattle.std.proofs.Common.{◌≡◌, ◌∙◌, ◌++◌, List, [], ◌∷◌, map, ap, refl, rules}
use Rattle.std.specs.List.{flat_map}
use Rattle.eb_syntax.specs.declared.ast.Ast.{Ast, the_lemmas}
use Rattle.eb_syntax.specs.declared.ast.Node.TheVariants as node
use Rattle.eb_declared.specs.Declarations.{formula_declarations}

pub flat_mapped : {A B C : Type 0} (h : B → List C) (k : A → B) (xs : List A) → flat_map h (map k xs) ≡ flat_map (λ x. h (k x)) xs
flat_mapped h k [] = refl
flat_mapped h k (x ∷ xs) = ap (λ z. h (k x) ++ z) (flat_mapped h k xs)

pub declared_extension : (a : Ast) (es : List Ast) → a.node ≡ node.Extension es → formula_declarations a ≡ flat_map formula_declarations es
declared_extension a es is = let e : formula_declarations a ≡ flat_map (λ us. us) (map formula_declarations es) = search (rules, the_lemmas) in e ∙ flat_mapped (λ us. us) formula_declarations es

pub declared_partition : (a : Ast) (es : List Ast) → a.node ≡ node.Partition es → formula_declarations a ≡ flat_map formula_declarations es
declared_partition a es is = let e : formula_declarations a ≡ flat_map (λ us. us) (map formula_declarations es) = search (rules, the_lemmas) in e ∙ flat_mapped (λ us. us) formula_declarations es
