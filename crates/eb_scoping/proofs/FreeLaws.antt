-- The free names of a formula by its kind.
use Rattle.std.proofs.Common.{◌≡◌, ◌∙◌, ◌++◌, List, [], ◌∷◌, map, ap, refl, rules}
use Rattle.std.specs.List.{flat_map}
use Rattle.eb_syntax.specs.declared.ast.Ast.{Ast, the_lemmas}
use Rattle.eb_syntax.specs.declared.ast.Node.TheVariants as node
use Rattle.eb_syntax.specs.declared.ast.Quantifier.{Quantifier}
use Rattle.eb_syntax.specs.declared.ast.Binder.{Binder}
use Rattle.eb_syntax.specs.declared.ast.Bound.{Bound}
use Rattle.eb_syntax.specs.declared.ast.Identifier.{Identifier}
use Rattle.eb_scoping.specs.FreeNames.{names_of, bound_names}
use Rattle.eb_scoping.specs.steps.FreeByParts.{free_by_parts, unbound, plain_names}

pub free_quantifier : (a : Ast) (q : Quantifier) (xs : List Identifier) (p : Ast) → a.node ≡ node.Quantifier q xs p → free_by_parts a ≡ unbound (names_of xs) (free_by_parts p)
free_quantifier a q xs p e = search (rules, the_lemmas)

pub free_binder : (a : Ast) (op : Binder) (b : Bound) (p e : Ast) → a.node ≡ node.Binder op b p e → free_by_parts a ≡ unbound (bound_names b) (free_by_parts p ++ free_by_parts e)
free_binder a op b p e is = search (rules, the_lemmas)

pub free_comprehension : (a : Ast) (xs : List Identifier) (p e : Ast) → a.node ≡ node.Comprehension xs p e → free_by_parts a ≡ unbound (names_of xs) (free_by_parts p ++ free_by_parts e)
free_comprehension a xs p e is = search (rules, the_lemmas)

pub free_builder : (a e p : Ast) → a.node ≡ node.Builder e p → free_by_parts a ≡ unbound (plain_names (free_by_parts e)) (free_by_parts e ++ free_by_parts p)
free_builder a e p is = search (rules, the_lemmas)

pub flat_mapped : {A B C : Type 0} (h : B → List C) (k : A → B) (xs : List A) → flat_map h (map k xs) ≡ flat_map (λ x. h (k x)) xs
flat_mapped h k [] = refl
flat_mapped h k (x ∷ xs) = ap (λ z. h (k x) ++ z) (flat_mapped h k xs)

pub free_extension : (a : Ast) (es : List Ast) → a.node ≡ node.Extension es → free_by_parts a ≡ flat_map free_by_parts es
free_extension a es is = let e : free_by_parts a ≡ flat_map (λ us. us) (map free_by_parts es) = search (rules, the_lemmas) in e ∙ flat_mapped (λ us. us) free_by_parts es

pub free_partition : (a : Ast) (es : List Ast) → a.node ≡ node.Partition es → free_by_parts a ≡ flat_map free_by_parts es
free_partition a es is = let e : free_by_parts a ≡ flat_map (λ us. us) (map free_by_parts es) = search (rules, the_lemmas) in e ∙ flat_mapped (λ us. us) free_by_parts es
