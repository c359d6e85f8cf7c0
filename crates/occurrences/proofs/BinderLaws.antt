-- A node stands inside one row of binders.
use Rattle.std.proofs.Common.{◌≡◌, ◌∙◌, refl, sym, ap, subst, ℕ, List, [], ◌∷◌, ◌++◌, Option, Some, None}
use Rattle.std.specs.Prelude.{slice_get}
use Rattle.eb_value.specs.declared.types.EbType.{EbType}
use Rattle.eb_term.specs.declared.problem.Problem.{Problem}
use Rattle.eb_term.specs.declared.term.Term.{Term}
use Rattle.eb_term.specs.Nodes.{nodes_of}
use Rattle.problem_nodes.specs.declared.nodes.Above.{Above}
use Rattle.problem_nodes.specs.declared.nodes.Above.TheVariants as above
use Rattle.problem_nodes.specs.Places.{StandsBelow}
use Rattle.occurrences.specs.Binding.{binds}
use Rattle.occurrences.specs.Occurrences as row

abbrev StandsBelowOne : Problem → Type 0
StandsBelowOne p = (k : ℕ) (a b : Above) → StandsBelow p k a → StandsBelow p k b → a ≡ b

-- the row of a part, by what its node binds there
pub data Beneath (p : Problem) (number : ℕ) (types : List EbType) : Option EbType → Type 0 where
  same : row.StandsInside p number types → Beneath p number types None
  more : (ty : EbType) (outer : List EbType) → row.StandsInside p number outer → types ≡ outer ++ ty ∷ [] → Beneath p number types (Some ty)

-- the row of a node, by what it stands below
abbrev Row : Problem → List EbType → Above → Type 0
Row p types (above.Definition number) = types ≡ []
Row p types (above.Fact number) = types ≡ []
Row p types (above.Part number part) = (t : Term) × (slice_get (nodes_of p) number ≡ Some t) × Beneath p number types (binds t part)

row_by : (p : Problem) → StandsBelowOne p → (k : ℕ) (types : List EbType) (a : Above) → StandsBelow p k a → row.StandsInside p k types → Row p types a
row_by p once k types a is (row.definition number below) = subst (Row p types) (once k (above.Definition number) a below is) refl
row_by p once k types a is (row.fact number below) = subst (Row p types) (once k (above.Fact number) a below is) refl
row_by p once k types a is (row.beside number part t below there none outer) =
    subst (Row p types) (once k (above.Part number part) a below is) (t, there, subst (Beneath p number types) (sym none) (same outer))
row_by p once k types a is (row.within {types = front} number part t ty below there some outer) =
    subst (Row p types) (once k (above.Part number part) a below is) (t, there, subst (Beneath p number types) (sym some) (more ty front outer refl))

-- two rows beneath one node
beneath : (p : Problem) (number part : ℕ) (types : List EbType) (t u : Term) (o : Option EbType) → binds t part ≡ o → slice_get (nodes_of p) number ≡ Some t
    → slice_get (nodes_of p) number ≡ Some u → Beneath p number types (binds u part) → Beneath p number types o
beneath p number part types t u o is et eu b =
    let same : u ≡ t = (let e : Some u ≡ Some t = sym eu ∙ et in cc) in
    subst (Beneath p number types) (ap (λ z. binds z part) same ∙ is) b

by_beside : (p : Problem) (number : ℕ) (a b : List EbType) → ((c : List EbType) → row.StandsInside p number c → a ≡ c) → Beneath p number b None → a ≡ b
by_beside p number a b one (same inner) = one b inner

by_within : (p : Problem) (number : ℕ) (front b : List EbType) (ty : EbType) → ((c : List EbType) → row.StandsInside p number c → front ≡ c) → Beneath p number b (Some ty)
    → front ++ ty ∷ [] ≡ b
by_within p number front b ty one (more again first inner is) = ap (λ x. x ++ ty ∷ []) (one first inner) ∙ sym is

pub one_row : (p : Problem) → StandsBelowOne p → (k : ℕ) (a b : List EbType) → row.StandsInside p k a → row.StandsInside p k b → a ≡ b
one_row p once k a b (row.definition number below) y = sym (row_by p once k b (above.Definition number) below y)
one_row p once k a b (row.fact number below) y = sym (row_by p once k b (above.Fact number) below y)
one_row p once k a b (row.beside number part t below there none outer) y =
    let r = row_by p once k b (above.Part number part) below y in
    by_beside p number a b (λ c z. one_row p once number a c outer z) (beneath p number part b t r.0 None none there r.1 r.2)
one_row p once k a b (row.within {types = front} number part t ty below there some outer) y =
    let r = row_by p once k b (above.Part number part) below y in
    by_within p number front b ty (λ c z. one_row p once number front c outer z) (beneath p number part b t r.0 (Some ty) some there r.1 r.2)

-- a part of a node stands inside the node's binders, and inside that which the node is
pub stands_within : (p : Problem) (number part : ℕ) (t : Term) (ty : EbType) (types : List EbType) → slice_get (nodes_of p) number ≡ Some t → binds t part ≡ Some ty
    → row.StandsInside p number types → (k : ℕ) → StandsBelow p k (above.Part number part) → row.StandsInside p k (types ++ ty ∷ [])
stands_within p number part t ty types there some outer k below = row.within number part t ty below there some outer

pub stands_beside : (p : Problem) (number part : ℕ) (t : Term) (types : List EbType) → slice_get (nodes_of p) number ≡ Some t → binds t part ≡ None
    → row.StandsInside p number types → (k : ℕ) → StandsBelow p k (above.Part number part) → row.StandsInside p k types
stands_beside p number part t types there none outer k below = row.beside number part t below there none outer
