-- What each node stands below, by its number: rows in the order of the nodes.
use Rattle.std.specs.Prelude.{ℕ, suc, ◌+◌, List, [], ◌∷◌, ◌++◌, length, Option, slice_get}
use Rattle.std.specs.List.{flat_map}
use Rattle.eb_term.specs.declared.problem.Problem.{Problem}
use Rattle.eb_term.specs.declared.term.Term.{Term}
use Rattle.eb_term.specs.declared.term.Head.{Head-F}
use Rattle.eb_term.specs.declared.term.Head.TheOpen as head
use Rattle.eb_term.specs.Terms.{by_parts}
use Rattle.eb_term.specs.Nodes.{subterms}
use Rattle.problem_nodes.specs.declared.nodes.Above.{Above}
use Rattle.problem_nodes.specs.declared.nodes.Above.TheVariants as above
use Rattle.problem_nodes.specs.Places.{size}

-- What the nodes of a term stand below, from its own number and what it stands below.
abbrev pub Row : Type 0
Row = ℕ → Above → List Above

-- one row after the other, where a place tells what its term stands below
abbrev pub joined : (ℕ → Above) → ℕ → ℕ → List Row → List Above
joined made place k [] = []
joined made place k (f ∷ fs) = f k (made place) ++ joined made (suc place) (k + length (f k (made place))) fs

abbrev pub rows_of_parts : Head-F Row Row → List Row
rows_of_parts (head.Unary o a) = a ∷ []
rows_of_parts (head.Binary o a b) = a ∷ b ∷ []
rows_of_parts (head.Many o es) = es
rows_of_parts (head.Over o range body) = range ∷ body ∷ []
rows_of_parts (head.All o ty body) = body ∷ []
rows_of_parts _ = []

unfoldable pub row : Term → Row
row = by_parts Row (λ layer k a. a ∷ joined (above.Part k) 0 (suc k) (rows_of_parts layer))

-- what the nodes of terms that follow each other stand below, from a number on
abbrev pub rows : (ℕ → Above) → ℕ → ℕ → List Term → List Above
rows made place k [] = []
rows made place k (t ∷ ts) = row t k (made place) ++ rows made (suc place) (k + size t) ts

-- what the nodes of a problem stand below
abbrev pub aboves_of : Problem → List Above
aboves_of p = rows above.Definition 0 0 p.definitions ++ rows above.Fact 0 (length (flat_map subterms p.definitions)) p.facts

-- what the node with this number stands below, where there is one
abbrev pub above_of : Problem → ℕ → Option Above
above_of p k = slice_get (aboves_of p) k
