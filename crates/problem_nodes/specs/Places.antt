-- Where the nodes of a problem stand: their numbers in prefix order, and what each is a part of.
use Rattle.std.specs.Prelude.{◌≡◌, ℕ, suc, ◌+◌, ◌≤◌, List, [], ◌∷◌, length, Some, slice_get, MatchOption}
use Rattle.std.specs.List.{flat_map}
use Rattle.eb_term.specs.declared.problem.Problem.{Problem}
use Rattle.eb_term.specs.declared.term.Term.{Term}
use Rattle.eb_term.specs.declared.term.Head.TheOpen as head
use Rattle.eb_term.specs.Terms.{Layer, layer}
use Rattle.eb_term.specs.Nodes.{subterms, nodes_of}
use Rattle.problem_nodes.specs.declared.nodes.Above.{Above}
use Rattle.problem_nodes.specs.declared.nodes.Above.TheVariants as above

abbrev pub parts_of_layer : Layer → List Term
parts_of_layer (head.Unary o a) = a ∷ []
parts_of_layer (head.Binary o a b) = a ∷ b ∷ []
parts_of_layer (head.Many o es) = es
parts_of_layer (head.Over o range body) = range ∷ body ∷ []
parts_of_layer (head.All o ty body) = body ∷ []
parts_of_layer _ = []

-- the parts of a term, from left to right, a binder's range before its body
abbrev pub parts : Term → List Term
parts t = parts_of_layer (layer t)

-- how many nodes a term has
abbrev pub size : Term → ℕ
size t = length (subterms t)

-- the numbers of terms whose nodes follow each other, from a number on
abbrev pub starts : ℕ → List Term → List ℕ
starts k [] = []
starts k (t ∷ ts) = k ∷ starts (k + size t) ts

-- the numbers of the definitions, and of the facts
abbrev pub definition_roots : Problem → List ℕ
definition_roots p = starts 0 p.definitions

abbrev pub fact_roots : Problem → List ℕ
fact_roots p = starts (length (flat_map subterms p.definitions)) p.facts

-- the numbers of the parts of the node with this number
abbrev pub part_numbers : ℕ → Term → List ℕ
part_numbers k t = starts (suc k) (parts t)

-- the node is this definition, this fact, or the part at this place of a node
abbrev pub StandsBelow : Problem → ℕ → Above → Type 0
StandsBelow p k (above.Definition place) = slice_get (definition_roots p) place ≡ Some k
StandsBelow p k (above.Fact place) = slice_get (fact_roots p) place ≡ Some k
StandsBelow p k (above.Part number place) = MatchOption (slice_get (nodes_of p) number) ⊥ (λ t. slice_get (part_numbers number t) place ≡ Some k)

-- the number of the node after all nodes of the node with this number
abbrev pub IsEnd : Problem → ℕ → ℕ → Type 0
IsEnd p k end = MatchOption (slice_get (nodes_of p) k) ⊥ (λ t. end ≡ k + size t)

-- the node with this number has so many parts, or more
abbrev pub HasParts : Problem → ℕ → ℕ → Type 0
HasParts p number count = MatchOption (slice_get (nodes_of p) number) ⊥ (λ t. count ≤ length (parts t))
