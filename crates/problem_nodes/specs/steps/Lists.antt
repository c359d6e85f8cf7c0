-- The lists that are made while the nodes are walked.
use Rattle.std.specs.Prelude.{ℕ, suc, ◌+◌, List, [], ◌∷◌, ◌++◌, length}
use Rattle.eb_term.specs.declared.problem.Problem.{Problem}
use Rattle.eb_term.specs.declared.term.Term.{Term}
use Rattle.eb_term.specs.Nodes.{nodes_of}
use Rattle.problem_nodes.specs.declared.nodes.Above.{Above}
use Rattle.problem_nodes.specs.declared.nodes.Above.TheVariants as above
use Rattle.problem_nodes.specs.declared.lists.Made.{Made}
use Rattle.problem_nodes.specs.declared.lists.Made.TheVariants as made
use Rattle.problem_nodes.specs.Places.{size}
use Rattle.problem_nodes.specs.Aboves.{aboves_of}

-- The nodes so far, what each stands below, and where its nodes end.
pub record Listed : Type 0 where
  pub terms : List Term
  pub aboves : List Above
  pub ends : List ℕ

-- where the nodes of nodes end, of which the first has this number
abbrev pub ends_from : ℕ → List Term → List ℕ
ends_from k [] = []
ends_from k (t ∷ ts) = (k + size t) ∷ ends_from (suc k) ts

-- the lists with more nodes, all of whose own nodes are among them
abbrev pub extended : Listed → List Term → List Above → Listed
extended l nodes rows = record { terms = l.terms ++ nodes; aboves = l.aboves ++ rows; ends = l.ends ++ ends_from (length l.terms) nodes }

-- the lists with one more node, of which it isn't known yet where its nodes end
abbrev pub begun : Listed → Term → Above → Listed
begun l t a = record { terms = l.terms ++ (t ∷ []); aboves = l.aboves ++ (a ∷ []); ends = l.ends ++ (0 ∷ []) }

-- what a term stands below, by what it and those beside it are and by its place among them
abbrev pub made_at : Made → ℕ → Above
made_at made.Definitions place = above.Definition place
made_at made.Facts place = above.Fact place
made_at (made.Parts number) place = above.Part number place

-- the lists of a problem
abbrev pub lists_of : Problem → Listed
lists_of p = record { terms = nodes_of p; aboves = aboves_of p; ends = ends_from 0 (nodes_of p) }
