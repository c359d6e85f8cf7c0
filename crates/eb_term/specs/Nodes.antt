-- The nodes of a problem: its formulas with all their parts, in one order.
use Rattle.std.specs.Prelude.{List, [], ◌∷◌, ◌++◌, map}
use Rattle.std.specs.List.{flat_map}
use Rattle.eb_term.specs.declared.problem.Problem.{Problem}
use Rattle.eb_term.specs.declared.term.Term.{Term}
use Rattle.eb_term.specs.declared.term.Head.{Head-F}
use Rattle.eb_term.specs.declared.term.Head.TheOpen as head
use Rattle.eb_term.specs.Terms as term
use Rattle.eb_term.specs.Terms.{by_parts}

-- A term, and the list of it and all that it is made of.
pub record Listed : Type 0 where
  pub whole : Term
  pub nodes : List Term

-- the term, and then the nodes of its parts
abbrev pub listed : Term → List Term → Listed
listed t parts = record { whole = t; nodes = t ∷ parts }

abbrev pub listed_step : Head-F Listed Listed → Listed
listed_step (head.Truth b) = listed (term.truth b) []
listed_step (head.Literal v ty) = listed (term.literal v ty) []
listed_step (head.Reference place ty) = listed (term.reference place ty) []
listed_step (head.Variable k path ty) = listed (term.variable k path ty) []
listed_step (head.Infinite i) = listed (term.infinite i) []
listed_step (head.Identity ty) = listed (term.identity ty) []
listed_step (head.Projection s a b) = listed (term.projection s a b) []
listed_step (head.Unary o a) = listed (term.unary o a.whole) a.nodes
listed_step (head.Binary o a b) = listed (term.binary o a.whole b.whole) (a.nodes ++ b.nodes)
listed_step (head.Many o es) = listed (term.many o (map (λ e. e.whole) es)) (flat_map (λ e. e.nodes) es)
listed_step (head.Over o range body) = listed (term.over o range.whole body.whole) (range.nodes ++ body.nodes)
listed_step (head.All o ty body) = listed (term.all o ty body.whole) body.nodes

-- the term itself and then those of its parts, from left to right, a binder's range before its body
abbrev pub subterms : Term → List Term
subterms t = (by_parts Listed listed_step t).nodes

-- those of the definitions and then of the facts, in order
abbrev pub nodes_of : Problem → List Term
nodes_of p = flat_map subterms p.definitions ++ flat_map subterms p.facts
