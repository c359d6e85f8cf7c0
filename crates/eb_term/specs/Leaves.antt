-- What stands at the ends of a term: the values of its literals, and the places that it refers to.
use Rattle.std.specs.Prelude.{ℕ, List, [], ◌∷◌, ◌++◌}
use Rattle.std.specs.List.{flat_map}
use Rattle.eb_value.specs.declared.value.Value.{Value}
use Rattle.eb_term.specs.declared.term.Term.{Term}
use Rattle.eb_term.specs.declared.term.Head.{Head-F}
use Rattle.eb_term.specs.declared.term.Head.TheOpen as head
use Rattle.eb_term.specs.Terms.{by_parts}

abbrev pub literals_step : Head-F (List Value) (List Value) → List Value
literals_step (head.Literal v ty) = v ∷ []
literals_step (head.Unary o a) = a
literals_step (head.Binary o a b) = a ++ b
literals_step (head.Many o es) = flat_map (λ e. e) es
literals_step (head.Over o range body) = range ++ body
literals_step (head.All o ty body) = body
literals_step _ = []

-- the values of the term's literals, from left to right
abbrev pub literals : Term → List Value
literals = by_parts (List Value) literals_step

abbrev pub references_step : Head-F (List ℕ) (List ℕ) → List ℕ
references_step (head.Reference place ty) = place ∷ []
references_step (head.Unary o a) = a
references_step (head.Binary o a b) = a ++ b
references_step (head.Many o es) = flat_map (λ e. e) es
references_step (head.Over o range body) = range ++ body
references_step (head.All o ty body) = body
references_step _ = []

-- the places of the term's references, from left to right
abbrev pub references : Term → List ℕ
references = by_parts (List ℕ) references_step
