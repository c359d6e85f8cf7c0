use Rattle.std.proofs.Common.{rules}
use Rattle.eb_term.specs.declared.term.Head.{the_lemmas}
use Rattle.eb_term.specs.Terms as term
use Rattle.eb_term.proofs.NodeLaws as laws
use Rattle.eb_term.proofs.laws.nodes_are_a_term_and_those_of_its_parts.Goals as goal

pub returns-clause-truth : goal.returns-clause-truth
returns-clause-truth c = λ b. laws.truth_nodes (term.truth b) b (search (rules, the_lemmas))

pub returns-clause-literal : goal.returns-clause-literal
returns-clause-literal c = λ v ty. laws.literal_nodes (term.literal v ty) v ty (search (rules, the_lemmas))

pub returns-clause-reference : goal.returns-clause-reference
returns-clause-reference c = λ place ty. laws.reference_nodes (term.reference place ty) place ty (search (rules, the_lemmas))

pub returns-clause-variable : goal.returns-clause-variable
returns-clause-variable c = λ k path ty. laws.variable_nodes (term.variable k path ty) k path ty (search (rules, the_lemmas))

pub returns-clause-infinite : goal.returns-clause-infinite
returns-clause-infinite c = λ i. laws.infinite_nodes (term.infinite i) i (search (rules, the_lemmas))

pub returns-clause-identity : goal.returns-clause-identity
returns-clause-identity c = λ ty. laws.identity_nodes (term.identity ty) ty (search (rules, the_lemmas))

pub returns-clause-projection : goal.returns-clause-projection
returns-clause-projection c = λ s a b. laws.projection_nodes (term.projection s a b) s a b (search (rules, the_lemmas))

pub returns-clause-unary : goal.returns-clause-unary
returns-clause-unary c = λ o a. laws.unary_nodes (term.unary o a) a o (search (rules, the_lemmas))

pub returns-clause-binary : goal.returns-clause-binary
returns-clause-binary c = λ o a b. laws.binary_nodes (term.binary o a b) a b o (search (rules, the_lemmas))

pub returns-clause-many : goal.returns-clause-many
returns-clause-many c = λ o ts. laws.many_nodes (term.many o ts) o ts (search (rules, the_lemmas))

pub returns-clause-over : goal.returns-clause-over
returns-clause-over c = λ o range body. laws.over_nodes (term.over o range body) range body o (search (rules, the_lemmas))

pub returns-clause-all : goal.returns-clause-all
returns-clause-all c = λ o ty body. laws.all_nodes (term.all o ty body) body o ty (search (rules, the_lemmas))
