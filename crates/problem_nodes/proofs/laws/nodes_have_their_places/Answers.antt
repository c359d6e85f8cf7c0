use Rattle.std.proofs.Common.{sym, subst, ◌≤◌, ◌<◌}
use Rattle.std.proofs.lemmas.Option.{slice_get_past, slice_get_within}
use Rattle.problem_nodes.specs.Aboves.{aboves_of}
use Rattle.problem_nodes.proofs.LengthLaws.{aboves-length}
use Rattle.problem_nodes.proofs.PlaceLaws.{definition_stands, fact_stands, part_stands}
use Rattle.problem_nodes.proofs.OnceLaws.{once, below, below_row}
use Rattle.problem_nodes.proofs.AboveLaws.{row_stands}
use Rattle.problem_nodes.proofs.laws.nodes_have_their_places.Goals as goal

pub returns-clause-definitions : goal.returns-clause-definitions
returns-clause-definitions c = definition_stands

pub returns-clause-facts : goal.returns-clause-facts
returns-clause-facts c = fact_stands

pub returns-clause-parts : goal.returns-clause-parts
returns-clause-parts c = part_stands

pub returns-clause-below : goal.returns-clause-below
returns-clause-below c = below

pub returns-clause-once : goal.returns-clause-once
returns-clause-once c = once

pub returns-clause-above : goal.returns-clause-above
returns-clause-above c p k a = (below_row p k a, row_stands p k a)

pub returns-clause-there : goal.returns-clause-there
returns-clause-there c = λ p k a h. subst (λ n. k < n) (aboves-length p) (slice_get_within (aboves_of p) k a h)

pub returns-clause-past : goal.returns-clause-past
returns-clause-past c = λ p k h. slice_get_past (aboves_of p) k (subst (λ n. n ≤ k) (sym (aboves-length p)) h)
