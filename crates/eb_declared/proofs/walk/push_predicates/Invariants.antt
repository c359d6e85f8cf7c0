use Rattle.std.proofs.Common.{◌≡◌, ◌++◌, map, take}
use Rattle.std.specs.Prelude.{[]}
use Rattle.eb_declared.specs.Parts as spec
use Rattle.eb_declared.specs.Seen as seen
use Rattle.eb_declared.proofs.walk.push_predicates.Given as goal

abbrev pub invariant-loop-labelled : goal.invariant-loop-labelled
invariant-loop-labelled l = map seen.part l.out.items ≡ map seen.part l.initial.out.items ++ map (λ p. spec.formula (spec.in_event l.event []) p.predicate) (take l.labelled-index l.predicates)
