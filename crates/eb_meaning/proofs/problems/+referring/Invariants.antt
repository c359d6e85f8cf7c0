use Rattle.std.proofs.Common.{◌≡◌, drop}
use Rattle.std.specs.List.{list_any}
use Rattle.eb_meaning.specs.Problems as spec
use Rattle.eb_meaning.proofs.problems.+referring.Given as goal

abbrev pub invariant-one_names_undefined-loop-term : goal.invariant-one_names_undefined-loop-term
invariant-one_names_undefined-loop-term l = list_any (spec.names_undefined l.slots) l.terms ≡ list_any (spec.names_undefined l.slots) (drop l.term-index l.terms)
