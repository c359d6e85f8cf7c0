use Rattle.std.proofs.Common.{◌≡◌, length}
use Rattle.domain_store.specs.steps.Firsts.{Each, IsOfTerm, Extends}
use Rattle.domain_store.proofs.firsts.term_numbers.Given as goal

abbrev pub invariant-loop-term : goal.invariant-loop-term
invariant-loop-term l = record {
  count : length l.numbers.items ≡ l.term-index;
  each : Each (IsOfTerm l.wholes.types l.terms) l.numbers.items;
  keeps : Extends l.fn.wholes l.wholes;
}
