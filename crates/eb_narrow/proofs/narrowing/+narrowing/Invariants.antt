use Rattle.std.proofs.Common.{◌≡◌, map, take}
use Rattle.eb_narrow.specs.Narrow.{narrowed}
use Rattle.eb_narrow.proofs.narrowing.+narrowing.Given as goal

abbrev pub invariant-terms_at-loop-term : goal.invariant-terms_at-loop-term
invariant-terms_at-loop-term l = l.all ≡ map (λ e. e.term l.depth) (map narrowed (take l.term-index l.terms))
