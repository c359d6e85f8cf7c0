use Rattle.std.proofs.Common.{ap, sym, subst}
use Rattle.std.specs.Option.{option_copied}
use Rattle.eb_lowering.specs.steps.Anchoring.{Anchors, conjuncts_of}
use Rattle.eb_lowering.proofs.anchors.push_some.Goals as goal

pub returns-in_ok-goes_on-in-Some-clause-reads : goal.returns-in_ok-goes_on-in-Some-clause-reads
returns-in_ok-goes_on-in-Some-clause-reads c = λ s.
    subst (λ o. Anchors s (conjuncts_of s o) c.args.free.now c.push_anchors.new.free c.args.ranges.now.items c.push_anchors.new.ranges.items c.in_ok-goes_on-in-Some.goes_on)
    (sym (ap option_copied c.in-Some.is)) (c.in_ok-goes_on-in-Some.ensures.reads s)
