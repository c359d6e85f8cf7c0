use Rattle.std.proofs.Common.{◌∙◌, ap, ◌++◌, map}
use Rattle.std.specs.Option.{option_copied}
use Rattle.eb_lowering.specs.steps.Anchoring as step
use Rattle.eb_lowering.proofs.AnchorLaws.{whole, no_larger}
use Rattle.eb_lowering.proofs.anchors.ranges_of.Goals as goal

pub returns-clause-reads : goal.returns-clause-reads
returns-clause-reads c = λ s.
    whole s (step.conjuncts_of s (option_copied c.args.predicate)) c.args.free c.push_some.new.free c.new-ranges.result.items c.push_some.new.ranges.items c.push_all.new.ranges.items c.in_ok-push_some.field-0
    c.new-ranges.ensures.items (c.in_ok-push_some.ensures.reads s) (c.in_ok-push_all.ensures ∙ ap (λ z. c.push_some.new.ranges.items ++ map step.of_all z) c.as_slice.ensures)

pub returns-clause-smaller : goal.returns-clause-smaller
returns-clause-smaller c =
    no_larger c.new-ranges.result.items c.push_some.new.ranges.items c.push_all.new.ranges.items c.push_some.new.free (step.size_of (option_copied c.args.predicate))
    c.new-ranges.ensures.items c.in_ok-push_some.ensures.smaller (c.in_ok-push_all.ensures ∙ ap (λ z. c.push_some.new.ranges.items ++ map step.of_all z) c.as_slice.ensures)
