use Rattle.std.proofs.Common.{◌∙◌, ap, ap₂, sym, refl, ◌++◌, map}
use Rattle.eb_lowering.specs.declared.anchors.Range.TheVariants as kept
use Rattle.eb_lowering.specs.Anchors as anchor
use Rattle.eb_lowering.specs.Lowering as spec
use Rattle.eb_lowering.specs.steps.Anchoring.{seen, conjunct}
use Rattle.eb_lowering.proofs.AnchorLaws.{not_made, no_anchor, an_anchor, largest_pushed}
use Rattle.eb_lowering.proofs.anchors.push_anchor.Goals as goal

pub returns-in_default-clause-reads : goal.returns-in_default-clause-reads
returns-in_default-clause-reads c = λ s.
    not_made s (spec.lowered s c.args.element.now) (spec.lowered s c.args.range.now) c.args.free.now c.args.ranges.now.items (sym (c.in_ok-leaves.ensures s) ∙ c.in_default.is)

pub returns-then-not-is_anchor-clause-reads : goal.returns-then-not-is_anchor-clause-reads
returns-then-not-is_anchor-clause-reads c = λ s.
    no_anchor s (spec.lowered s c.args.element.now) (spec.lowered s c.args.range.now) c.in-Some.leaves c.args.free.now c.args.ranges.now.items (sym (c.in_ok-leaves.ensures s) ∙ c.in-Some.is)
    (ap₂ (λ z fr. anchor.anchors fr (conjunct s z c.args.range.now) z) (sym c.as_slice.ensures) (sym c.as_slice-2.ensures) ∙ sym (c.is_anchor.ensures s) ∙ c.if-not-is_anchor.true)

pub returns-clause-reads : goal.returns-clause-reads
returns-clause-reads c = λ s more.
    an_anchor s (spec.lowered s c.args.element.now) (spec.lowered s c.args.range.now) c.in-Some.leaves c.args.free.now c.in_ok-free.field-0 c.args.ranges.now.items (kept.Over c.in-Some.leaves c.args.range) (sym (c.in_ok-leaves.ensures s) ∙ c.in-Some.is)
    (ap₂ (λ z fr. anchor.anchors fr (conjunct s z c.args.range.now) z) (sym c.as_slice.ensures) (sym c.as_slice-2.ensures) ∙ sym (c.is_anchor.ensures s) ∙ c.if-not-is_anchor.false)
    (c.in_ok-free.ensures ∙ ap₂ anchor.without c.as_slice-3.ensures c.as_slice-4.ensures) refl more
    ∙ ap (λ z. map (seen s) z ++ anchor.ranges_of c.in_ok-free.field-0 more) (sym c.in_ok-push.ensures.items)

pub returns-clause-smaller : goal.returns-clause-smaller
returns-clause-smaller c = largest_pushed c.args.ranges.now.items c.push.new.self.items (kept.Over c.in-Some.leaves c.args.range) c.in_ok-push.ensures.items
