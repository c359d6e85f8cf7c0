use Rattle.std.proofs.Common.{sym, subst, []}
use Rattle.eb_lowering.specs.Lowering as spec
use Rattle.eb_lowering.specs.steps.Anchoring.{Writes}
use Rattle.eb_lowering.proofs.LeafLaws.{all_written, not_written}
use Rattle.eb_lowering.proofs.anchors.leaves_of.Goals as goal

pub returns-then-is_made : goal.returns-then-is_made
returns-then-is_made c = λ s.
    all_written c.push_leaves.new.leaves (spec.lowered s c.args.formula.now).leaves
    (subst (λ b. Writes [] c.push_leaves.new.leaves [] b (spec.lowered s c.args.formula.now).leaves) c.if-is_made.true
    (subst (λ z. Writes z c.push_leaves.new.leaves [] c.in_ok-is_made.is_made (spec.lowered s c.args.formula.now).leaves) c.new-leaves.ensures (c.in_ok-is_made.ensures s)))

pub returns-else-is_made : goal.returns-else-is_made
returns-else-is_made c = λ s. sym (not_written c.new-leaves.result c.push_leaves.new.leaves [] c.in_ok-is_made.is_made (spec.lowered s c.args.formula.now).leaves c.if-is_made.false (c.in_ok-is_made.ensures s))
