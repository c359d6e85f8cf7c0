use Rattle.std.proofs.Common.{◌∙◌, ap, ap₂, sym, subst, ◌++◌, ◌∷◌, []}
use Rattle.eb_term.specs.declared.operators.Side.TheVariants as side
use Rattle.eb_lowering.specs.Anchors.{paired}
use Rattle.eb_lowering.specs.Lowering as spec
use Rattle.eb_lowering.specs.steps.Anchoring.{Writes}
use Rattle.eb_lowering.proofs.LeafLaws.{pair_writes, no_pair, of_maplet, not_written}
use Rattle.eb_lowering.proofs.LoweredRows as row
use Rattle.eb_lowering.proofs.anchors.+leaves.Goals as goal

pub push_leaves-returns-in_ok-is_made-in-Operator : goal.push_leaves-returns-in_ok-is_made-in-Operator
push_leaves-returns-in_ok-is_made-in-Operator t c = λ s.
    subst (λ o. Writes c.args.leaves.now c.push_pair.new.leaves c.args.path.now c.in_ok-is_made-in-Operator.is_made o)
    (ap₂ (λ a b. paired (spec.lowered s a).leaves (spec.lowered s b).leaves) c.get.ensures c.get-then-is_maplet.ensures
    ∙ sym (of_maplet c.in-Operator.operator (spec.lowered s c.in-Operator.first) (spec.lowered s c.in-Operator.second) (sym c.is_maplet.ensures ∙ c.if-is_maplet.true))
    ∙ sym (ap (λ l. l.leaves) (row.operator s c.args.formula.now c.in-Operator.operator c.in-Operator.first c.in-Operator.second c.in-Operator.is)))
    (c.in_ok-is_made-in-Operator.ensures s)

pub push_pair-returns-then-not-is_first : goal.push_pair-returns-then-not-is_first
push_pair-returns-then-not-is_first t c = λ s.
    no_pair (spec.lowered s c.args.first.now).leaves (spec.lowered s c.args.second.now).leaves
    (not_written c.args.leaves.now c.push_part.new.leaves (c.args.path.now ++ side.First ∷ []) c.in_ok-is_first.is_first (spec.lowered s c.args.first.now).leaves c.if-not-is_first.true (c.in_ok-is_first.ensures s))

pub push_pair-returns : goal.push_pair-returns
push_pair-returns t c = λ s.
    pair_writes c.args.leaves.now c.push_part.new.leaves c.push_part-2.new.leaves c.args.path.now (spec.lowered s c.args.first.now).leaves (spec.lowered s c.args.second.now).leaves c.in_ok-is_second.is_second
    (subst (λ b. Writes c.args.leaves.now c.push_part.new.leaves (c.args.path.now ++ side.First ∷ []) b (spec.lowered s c.args.first.now).leaves) c.if-not-is_first.false (c.in_ok-is_first.ensures s))
    (c.in_ok-is_second.ensures s)

pub push_part-returns : goal.push_part-returns
push_part-returns t c = λ s.
    subst (λ p. Writes c.args.leaves.now c.push_leaves.new.leaves p c.in_ok-is_made.is_made (spec.lowered s c.args.formula.now).leaves)
    (c.as_slice.ensures ∙ c.in_ok-path.ensures)
    (c.in_ok-is_made.ensures s)
