use Rattle.std.proofs.Common.{◌∙◌, ◌+◌, ◌++◌, ◌||◌, ◌∷◌, [], sym, subst, ap, refl, get_or, false}
use Rattle.eb_scoping.proofs.MarkLaws.{Marking, marking_more}
use Rattle.eb_scoping.proofs.models.marked.Goals as goal

pub loop-i-preserved : goal.loop-i-preserved
loop-i-preserved c = let us = c.args.units.now in let has = c.loop-i.is_behind_machine || c.is_machine-is_behind_machine.result in
    subst (λ z. Marking us (c.loop-i.i + 1) z has) (sym (c.in_ok-push.ensures.ok ∙ ap (λ z. c.loop-i.marks ++ z ∷ []) c.is_marked.ensures))
    (marking_more us c.args.contexts.now c.loop-i.i c.unit_at-unit.result.now (get_or c.args.contexts.now c.loop-i.i false) c.loop-i.marks c.loop-i.is_behind_machine has c.requires c.loop-i-test.true c.unit_at-unit.ensures refl
    (ap (λ z. c.loop-i.is_behind_machine || z) c.is_machine-is_behind_machine.ensures) c.loop-i.invariant)
