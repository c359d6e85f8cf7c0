use Rattle.std.proofs.Common.{◌∙◌, ◌++◌, ◌<◌, ◌≤◌, get_or, false, refl, sym, ap, subst}
use Rattle.eb_declared.specs.Parts.{unit_parts}
use Rattle.eb_declared.proofs.UnitLaws.{parts_more, parts_all}
use Rattle.eb_declared.proofs.walk.parts.Goals as goal

pub loop-i-preserved : goal.loop-i-preserved
loop-i-preserved c = let us = c.args.units.now in let bs = c.args.marks.now in let i = c.loop-i.i in let u = c.index-units-i.result in let b = get_or bs i false in
    c.in_ok-push_unit.ensures ∙ (ap (λ z. z ++ unit_parts b u) c.loop-i.invariant
    ∙ sym (parts_more us bs i u b c.loop-i-test.true (subst (λ z. i < z) (sym c.requires) c.loop-i-test.true) c.index-units-i.is refl))

pub returns : goal.returns
returns c = let l = c.loop-i-test.false in c.loop-i.invariant ∙ parts_all c.args.units.now c.args.marks.now c.loop-i.i l (subst (λ z. z ≤ c.loop-i.i) (sym c.requires) l)
