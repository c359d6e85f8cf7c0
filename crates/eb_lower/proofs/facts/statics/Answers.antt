use Rattle.std.proofs.Common.{◌<◌, ◌≤◌, get_or, false, refl, sym, subst}
use Rattle.eb_lower.specs.steps.Facts.{seen_heads}
use Rattle.eb_lower.proofs.FactLaws.{headed_more, grouped_statics}
use Rattle.eb_lower.proofs.facts.statics.Goals as goal

pub loop-i-preserved : goal.loop-i-preserved
loop-i-preserved c = let us = c.args.units.now in let bs = c.args.marks.now in let i = c.loop-i.i in
    headed_more us bs i c.index-units-i.result (get_or bs i false) (seen_heads c.push_unit.new.heads.items) (seen_heads c.loop-i.heads.items) c.loop-i-test.true (subst (λ z. i < z) (sym c.requires) c.loop-i-test.true) c.index-units-i.is refl
    c.loop-i.invariant c.in_ok-push_unit.ensures

pub returns : goal.returns
returns c = let l = c.loop-i-test.false in
    grouped_statics c.args.units.now c.args.marks.now c.loop-i.i c.loop-i.heads.items c.deref.result.now c.grouped.result l (subst (λ z. z ≤ c.loop-i.i) (sym c.requires) l) c.loop-i.invariant c.deref.ensures.value c.grouped.ensures
