use Rattle.std.proofs.Common.{◌<◌, ◌≤◌, get_or, false, refl, sym, subst}
use Rattle.eb_scoping.specs.Sets.{has_text}
use Rattle.eb_lower.proofs.FactLaws.{carried_more, carried_all}
use Rattle.eb_lower.proofs.facts.carriers.Goals as goal

pub loop-i-preserved : goal.loop-i-preserved
loop-i-preserved c = λ q. let us = c.args.units.now in let bs = c.args.marks.now in let i = c.loop-i.i in
    carried_more us bs i c.index-units-i.result (get_or bs i false) q (has_text c.insert_unit_carriers.new.set q) (has_text c.loop-i.set q) c.loop-i-test.true (subst (λ z. i < z) (sym c.requires) c.loop-i-test.true) c.index-units-i.is refl
    (c.loop-i.invariant q) (c.in_ok-insert_unit_carriers.ensures q)

pub returns : goal.returns
returns c = λ q. let l = c.loop-i-test.false in carried_all c.args.units.now c.args.marks.now c.loop-i.i q (has_text c.loop-i.set q) l (subst (λ z. z ≤ c.loop-i.i) (sym c.requires) l) (c.loop-i.invariant q)
