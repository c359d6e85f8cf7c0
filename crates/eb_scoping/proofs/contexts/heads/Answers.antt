use Rattle.std.proofs.Common.{◌≡◌, length, sym, subst, arith}
use Rattle.eb_scoping.specs.steps.Heads.{AreHeads, seen_heads}
use Rattle.eb_scoping.proofs.IndexLaws.{heads_none, heads_more}
use Rattle.eb_scoping.proofs.contexts.heads.Goals as goal

pub loop-i-init : goal.loop-i-init
loop-i-init c = subst (λ z. AreHeads c.args.units.now 0 (seen_heads z)) (sym c.new-heads.ensures.items) (heads_none c.args.units.now)

pub loop-i-preserved : goal.loop-i-preserved
loop-i-preserved c = heads_more c.args.units.now c.loop-i.i (seen_heads c.loop-i.heads.items) c.loop-i.invariant c.index-units-i.result (seen_heads c.push_head.new.heads.items) c.loop-i-test.true c.index-units-i.is c.in_ok-push_head.ensures

pub returns : goal.returns
returns c = let e : c.loop-i.i ≡ length c.args.units.now = omega (arith, c.loop-i.auto.i-end, c.loop-i-test.false) in
    subst (λ z. AreHeads c.args.units.now z (seen_heads c.loop-i.heads.items)) e c.loop-i.invariant
