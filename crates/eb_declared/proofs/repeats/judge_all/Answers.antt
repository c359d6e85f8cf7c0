use Rattle.std.proofs.Common.{◌+◌, map, take, drop, sym, subst}
use Rattle.eb_declared.specs.steps.Written as seen
use Rattle.eb_declared.specs.steps.Keys.{JudgesFront}
use Rattle.eb_declared.proofs.KeyLaws.{judged_first, judges_none}
use Rattle.eb_declared.proofs.RepeatLaws.{distinct_more, taken_more, parts_at}
use Rattle.eb_declared.proofs.repeats.judge_all.Goals as goal

pub loop-declaration-init : goal.loop-declaration-init
loop-declaration-init c = judges_none c.new.result c.new-2.result c.new.ensures.empty c.new-2.ensures.empty

pub returns-in-Err : goal.returns-in-Err
returns-in-Err c = let xs = c.args.declarations.now in let i = c.loop-declaration.declaration-index in let x = c.declaration-item.result in
    let before = map seen.declaration (take i xs) in let n = c.judge.new.known in
    judged_first n.keys n.parameters before (map seen.declaration (drop (i + 1) xs)) (seen.declaration x) (map seen.declaration xs) c.in-Err.fault c.loop-declaration.invariant.distinct
    (parts_at seen.declaration xs i x c.loop-declaration-test.true c.declaration-item.is) (c.in-Err.ensures before c.loop-declaration.invariant.keeps)

pub loop-declaration-preserved : goal.loop-declaration-preserved
loop-declaration-preserved c = let xs = c.args.declarations.now in let i = c.loop-declaration.declaration-index in let x = c.declaration-item.result in
    let before = map seen.declaration (take i xs) in let n = c.judge.new.known in let h = c.in_default.ensures before c.loop-declaration.invariant.keeps in
    subst (λ z. JudgesFront n.keys n.parameters z) (sym (taken_more seen.declaration xs i x c.loop-declaration-test.true c.declaration-item.is))
    (record { keeps = h.0; distinct = distinct_more before (seen.declaration x) c.loop-declaration.invariant.distinct h.1 })
