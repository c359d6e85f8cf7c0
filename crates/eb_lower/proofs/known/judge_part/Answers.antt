use Rattle.std.proofs.Common.{◌∷◌, [], ◌+◌, map, take, drop, sym, subst}
use Rattle.std.specs.List.{AllByRecursion}
use Rattle.eb_lower.specs.Usages.{IsKnown}
use Rattle.eb_lower.specs.steps.Positions as seen
use Rattle.eb_lower.proofs.AnswerLaws.{usage_unknown, all_more}
use Rattle.eb_lower.proofs.PartLaws.{taken_more, parts_at}
use Rattle.eb_lower.proofs.PlacedLaws.{placed_at}
use Rattle.eb_lower.proofs.known.judge_part.Goals as goal

pub returns-in-Err-clause-known : goal.returns-in-Err-clause-known
returns-in-Err-clause-known c = λ marks t. let us = c.args.units.now in let xs = c.args.usages.now in let i = c.loop-usage.usage-index in let x = c.usage-item.result in
    usage_unknown us marks (map seen.usage xs) (map seen.usage (take i xs)) (map seen.usage (drop (i + 1) xs)) (seen.usage x) c.in-Err.fault (c.loop-usage.invariant.known marks t)
    (parts_at seen.usage xs i x c.loop-usage-test.true c.usage-item.is) (c.in-Err.ensures.known marks t)

pub loop-usage-preserved : goal.loop-usage-preserved
loop-usage-preserved c = let us = c.args.units.now in let xs = c.args.usages.now in let i = c.loop-usage.usage-index in let x = c.usage-item.result in
    record {
      reach = c.in_default.ensures.reached;
      known = λ marks t. subst (AllByRecursion (IsKnown us marks)) (sym (taken_more seen.usage xs i x c.loop-usage-test.true c.usage-item.is))
          (all_more us marks (map seen.usage (take i xs)) (seen.usage x ∷ []) (c.loop-usage.invariant.known marks t) (c.in_default.ensures.known marks t, tt));
    }

pub judge_usage-requires-clause-placed : goal.judge_usage-requires-clause-placed
judge_usage-requires-clause-placed c = placed_at c.args.units.now seen.usage c.args.usages.now c.loop-usage.usage-index c.usage-item.result c.requires.placed c.loop-usage-test.true c.usage-item.is
