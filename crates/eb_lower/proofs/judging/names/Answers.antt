use Rattle.std.proofs.Common.{sym, subst}
use Rattle.eb_scoping.specs.Models.{AreMarked}
use Rattle.eb_lower.specs.Unsupported.{unsupported}
use Rattle.eb_lower.proofs.PlaceLaws.{none_first, some_first}
use Rattle.eb_lower.proofs.AnswerLaws.{answered}
use Rattle.eb_lower.proofs.judging.names.Goals as goal

pub returns-in-Some-clause-cause : goal.returns-in-Some-clause-cause
returns-in-Some-clause-cause c = some_first (unsupported c.args.units.now) c.in-Some.place c.in-Some.ensures

pub judge-requires-clause-marked : goal.judge-requires-clause-marked
judge-requires-clause-marked c = subst (λ z. AreMarked c.args.units.now c.args.units.now z) (sym c.as_slice.ensures) c.in_ok-marks.ensures

pub judge-requires-clause-supported : goal.judge-requires-clause-supported
judge-requires-clause-supported c = none_first (unsupported c.args.units.now) c.in_default.ensures

pub returns : goal.returns
returns c = let r = answered c.args.units.now c.as_slice.result.now c.judge.result (subst (λ z. AreMarked c.args.units.now c.args.units.now z) (sym c.as_slice.ensures) c.in_ok-marks.ensures) c.judge.ensures in record { named = r.0; cause = r.1 }
