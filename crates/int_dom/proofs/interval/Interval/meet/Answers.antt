use Rattle.std.proofs.Common.{rules, ◌≡◌, ◌↔◌, sym, subst, ℤ, IsNone, IfSome}
use Rattle.int_dom.specs.Intervals as spec
use Rattle.int_dom.proofs.IntervalLaws.{filled_none, filled_some, common, common_has}
use Rattle.int_dom.proofs.interval.Interval.meet.Goals as goal

pub returns-clause-none : goal.returns-clause-none
returns-clause-none c =
    let part : c.filled.result ≡ spec.filled (common c.args.self c.args.other) = search rules in
    let none = filled_none (common c.args.self c.args.other) (λ n. spec.Has c.args.self n × spec.Has c.args.other n) (common_has c.args.self c.args.other) in
    ((λ e n a b. none.0 (subst IsNone part e) n (a, b)), λ h. subst IsNone (sym part) (none.1 (λ n i. h n i.0 i.1)))

pub returns-clause-both : goal.returns-clause-both
returns-clause-both c =
    let part : c.filled.result ≡ spec.filled (common c.args.self c.args.other) = search rules in
    subst (λ r. IfSome r (λ d. (n : ℤ) → spec.Has d n ↔ (spec.Has c.args.self n × spec.Has c.args.other n))) (sym part)
    (filled_some (common c.args.self c.args.other) (λ n. spec.Has c.args.self n × spec.Has c.args.other n) (common_has c.args.self c.args.other))
