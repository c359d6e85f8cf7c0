use Rattle.std.proofs.Common.{rules, ◌≡◌, ◌↔◌, sym, subst, ℤ, ◌≤ℤ◌, ◌<ℤ◌, IsNone, IfSome}
use Rattle.int_dom.specs.Intervals as spec
use Rattle.int_dom.proofs.IntervalLaws.{filled_none, filled_some, at_most_has, above_has}
use Rattle.int_dom.proofs.interval.Interval.le.Goals as goal

pub returns-clause-none_low : goal.returns-clause-none_low
returns-clause-none_low c =
    let part : c.filled.result ≡ spec.filled (spec.at_most c.args.n c.args.self) = search rules in
    let none = filled_none (spec.at_most c.args.n c.args.self) (λ m. spec.Has c.args.self m × (m ≤ℤ c.args.n)) (at_most_has c.args.n c.args.self) in
    ((λ e m h l. none.0 (subst IsNone part e) m (h, l)), λ h. subst IsNone (sym part) (none.1 (λ m i. h m i.0 i.1)))

pub returns-clause-low_has : goal.returns-clause-low_has
returns-clause-low_has c =
    let part : c.filled.result ≡ spec.filled (spec.at_most c.args.n c.args.self) = search rules in
    subst (λ r. IfSome r (λ d. (m : ℤ) → spec.Has d m ↔ (spec.Has c.args.self m × (m ≤ℤ c.args.n)))) (sym part)
    (filled_some (spec.at_most c.args.n c.args.self) (λ m. spec.Has c.args.self m × (m ≤ℤ c.args.n)) (at_most_has c.args.n c.args.self))

pub returns-clause-none_high : goal.returns-clause-none_high
returns-clause-none_high c =
    let part : c.above.result ≡ spec.filled (spec.above c.args.n c.args.self) = search rules in
    let none = filled_none (spec.above c.args.n c.args.self) (λ m. spec.Has c.args.self m × (c.args.n <ℤ m)) (above_has c.args.n c.args.self) in
    ((λ e m h l. none.0 (subst IsNone part e) m (h, l)), λ h. subst IsNone (sym part) (none.1 (λ m i. h m i.0 i.1)))

pub returns-clause-high_has : goal.returns-clause-high_has
returns-clause-high_has c =
    let part : c.above.result ≡ spec.filled (spec.above c.args.n c.args.self) = search rules in
    subst (λ r. IfSome r (λ d. (m : ℤ) → spec.Has d m ↔ (spec.Has c.args.self m × (c.args.n <ℤ m)))) (sym part)
    (filled_some (spec.above c.args.n c.args.self) (λ m. spec.Has c.args.self m × (c.args.n <ℤ m)) (above_has c.args.n c.args.self))
