use Rattle.std.proofs.Common.{rules, ◌≡◌, ◌↔◌, sym, subst, ℤ, Some, None, cond}
use Rattle.int_dom.specs.Intervals as spec
use Rattle.int_dom.proofs.IntervalLaws.{single_is}
use Rattle.int_dom.proofs.interval.Interval.single.Goals as goal

pub returns : goal.returns
returns c =
    let is : c.then_some.result ≡ cond (spec.is_single c.args.self) (Some c.args.self.lo) None = search rules in
    λ n. subst (λ r. (r ≡ Some n) ↔ ((m : ℤ) → spec.Has c.args.self m ↔ (m ≡ n))) (sym is) (single_is c.args.self n)
