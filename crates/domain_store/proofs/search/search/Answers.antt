use Rattle.std.proofs.Common.{◌≡◌, ◌∙◌, sym, subst, suc, ◌+◌, ◌-◌, ◌/◌, ◌<◌, [], length, take, get_or, arith}
use Rattle.std.specs.declared.cmp.Ordering.TheVariants.{Equal}
use Rattle.eb_value.specs.Values.{compare_all}
use Rattle.domain_store.specs.steps.Rows.{bounds_of, AllLess}
use Rattle.domain_store.proofs.RowLaws.{all_exact, less_front, over_back}
use Rattle.domain_store.proofs.PlaceLaws.{bounds_length, bounds_at, member_at}
use Rattle.domain_store.proofs.search.search.Goals as goal

pub returns-in-Equal-clause-found : goal.returns-in-Equal-clause-found
returns-in-Equal-clause-found c =
    let m = c.loop-low.low + (c.loop-low.high - c.loop-low.low) / 2 in
    let within : m < length c.args.row.now = omega arith in
    let same : compare_all (get_or (bounds_of c.args.keys.now c.args.row.now) m []) c.args.bound.now ≡ Equal = sym c.in-Equal.ensures in
    record {
      member = member_at c.args.row.now m within;
      values = sym (bounds_at c.args.keys.now c.args.row.now m within)
          ∙ all_exact (record { reflexive = c.order_is_total.ensures.reflexive; exact = c.order_is_total.ensures.exact; reversed = c.order_is_total.ensures.reversed; transitive = c.order_is_total.ensures.transitive })
          (get_or (bounds_of c.args.keys.now c.args.row.now) m []) c.args.bound.now same;
    }

pub loop-low-preserved-in-Less : goal.loop-low-preserved-in-Less
loop-low-preserved-in-Less c =
    let m = c.loop-low.low + (c.loop-low.high - c.loop-low.low) / 2 in
    let count : length (bounds_of c.args.keys.now c.args.row.now) ≡ length c.args.row.now = bounds_length c.args.keys.now c.args.row.now in
    let within : m < length (bounds_of c.args.keys.now c.args.row.now) = omega arith in
    let next : suc m ≡ m + 1 = omega arith in
    record {
      order = omega arith;
      within = omega arith;
      below = subst (λ n. AllLess (take n (bounds_of c.args.keys.now c.args.row.now)) c.args.bound.now) next
          (less_front (record { reflexive = c.order_is_total.ensures.reflexive; exact = c.order_is_total.ensures.exact; reversed = c.order_is_total.ensures.reversed; transitive = c.order_is_total.ensures.transitive })
          (bounds_of c.args.keys.now c.args.row.now) m c.args.bound.now c.requires.ascending within (sym c.in-Less.ensures));
      above = c.loop-low.invariant.above;
    }

pub loop-low-preserved : goal.loop-low-preserved
loop-low-preserved c =
    let m = c.loop-low.low + (c.loop-low.high - c.loop-low.low) / 2 in
    let count : length (bounds_of c.args.keys.now c.args.row.now) ≡ length c.args.row.now = bounds_length c.args.keys.now c.args.row.now in
    let within : m < length (bounds_of c.args.keys.now c.args.row.now) = omega arith in
    record {
      order = omega arith;
      within = omega arith;
      below = c.loop-low.invariant.below;
      above = over_back (record { reflexive = c.order_is_total.ensures.reflexive; exact = c.order_is_total.ensures.exact; reversed = c.order_is_total.ensures.reversed; transitive = c.order_is_total.ensures.transitive })
          (bounds_of c.args.keys.now c.args.row.now) m c.args.bound.now c.requires.ascending within (sym c.in-Greater.ensures);
    }
