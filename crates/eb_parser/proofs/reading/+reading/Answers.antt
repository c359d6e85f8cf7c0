use Rattle.std.proofs.Common.{◌≡◌, ◌<◌, ◌-◌, ◌+◌, ◌∙◌, length, max, true, [], ◌∷◌, ◌++◌, Some, None, Ok, sym, subst, ap, arith, rules}
use Rattle.std.proofs.lemmas.Result.{err_from_is_err_and}
use Rattle.eb_signs.specs.declared.sign.Sign.TheVariants as s
use Rattle.eb_signs.specs.Levels as level
use Rattle.eb_parser.specs.steps.Tables.{head_follow}
use Rattle.eb_parser.specs.steps.Climbing.{Fails, read, begins, after_first, next_follow, turn, tried}
use Rattle.eb_parser.proofs.Equations.{row_start, row_turn, row_none, row_fails, climb_on, climb_off, climb_stops, climb_full, climb_last, climb_fails}
use Rattle.eb_parser.proofs.reading.+reading.Goals as goal

pub climb-returns-in_default-clause-exact : goal.climb-returns-in_default-clause-exact
climb-returns-in_default-clause-exact t c =
    let e : next_follow c.args.least c.loop-turns.part (head_follow c.loop-turns.rest.now) ≡ None = search rules in
    sym c.loop-turns.invariant.1 ∙ climb_stops (read c.args.depth) c.args.depth c.args.least (c.args.depth - c.loop-turns.turns) c.loop-turns.part c.loop-turns.rest.now e

pub climb-returns-then-part-depth-clause-exact : goal.climb-returns-then-part-depth-clause-exact
climb-returns-then-part-depth-clause-exact t c =
    sym c.loop-turns.invariant.1 ∙ climb_full (read c.args.depth) c.args.depth c.args.least (c.args.depth - c.loop-turns.turns) c.loop-turns.part c.loop-turns.rest.now c.in-Some.follow (sym c.in-Some.ensures) (omega arith)

pub climb-returns-in_err-next-clause-exact : goal.climb-returns-in_err-next-clause-exact
climb-returns-in_err-next-clause-exact t c =
    let p = err_from_is_err_and c.from_residual.result c.from_residual.ensures.1 in
    let r = read c.args.depth in
    let f : Fails c.in_err-next.field-0.0 (tried c.loop-turns.part (turn r c.loop-turns.part c.in-Some.follow (after_first c.loop-turns.rest.now))) =
    subst (λ z. Fails c.in_err-next.field-0.0 (tried c.loop-turns.part (turn r c.loop-turns.part c.in-Some.follow z))) c.after_first.ensures c.in_err-next.ensures.exact in
    rw (p.1, p.2) (climb_fails r c.args.depth c.args.least (c.args.depth - c.loop-turns.turns) c.loop-turns.part c.loop-turns.rest.now c.in-Some.follow c.in_err-next.field-0.0 _
    (omega arith) (sym c.in-Some.ensures) (omega arith) f c.loop-turns.invariant.1)

pub climb-returns-in_default-after-clause-exact : goal.climb-returns-in_default-after-clause-exact
climb-returns-in_default-after-clause-exact t c =
    let r = read c.args.depth in
    let f : tried c.loop-turns.part (turn r c.loop-turns.part c.in-Some.follow c.after_first.result.now) ≡ Ok (c.in_ok-next.next, None) = search rules in
    sym c.loop-turns.invariant.1 ∙ climb_off r c.args.depth c.args.least (c.args.depth - c.loop-turns.turns) c.loop-turns.part c.in_ok-next.next c.loop-turns.rest.now c.in-Some.follow
    (omega arith) (sym c.in-Some.ensures) (omega arith) (ap (λ z. tried c.loop-turns.part (turn r c.loop-turns.part c.in-Some.follow z)) (sym c.after_first.ensures) ∙ f)

pub climb-loop-turns-preserved : goal.climb-loop-turns-preserved
climb-loop-turns-preserved t c =
    let r = read c.args.depth in
    let f : tried c.loop-turns.part (turn r c.loop-turns.part c.in-Some.follow c.after_first.result.now) ≡ Ok (c.in_ok-next.next, Some c.in-Some-after.after.now) = search rules in
    let s = climb_on r c.args.depth c.args.least (c.args.depth - c.loop-turns.turns) c.loop-turns.part c.in_ok-next.next c.loop-turns.rest.now c.in-Some-after.after.now c.in-Some.follow
    (omega arith) (sym c.in-Some.ensures) (omega arith) (ap (λ z. tried c.loop-turns.part (turn r c.loop-turns.part c.in-Some.follow z)) (sym c.after_first.ensures) ∙ f) in
    let m : c.args.depth - (c.loop-turns.turns + 1) ≡ c.args.depth - c.loop-turns.turns - 1 = omega arith in
    (c.in_ok-next.ensures.low, rw m (sym s ∙ c.loop-turns.invariant.1))

pub climb-returns-in-Some-next_follow-clause-exact : goal.climb-returns-in-Some-next_follow-clause-exact
climb-returns-in-Some-next_follow-clause-exact t c =
    sym c.loop-turns.invariant.1 ∙ climb_last (read c.args.depth) c.args.depth c.args.least (c.args.depth - c.loop-turns.turns) c.loop-turns.part c.loop-turns.rest.now c.in-Some-next_follow.field-0 (sym c.in-Some-next_follow.ensures) (omega arith)

pub climb-returns-clause-exact : goal.climb-returns-clause-exact
climb-returns-clause-exact t c =
    let e : next_follow c.args.least c.loop-turns.part (head_follow c.loop-turns.rest.now) ≡ None = search rules in
    sym c.loop-turns.invariant.1 ∙ climb_stops (read c.args.depth) c.args.depth c.args.least (c.args.depth - c.loop-turns.turns) c.loop-turns.part c.loop-turns.rest.now e

pub row-loop-init : goal.row-loop-init
row-loop-init t c =
    let pushed : c.push.new.self ≡ c.args.first.tree ∷ [] = search rules in
    let z : length c.args.tokens.now - 0 ≡ length c.args.tokens.now = omega arith in
    (omega arith, rw (pushed, z) (row_start (read c.args.depth) (length c.args.tokens.now) c.args.first c.args.tokens.now))

pub row-returns-in_err-part-clause-exact : goal.row-returns-in_err-part-clause-exact
row-returns-in_err-part-clause-exact t c =
    let p = err_from_is_err_and c.from_residual-in_err-part.result c.from_residual-in_err-part.ensures.1 in
    let r = read c.args.depth in
    let more : begins s.Comma c.loop.rest.now ≡ true = search rules in
    let f : Fails c.in_err-part.field-0.0 (r level.expr (after_first c.loop.rest.now)) = subst (λ z. Fails c.in_err-part.field-0.0 (r level.expr z)) c.after_first.ensures c.in_err-part.ensures.exact in
    rw (p.1, p.2) (row_fails r (length c.args.tokens.now - c.loop.counter) c.loop.members c.loop.height c.loop.rest.now c.in_err-part.field-0.0 _ (omega arith) more f c.loop.invariant.1)

pub row-loop-preserved : goal.row-loop-preserved
row-loop-preserved t c =
    let r = read c.args.depth in
    let p = c.in_ok-part.part in
    let more : begins s.Comma c.loop.rest.now ≡ true = search rules in
    let good : r level.expr (after_first c.loop.rest.now) ≡ Ok (p, c.in_ok-part.after.now) = subst (λ z. r level.expr z ≡ Ok (p, c.in_ok-part.after.now)) c.after_first.ensures c.in_ok-part.ensures.exact in
    let pushed : c.push-in-loop.new.self ≡ c.loop.members ++ p.tree ∷ [] = search rules in
    let top : c.max-height.result ≡ max c.loop.height p.height = search rules in
    let low : p.height < c.args.depth = c.in_ok-part.ensures.low in
    let s = row_turn r (length c.args.tokens.now - c.loop.counter) c.loop.members c.loop.height c.loop.rest.now c.in_ok-part.after.now p (omega arith) more good in
    let m : length c.args.tokens.now - (c.loop.counter + 1) ≡ length c.args.tokens.now - c.loop.counter - 1 = omega arith in
    rw (pushed, top) (omega arith, rw m (sym s ∙ c.loop.invariant.1))

pub row-returns-then-begins-clause-exact : goal.row-returns-then-begins-clause-exact
row-returns-then-begins-clause-exact t c =
    let more : begins s.Comma c.loop.rest.now ≡ true = search rules in
    sym c.loop.invariant.1 ∙ row_none (read c.args.depth) (length c.args.tokens.now - c.loop.counter) c.loop.members c.loop.height c.loop.rest.now (omega arith) more
