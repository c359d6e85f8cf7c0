use Rattle.std.proofs.Common.{◌≡◌, ◌+◌, ◌-◌, ◌∙◌, length, true, false, [], ◌∷◌, ◌++◌, sym, arith}
use Rattle.std.proofs.lemmas.Result.{err_from_is_err_and}
use Rattle.eb_parser.specs.steps.Climbing.{ends_pattern}
use Rattle.eb_parser.proofs.Equations.{pattern_turn, pattern_end, pattern_none, pattern_fails, pattern_parts}
use Rattle.eb_parser.proofs.names.pattern.Goals as goal

pub returns-then-ends_pattern : goal.returns-then-ends_pattern
returns-then-ends_pattern c =
    let ends : ends_pattern c.loop.due c.loop.depth c.loop.rest.now ≡ true = sym c.ends_pattern.ensures ∙ c.if-ends_pattern.true in
    rw c.after_first.ensures (sym c.loop.invariant.1 ∙ pattern_end (length c.args.tokens.now - c.loop.counter) c.loop.pattern c.loop.due c.loop.depth c.loop.rest.now (omega arith) ends)

pub returns-in_err-mark : goal.returns-in_err-mark
returns-in_err-mark c =
    let p = err_from_is_err_and c.from_residual.result c.from_residual.ensures.1 in
    let ends : ends_pattern c.loop.due c.loop.depth c.loop.rest.now ≡ false = sym c.ends_pattern.ensures ∙ c.if-ends_pattern.false in
    rw (p.1, p.2) (pattern_fails (length c.args.tokens.now - c.loop.counter) c.loop.pattern c.loop.due c.loop.depth c.loop.rest.now c.in_err-mark.field-0.0 _ (omega arith) ends c.in_err-mark.ensures c.loop.invariant.1)

pub returns-in_err-due : goal.returns-in_err-due
returns-in_err-due c =
    let p = err_from_is_err_and c.from_residual-in_err-due.result c.from_residual-in_err-due.ensures.1 in
    let ends : ends_pattern c.loop.due c.loop.depth c.loop.rest.now ≡ false = sym c.ends_pattern.ensures ∙ c.if-ends_pattern.false in
    rw (p.1, p.2) (pattern_parts (length c.args.tokens.now - c.loop.counter) c.loop.pattern c.loop.due c.loop.depth c.loop.rest.now c.in_ok-mark.mark c.in_err-due.field-0.0 _ (omega arith) ends c.in_ok-mark.ensures c.in_err-due.ensures.exact c.loop.invariant.1)

pub loop-preserved : goal.loop-preserved
loop-preserved c =
    let ends : ends_pattern c.loop.due c.loop.depth c.loop.rest.now ≡ false = sym c.ends_pattern.ensures ∙ c.if-ends_pattern.false in
    let pushed : c.push.new.self ≡ c.loop.pattern ++ c.in_ok-mark.mark ∷ [] = c.in_ok-push.ensures.ok in
    let m : length c.args.tokens.now - (c.loop.counter + 1) ≡ length c.args.tokens.now - c.loop.counter - 1 = omega arith in (
      omega (arith, c.in_ok-due.ensures.low, c.loop.invariant.0),
      rw (pushed, m, c.after_first-rest.ensures) (sym (pattern_turn (length c.args.tokens.now - c.loop.counter) c.loop.pattern c.loop.due c.loop.depth c.loop.rest.now c.in_ok-mark.mark c.in_ok-due.field-0-0 c.in_ok-due.field-0-1 (omega arith) ends c.in_ok-mark.ensures c.in_ok-due.ensures.exact) ∙ c.loop.invariant.1),
    )

pub returns : goal.returns
returns c = sym c.loop.invariant.1 ∙ pattern_none (length c.args.tokens.now - c.loop.counter) c.loop.pattern c.loop.due c.loop.depth c.loop.rest.now (omega arith)
