use Rattle.std.proofs.Common.{◌≡◌, ◌∙◌, drop, true, false, sym, rules, arith}
use Rattle.std.proofs.lemmas.Result.{err_from_is_err_and}
use Rattle.eb_units.specs.steps.Descending as spec
use Rattle.eb_units.proofs.Loops.{goes_on, is_done, breaks, spent}
use Rattle.eb_units.proofs.many.behind.Goals as goal

pub returns-then-not-is_here-clause-exact : goal.returns-then-not-is_here-clause-exact
returns-then-not-is_here-clause-exact g c =
    let now : c.is_here.result ≡ false = search rules in
    let opens : g.T.Listed.begins (drop c.loop.rest c.args.tokens.now) ≡ false = sym c.is_here.ensures ∙ now in
    is_done g.T.Listed.begins (g.T.Listed.reads c.args.tokens.now) (spec.room c.args.tokens.now) c.loop.counter c.loop.read (drop c.loop.rest c.args.tokens.now) (spec.with_front c.args.front (spec.many g.T.Listed.begins (g.T.Listed.reads c.args.tokens.now) (spec.room c.args.tokens.now) (drop c.args.at c.args.tokens.now))) (omega arith) opens c.loop.invariant

pub returns-in_err-one-clause-exact : goal.returns-in_err-one-clause-exact
returns-in_err-one-clause-exact g c =
    let now : c.is_here.result ≡ true = search rules in
    let opens : g.T.Listed.begins (drop c.loop.rest c.args.tokens.now) ≡ true = sym c.is_here.ensures ∙ now in
    let p = err_from_is_err_and c.from_residual.result c.from_residual.ensures.1 in
    rw (p.1, p.2) (breaks g.T.Listed.begins (g.T.Listed.reads c.args.tokens.now) (spec.room c.args.tokens.now) c.loop.counter c.in_err-one.field-0.0 c.loop.read c.args.tokens.now (drop c.loop.rest c.args.tokens.now) (spec.with_front c.args.front (spec.many g.T.Listed.begins (g.T.Listed.reads c.args.tokens.now) (spec.room c.args.tokens.now) (drop c.args.at c.args.tokens.now))) (omega arith) opens c.in_err-one.ensures.exact c.loop.invariant)

pub loop-preserved : goal.loop-preserved
loop-preserved g c =
    let now : c.is_here.result ≡ true = search rules in
    let opens : g.T.Listed.begins (drop c.loop.rest c.args.tokens.now) ≡ true = sym c.is_here.ensures ∙ now in
    rw c.in_ok-push.ensures.ok (goes_on g.T.Listed.begins (g.T.Listed.reads c.args.tokens.now) (spec.room c.args.tokens.now) c.loop.counter c.loop.read (drop c.loop.rest c.args.tokens.now) (drop c.in_ok-one.after c.args.tokens.now) c.in_ok-one.one (spec.with_front c.args.front (spec.many g.T.Listed.begins (g.T.Listed.reads c.args.tokens.now) (spec.room c.args.tokens.now) (drop c.args.at c.args.tokens.now))) (omega arith) opens c.in_ok-one.ensures.exact c.loop.invariant)

pub returns-clause-exact : goal.returns-clause-exact
returns-clause-exact g c = rw c.fault_at.ensures.exact (spent g.T.Listed.begins (g.T.Listed.reads c.args.tokens.now) (spec.room c.args.tokens.now) c.loop.counter c.loop.read (drop c.loop.rest c.args.tokens.now) (spec.with_front c.args.front (spec.many g.T.Listed.begins (g.T.Listed.reads c.args.tokens.now) (spec.room c.args.tokens.now) (drop c.args.at c.args.tokens.now))) (omega arith) c.loop.invariant)
