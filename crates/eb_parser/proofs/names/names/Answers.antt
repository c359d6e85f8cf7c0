use Rattle.std.proofs.Common.{◌≡◌, ◌+◌, ◌-◌, ◌∙◌, length, true, false, [], ◌∷◌, ◌++◌, Ok, sym, rules, arith}
use Rattle.std.proofs.lemmas.Result.{err_from_is_err_and}
use Rattle.eb_parser.specs.steps.Climbing.{separator}
use Rattle.eb_parser.proofs.Equations.{names_turn, names_end, names_none, names_fails, names_parts}
use Rattle.eb_parser.proofs.names.names.Goals as goal

pub returns-in_err-name : goal.returns-in_err-name
returns-in_err-name c =
    let p = err_from_is_err_and c.from_residual.result c.from_residual.ensures.1 in
    rw (p.1, p.2) (names_fails (length c.args.tokens.now - c.loop.counter) c.loop.names c.loop.rest.now c.in_err-name.field-0.0 _ (omega arith) c.in_err-name.ensures c.loop.invariant)

pub returns-in_err-goes_on : goal.returns-in_err-goes_on
returns-in_err-goes_on c =
    let p = err_from_is_err_and c.from_residual-in_err-goes_on.result c.from_residual-in_err-goes_on.ensures.1 in
    rw (p.1, p.2) (names_parts (length c.args.tokens.now - c.loop.counter) c.loop.names c.loop.rest.now c.in_ok-name.after.now c.in_ok-name.name c.in_err-goes_on.field-0.0 _ (omega arith) c.in_ok-name.ensures c.in_err-goes_on.ensures c.loop.invariant)

pub returns-then-not-goes_on : goal.returns-then-not-goes_on
returns-then-not-goes_on c =
    let more : c.in_ok-goes_on.goes_on ≡ false = search rules in
    let sep : separator c.in_ok-name.after.now ≡ Ok (c.in_ok-goes_on.goes_on, c.in_ok-goes_on.next.now) = c.in_ok-goes_on.ensures in
    let pushed : c.push.new.self ≡ c.loop.names ++ c.in_ok-name.name ∷ [] = c.in_ok-push.ensures.ok in
    rw pushed (sym c.loop.invariant ∙ names_end (length c.args.tokens.now - c.loop.counter) c.loop.names c.loop.rest.now c.in_ok-name.after.now c.in_ok-goes_on.next.now c.in_ok-name.name (omega arith) c.in_ok-name.ensures (rw more at sep))

pub loop-preserved : goal.loop-preserved
loop-preserved c =
    let more : c.in_ok-goes_on.goes_on ≡ true = search rules in
    let sep : separator c.in_ok-name.after.now ≡ Ok (c.in_ok-goes_on.goes_on, c.in_ok-goes_on.next.now) = c.in_ok-goes_on.ensures in
    let pushed : c.push.new.self ≡ c.loop.names ++ c.in_ok-name.name ∷ [] = c.in_ok-push.ensures.ok in
    let m : length c.args.tokens.now - (c.loop.counter + 1) ≡ length c.args.tokens.now - c.loop.counter - 1 = omega arith in
    rw (pushed, m) (sym (names_turn (length c.args.tokens.now - c.loop.counter) c.loop.names c.loop.rest.now c.in_ok-name.after.now c.in_ok-goes_on.next.now c.in_ok-name.name (omega arith) c.in_ok-name.ensures (rw more at sep)) ∙ c.loop.invariant)

pub returns : goal.returns
returns c = sym c.loop.invariant ∙ names_none (length c.args.tokens.now - c.loop.counter) c.loop.names c.loop.rest.now (omega arith)
