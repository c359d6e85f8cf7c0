use Rattle.std.proofs.Common.{arith, ◌≡◌, ◌∙◌, ap, ◌+◌, ◌*◌, ◌-◌, ◌<◌, drop, sym, ◌∷◌}
use Rattle.std.proofs.lemmas.List.{drop_more}
use Rattle.eb_lexer.proofs.Numbers.{number_on-grows, number_of-large}
use Rattle.eb_lexer.specs.Tokens as spec
use Rattle.eb_lexer.proofs.pieces.number.Goals as goal

pub returns-then-value-gt-LIMIT : goal.returns-then-value-gt-LIMIT
returns-then-value-gt-LIMIT c =
    let ds = c.args.digits.now in
    let i = c.loop-d.d-index in
    let d = c.d-item.result in
    let v = c.loop-d.value in
    let whole : spec.number_on 0 ds ≡ spec.number_on v (d ∷ drop (i + 1) ds) = c.loop-d.invariant.read ∙ ap (spec.number_on v) (drop_more ds i d (omega arith) ∙ ap (λ x. x ∷ drop (i + 1) ds) (sym c.d-item.is)) in
    let large : 4611686018427387904 < 10 * v + (d - 48) = omega arith in
    sym (number_of-large ds (omega (arith, whole, large, number_on-grows (10 * v + (d - 48)) (drop (i + 1) ds))))
