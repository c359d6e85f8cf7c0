use Rattle.std.proofs.Common.{rules, ◌≡◌, ◌∙◌, ap, ◌+ℤ◌}
use Rattle.std.specs.Prelude.{option_map}
use Rattle.std.proofs.lemmas.Int.{to_z-of_z}
use Rattle.eb_value.specs.Values.{int}
use Rattle.rules_integers.specs.Ends.{by_span}
use Rattle.rules_integers.specs.Sums.{sum}
use Rattle.rules_integers.proofs.RangeLaws.{span_saturated}
use Rattle.rules_integers.proofs.sums.sums.Goals as goal

pub returns : goal.returns
returns c =
    let a = c.args.a in
    let b = c.args.b in
    let value : option_map int c.sum.result ≡ sum a.lo b.lo = search (rules, to_z-of_z) in
    c.by_span.ensures sum value ∙ ap (λ d. by_span c.args.defined sum d a b) c.span_of_sums.ensures ∙ span_saturated c.args.defined sum (record { lo = a.lo +ℤ b.lo; hi = a.hi +ℤ b.hi }) a b
