use Rattle.std.proofs.Common.{rules, ◌≡◌, ◌∙◌}
use Rattle.std.proofs.lemmas.Int.{to_z-of_z}
use Rattle.occ_domains.specs.Bodies.{integers}
use Rattle.rules_integers.specs.Ends.{clipped, is_spread, by_ends}
use Rattle.rules_integers.proofs.ends.by_span.Goals as goal

pub returns : goal.returns
returns c f given =
    let d = c.args.d in
    let body : c.integers-body.result ≡ integers (clipped d.lo d.hi) = search (rules, to_z-of_z) in
    let undefined : c.is_spread.result ≡ is_spread d.lo d.hi = search (rules, to_z-of_z) in
    c.by_ends.ensures f given ∙ λ i. by_ends c.args.defined f (body i) (undefined i) c.args.a c.args.b
