use Rattle.std.proofs.Common.{rules, ◌≡◌, ◌∙◌, ap, pos, w64, ◌-ℤ◌}
use Rattle.std.specs.Int.{int_min, saturate_signed}
use Rattle.std.proofs.lemmas.Int.{to_z-of_z}
use Rattle.occ_domains.specs.Bodies.{integers}
use Rattle.rules_integers.specs.Ends.{clip}
use Rattle.rules_integers.proofs.RangeLaws.{clip_min_saturated}
use Rattle.rules_integers.proofs.products.remainders_to.Goals as goal

pub returns : goal.returns
returns c =
    let body : c.integers.result ≡ integers (record { lo = clip (pos 0); hi = clip (int_min c.args.m (saturate_signed w64 (c.args.n -ℤ pos 1))) }) = search (rules, to_z-of_z) in
    body ∙ ap (λ hi. integers (record { lo = clip (pos 0); hi = hi })) (clip_min_saturated c.args.m (c.args.n -ℤ pos 1))
