use Rattle.std.proofs.Common.{rules, ◌≡◌, ◌∙◌, ◌&&◌, not, int_le, int_lt, pos, ◌-ℤ◌}
use Rattle.std.specs.Prelude.{option_map}
use Rattle.std.specs.Int.{int_min}
use Rattle.std.proofs.lemmas.Int.{to_z-of_z}
use Rattle.eb_value.specs.Values.{int}
use Rattle.eb_operations.specs.Arithmetic.{remainder}
use Rattle.occ_domains.specs.Bodies.{integers}
use Rattle.rules_integers.specs.Ends.{clipped, by_ends}
use Rattle.rules_integers.proofs.products.remainders.Goals as goal

pub returns : goal.returns
returns c =
    let a = c.args.a in
    let b = c.args.b in
    let value : option_map int c.remainder.result ≡ remainder a.lo b.lo = search (rules, to_z-of_z) in
    let body : c.remainders_to-body.result ≡ integers (clipped (pos 0) (int_min a.hi (b.hi -ℤ pos 1))) = search (rules, to_z-of_z) in
    let undefined : c.may_lack.result ≡ not (int_le (pos 0) a.lo && int_lt (pos 0) b.lo) = c.may_lack.ensures in
    c.by_ends.ensures remainder value ∙ λ i. by_ends c.args.defined remainder (body i) (undefined i) a b
