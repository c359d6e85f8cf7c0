use Rattle.std.proofs.Common.{rules, ◌≡◌, ◌∙◌, w64, to_z, of_z}
use Rattle.std.specs.Prelude.{int_div}
use Rattle.std.proofs.lemmas.Int.{to_z-of_z}
use Rattle.rules_integers.specs.Products.{least_of, greatest_of}
use Rattle.rules_integers.proofs.products.over_quotients.Goals as goal

pub returns : goal.returns
returns c =
    let k : to_z w64 (of_z w64 c.divided.result) ≡ int_div c.args.a.lo c.args.b.lo = search (rules, to_z-of_z) in
    let l : to_z w64 (of_z w64 c.divided-2.result) ≡ int_div c.args.a.lo c.args.b.hi = search (rules, to_z-of_z) in
    let m : to_z w64 (of_z w64 c.divided-3.result) ≡ int_div c.args.a.hi c.args.b.lo = search (rules, to_z-of_z) in
    let n : to_z w64 (of_z w64 c.divided-4.result) ≡ int_div c.args.a.hi c.args.b.hi = search (rules, to_z-of_z) in
    c.over.ensures ∙ λ i. record { lo = least_of (k i) (l i) (m i) (n i); hi = greatest_of (k i) (l i) (m i) (n i) }
