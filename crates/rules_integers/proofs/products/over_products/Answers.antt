use Rattle.std.proofs.Common.{rules, ◌≡◌, ◌∙◌, ◌*ℤ◌, w64, to_z, of_z}
use Rattle.std.specs.Int.{saturate_signed}
use Rattle.std.proofs.lemmas.Int.{to_z-of_z}
use Rattle.rules_integers.specs.Products.{least_of, greatest_of}
use Rattle.rules_integers.proofs.RangeLaws.{saturated_least, saturated_greatest}
use Rattle.rules_integers.proofs.products.over_products.Goals as goal

pub returns : goal.returns
returns c =
    let a = c.args.a in
    let b = c.args.b in
    let k : to_z w64 (of_z w64 c.saturating_mul.result) ≡ saturate_signed w64 (a.lo *ℤ b.lo) = search (rules, to_z-of_z) in
    let l : to_z w64 (of_z w64 c.saturating_mul-2.result) ≡ saturate_signed w64 (a.lo *ℤ b.hi) = search (rules, to_z-of_z) in
    let m : to_z w64 (of_z w64 c.saturating_mul-3.result) ≡ saturate_signed w64 (a.hi *ℤ b.lo) = search (rules, to_z-of_z) in
    let n : to_z w64 (of_z w64 c.saturating_mul-4.result) ≡ saturate_signed w64 (a.hi *ℤ b.hi) = search (rules, to_z-of_z) in
    let lo = saturated_least (a.lo *ℤ b.lo) (a.lo *ℤ b.hi) (a.hi *ℤ b.lo) (a.hi *ℤ b.hi) in
    let hi = saturated_greatest (a.lo *ℤ b.lo) (a.lo *ℤ b.hi) (a.hi *ℤ b.lo) (a.hi *ℤ b.hi) in
    c.over.ensures ∙ (λ i. record { lo = least_of (k i) (l i) (m i) (n i); hi = greatest_of (k i) (l i) (m i) (n i) }) ∙ λ i. record { lo = lo i; hi = hi i }
