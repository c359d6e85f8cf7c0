use Rattle.std.proofs.Common.{rules, ◌≡◌, ◌∙◌, ◌++◌, ◌∷◌, [], ◌+◌, ap, sym, subst, arith}
use Rattle.std.proofs.lemmas.Int.{ints}
use Rattle.std.proofs.Math.Facts.{to_z-of_z}
use Rattle.eb_value.specs.Values.{int}
use Rattle.eb_value.specs.Scopes.{ints_from}
use Rattle.eb_value.proofs.ListingLaws.{ints_more, ints_end}
use Rattle.eb_value.proofs.listing.integers.Goals as goal

pub loop-k-preserved : goal.loop-k-preserved
loop-k-preserved c =
    let before = rw (to_z-of_z c.ranges.lo) at c.loop-k.invariant in
    let pushed : c.push.new.self ≡ c.loop-k.all ++ int c.moved_up.result ∷ [] = search rules in
    let moved = rw (to_z-of_z c.ranges.lo) at c.moved_up.ensures in
    let longer : c.push.new.self ≡ ints_from c.args.lo (c.loop-k.k + 1) = pushed ∙ ap (λ xs. xs ++ int c.moved_up.result ∷ []) before ∙ ap (λ m. ints_from c.args.lo c.loop-k.k ++ int m ∷ []) moved ∙ sym (ints_more c.args.lo c.loop-k.k) in
    subst (λ m. c.push.new.self ≡ ints_from m (c.loop-k.k + 1)) (sym (to_z-of_z c.ranges.lo)) longer

pub returns : goal.returns
returns c =
    let before = rw (to_z-of_z c.ranges.lo) at c.loop-k.invariant in
    let pushed : c.push-2.new.self ≡ c.loop-k.all ++ int c.args.hi ∷ [] = search rules in
    let span = c.abs_diff-k-end.ensures in
    pushed ∙ ap (λ xs. xs ++ int c.args.hi ∷ []) before ∙ sym (ints_end c.args.lo c.args.hi c.loop-k.k (omega (arith, ints)) (omega (arith, ints, span)))
