use Rattle.std.proofs.Common.{◌≡◌, ℕ, List, Bor, map, filter, bytes_eq, length, subst, sym}
use Rattle.std.specs.Result.{IfOk}
use Rattle.std.specs.declared.result.Result.{Result}
use Rattle.std.specs.declared.result.Result.TheVariants.{Ok, Err}
use Rattle.std.specs.Global.{Vec}
use Rattle.std.specs.BTreeMap.{BTreeMap}
use Rattle.eb_syntax.specs.declared.units.EbUnit.{EbUnit}
use Rattle.eb_scoping.specs.Groups.{group, IsIndex}
use Rattle.eb_scoping.specs.steps.Heads.{AreHeads, seen_heads}
use Rattle.eb_scoping.proofs.IndexLaws.{indexed}
use Rattle.eb_scoping.proofs.contexts.context_places.Goals as goal

found : {E : Type 0} (us : List EbUnit) (heads : List (Bor (List ℕ) × ℕ)) (r : Result (BTreeMap (Bor (List ℕ)) (Vec ℕ)) E) → AreHeads us (length us) (seen_heads heads)
    → IfOk r (λ m. (q : List ℕ) → group m q ≡ map (λ p. p.1) (filter (λ p. bytes_eq q p.0.now) heads)) → IfOk r (λ m. IsIndex us m)
found us heads (Ok m) are by = indexed us heads m are by
found us heads (Err e) are by = tt

pub returns : goal.returns
returns c = found c.args.units.now c.deref.result.now c.grouped.result (subst (λ z. AreHeads c.args.units.now (length c.args.units.now) (seen_heads z)) (sym c.deref.ensures.value) c.in_ok-heads.ensures) c.grouped.ensures
