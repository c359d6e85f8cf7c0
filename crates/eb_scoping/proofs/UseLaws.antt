-- Laws of the uses of names in formulas.
use Rattle.std.proofs.Common.{◌≡◌, ◌++◌, ℕ, List, sym, subst}
use Rattle.std.specs.Result.{OnOk}
use Rattle.std.specs.declared.result.Result.{Result}
use Rattle.eb_resolved.specs.Unknown.{Use}
use Rattle.eb_scoping.specs.steps.FreeByParts.{unbound}

pub bound_free : {T E : Type 0} (r : Result T E) (new old : List Use) (ns ms : List (List ℕ)) (us vs all : List Use) → OnOk r (new ≡ old ++ unbound ns us) → ns ≡ ms → us ≡ vs → all ≡ unbound ms vs → OnOk r (new ≡ old ++ all)
bound_free r new old ns ms us vs all h n u a = subst (λ z. OnOk r (new ≡ old ++ z)) (sym a) (subst (λ z. OnOk r (new ≡ old ++ unbound ms z)) u (subst (λ z. OnOk r (new ≡ old ++ unbound z us)) n h))
