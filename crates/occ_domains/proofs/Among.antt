-- A list has the values that it contains.
use Rattle.std.proofs.Common.{◌≡◌, Bool, true, false, ◌||◌, List, [], ◌∷◌, ℕ, zero, suc, ◌<◌, length, get_or, refl, arith}
use Rattle.std.specs.List.{Contains}
use Rattle.std.proofs.lemmas.Map.Views.{Contains-from_any}
use Rattle.eb_value.specs.declared.value.Value.{Value}
use Rattle.eb_value.specs.Comprehensions.{has, same}
use Rattle.occ_domains.proofs.MeetLaws.{Exact, same_is}
use Rattle.occ_domains.proofs.NormalLaws.{Reflexive}

pub among_contains : Exact → (xs : List Value) (v : Value) → has xs v ≡ true → Contains xs v
among_contains exact xs v h = Contains-from_any (same_is exact) v xs h

pub or_so : (b c : Bool) → c ≡ true → (b || c) ≡ true
or_so true c h = refl
or_so false c h = h

pub is_same : Reflexive → (v : Value) → same v v ≡ true
is_same reflexive v = rw (reflexive v) refl

among_at : Reflexive → (xs : List Value) (v : Value) (k : ℕ) → k < length xs → get_or xs k v ≡ v → has xs v ≡ true
among_at reflexive [] v k l e = absurd (omega arith)
among_at reflexive (x ∷ xs) v zero l e = let f : x ≡ v = e in rw (f, is_same reflexive v) refl
among_at reflexive (x ∷ xs) v (suc k) l e = or_so (same v x) (has xs v) (among_at reflexive xs v k (omega arith) e)

pub contains_among : Reflexive → (xs : List Value) (v : Value) → Contains xs v → has xs v ≡ true
contains_among reflexive xs v h = among_at reflexive xs v h.0 h.1 h.2
