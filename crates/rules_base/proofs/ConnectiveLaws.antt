-- What the rows of connectives have.
use Rattle.std.proofs.Common.{◌≡◌, refl, Bool, true, ◌&&◌, rules}
use Rattle.eb_operations.specs.declared.truth3.Truth3.{Truth3}
use Rattle.eb_operations.specs.declared.truth3.Truth3.TheVariants.{True, False, Undefined}
use Rattle.eb_term.specs.declared.operators.Side.{Side}
use Rattle.occ_domains.specs.declared.domain.Truths.{Truths}
use Rattle.occ_domains.specs.Domains.{has_truth}
use Rattle.rules_base.specs.declared.connective.Connective.{Connective}
use Rattle.rules_base.specs.Connectives.{those, some, down, of_side}

pub some_at : (a : Truths) (passes : Truth3 → Bool) (y : Truth3) → has_truth a y ≡ true → passes y ≡ true → some a passes ≡ true
some_at a passes True h k = search (rules, h, k)
some_at a passes False h k = search (rules, h, k)
some_at a passes Undefined h k = search (rules, h, k)

pub those_at : (passes : Truth3 → Bool) (x : Truth3) → passes x ≡ true → has_truth (those passes) x ≡ true
those_at passes True h = h
those_at passes False h = h
those_at passes Undefined h = h

-- a truth of the side that with one of the other side has one of the whole is kept
pub down_has : (w : Connective) (s : Side) (whole part other : Truths) (x y : Truth3)
    → has_truth part x ≡ true → has_truth other y ≡ true → has_truth whole (of_side w s x y) ≡ true → has_truth (down w s whole part other) x ≡ true
down_has w s whole part other x y p o h =
    let kept : some other (λ z. has_truth whole (of_side w s x z)) ≡ true = some_at other (λ z. has_truth whole (of_side w s x z)) y o h in
    those_at (λ z. has_truth part z && some other (λ u. has_truth whole (of_side w s z u))) x (rw (p, kept) refl)
