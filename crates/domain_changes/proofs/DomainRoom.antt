-- A meet of domains leaves its first, or has less room.
use Rattle.std.proofs.Common.{◌≡◌, ◌∙◌, ◌⊎◌, inl, inr, ◌≤◌, ◌<◌, Bool, true, false, ◌&&◌, refl, ap, arith}
use Rattle.occ_domains.specs.declared.body.Body.{Body}
use Rattle.occ_domains.specs.declared.body.Body.TheVariants as of
use Rattle.occ_domains.specs.declared.domain.Truths.{Truths}
use Rattle.occ_domains.specs.declared.domain.Domain.{Domain}
use Rattle.occ_domains.specs.declared.domain.Domain.TheVariants as domain
use Rattle.occ_domains.specs.Bodies as values
use Rattle.occ_domains.specs.Domains.{is_normal, common_truths, meet}
use Rattle.domain_changes.specs.Room.{one_if, body_room, room}
use Rattle.domain_changes.proofs.RoomLaws.{Falls, empty_falls, body_falls, room-empty}

abbrev pub Shrinks : Domain → Domain → Type 0
Shrinks a m = (m ≡ a) ⊎ (room m < room a)

bit_falls : (p q : Bool) → ((p && q) ≡ p) ⊎ (one_if (p && q) < one_if p)
bit_falls true true = inl refl
bit_falls true false = inr (omega arith)
bit_falls false q = inl refl

pub bit_most : (p q : Bool) → one_if (p && q) ≤ one_if p
bit_most true true = omega arith
bit_most true false = omega arith
bit_most false q = omega arith

abbrev truths : Bool → Bool → Bool → Truths
truths p q r = record { can_be_true = p; can_be_false = q; can_be_undefined = r }

module _ (s t : Truths) where
  abbrev first : Bool
  first = s.can_be_true && t.can_be_true

  abbrev second : Bool
  second = s.can_be_false && t.can_be_false

  abbrev third : Bool
  third = s.can_be_undefined && t.can_be_undefined

  by_truths : (first ≡ s.can_be_true) ⊎ (one_if first < one_if s.can_be_true) → (second ≡ s.can_be_false) ⊎ (one_if second < one_if s.can_be_false)
      → (third ≡ s.can_be_undefined) ⊎ (one_if third < one_if s.can_be_undefined) → Shrinks (domain.Truths s) (domain.Truths (common_truths s t))
  by_truths (inl e) (inl f) (inl g) = inl (ap (λ x. domain.Truths (truths x second third)) e ∙ ap (λ x. domain.Truths (truths s.can_be_true x third)) f ∙ ap (λ x. domain.Truths (truths s.can_be_true s.can_be_false x)) g)
  by_truths (inr less) q r = inr (omega (arith, bit_most s.can_be_false t.can_be_false, bit_most s.can_be_undefined t.can_be_undefined))
  by_truths (inl e) (inr less) r = inr (omega (arith, bit_most s.can_be_true t.can_be_true, bit_most s.can_be_undefined t.can_be_undefined))
  by_truths (inl e) (inl f) (inr less) = inr (omega (arith, bit_most s.can_be_true t.can_be_true, bit_most s.can_be_false t.can_be_false))

  truths_fall : Shrinks (domain.Truths s) (domain.Truths (common_truths s t))
  truths_fall = by_truths (bit_falls s.can_be_true t.can_be_true) (bit_falls s.can_be_false t.can_be_false) (bit_falls s.can_be_undefined t.can_be_undefined)

values_fall : (a m : Body) (u v : Bool) → Falls a m → (v ≡ u) ⊎ (one_if v < one_if u) → Shrinks (domain.Values a u) (domain.Values m v)
values_fall a m u v (inl e) (inl f) = inl (ap (λ x. domain.Values x v) e ∙ ap (domain.Values a) f)
values_fall a m u v (inl e) (inr less) = inr (omega (arith, ap body_room e))
values_fall a m u v (inr less) (inl f) = inr (omega (arith, ap one_if f))
values_fall a m u v (inr less) (inr more) = inr (omega arith)

-- without outcomes at last
none_falls : (u : Bool) → (false ≡ u) ⊎ (one_if false < one_if u)
none_falls true = inr (omega arith)
none_falls false = inl refl

pub domain_falls : (a b : Domain) → is_normal a ≡ true → Shrinks a (meet a b)
domain_falls (domain.Truths s) (domain.Truths t) h = truths_fall s t
domain_falls (domain.Values a u) (domain.Values b w) h = values_fall a (values.meet a b) u (u && w) (body_falls a h b) (bit_falls u w)
domain_falls (domain.Truths s) (domain.Values b w) h = inr (omega (arith, room-empty))
domain_falls (domain.Values a u) (domain.Truths t) h = values_fall a of.Empty u false (empty_falls a h) (none_falls u)

pub changed_less : (a m : Domain) → Shrinks a m → (m ≡ a → ⊥) → room m < room a
changed_less a m (inl e) other = absurd (other e)
changed_less a m (inr less) other = less

pub never_more : (a m : Domain) → Shrinks a m → room m ≤ room a
never_more a m (inl e) = omega (arith, ap room e)
never_more a m (inr less) = omega arith
