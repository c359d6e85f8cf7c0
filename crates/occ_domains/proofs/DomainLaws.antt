-- What domains have.
use Rattle.std.proofs.Common.{◌≡◌, ◌∙◌, ◌↔◌, Bool, true, false, not, ◌&&◌, ◌||◌, Some, None, refl, sym, ap}
use Rattle.eb_value.specs.declared.value.Value.{Value}
use Rattle.eb_operations.specs.declared.truth3.Truth3.TheVariants.{True, False, Undefined}
use Rattle.occ_domains.specs.declared.domain.Domain.{Domain}
use Rattle.occ_domains.specs.declared.domain.Domain.TheVariants as domain
use Rattle.occ_domains.specs.declared.body.Body.{Body}
use Rattle.occ_domains.specs.Bodies as values
use Rattle.occ_domains.specs.Domains.{Outcome, truth, slot, has, is_empty, is_normal, meet, single}
use Rattle.occ_domains.proofs.BodyLaws.{has-empty, and_false, empty_has}
use Rattle.occ_domains.proofs.NormalLaws.{Reflexive, normal_has, empty_normal, meet_normal as body_meet_normal}
use Rattle.occ_domains.proofs.ListLaws.{Transitive}
use Rattle.occ_domains.proofs.SingleLaws.{Only, normal_one}
use Rattle.occ_domains.proofs.MeetLaws as bodies
use Rattle.occ_domains.proofs.MeetLaws.{Exact}

pub meet_has : Exact → (a b : Domain) (o : Outcome) → has (meet a b) o ≡ (has a o && has b o)
meet_has exact (domain.Truths s) (domain.Truths t) (truth True) = refl
meet_has exact (domain.Truths s) (domain.Truths t) (truth False) = refl
meet_has exact (domain.Truths s) (domain.Truths t) (truth Undefined) = refl
meet_has exact (domain.Truths s) (domain.Truths t) (slot x) = refl
meet_has exact (domain.Values a u) (domain.Values b w) (slot None) = refl
meet_has exact (domain.Values a u) (domain.Values b w) (slot (Some v)) = bodies.meet_has exact a b v
meet_has exact (domain.Values a u) (domain.Values b w) (truth p) = refl
meet_has exact (domain.Truths s) (domain.Values b w) (truth p) = sym (and_false (has (domain.Truths s) (truth p)))
meet_has exact (domain.Truths s) (domain.Values b w) (slot None) = refl
meet_has exact (domain.Truths s) (domain.Values b w) (slot (Some v)) = has-empty v
meet_has exact (domain.Values a u) (domain.Truths t) (truth p) = refl
meet_has exact (domain.Values a u) (domain.Truths t) (slot None) = sym (and_false u)
meet_has exact (domain.Values a u) (domain.Truths t) (slot (Some v)) = has-empty v ∙ sym (and_false (has (domain.Values a u) (slot (Some v))))

-- ---- emptiness

empty_truths : (t f u : Bool) → not (t || f || u) ≡ true → (t ≡ false) × (f ≡ false) × (u ≡ false)
empty_truths false false false h = (refl, refl, refl)
empty_truths true f u h = cc
empty_truths false true u h = cc
empty_truths false false true h = cc

pub empty_has_nothing : (d : Domain) → is_empty d ≡ true → (o : Outcome) → has d o ≡ false
empty_has_nothing (domain.Truths t) h (truth True) = (empty_truths t.can_be_true t.can_be_false t.can_be_undefined h).0
empty_has_nothing (domain.Truths t) h (truth False) = (empty_truths t.can_be_true t.can_be_false t.can_be_undefined h).1
empty_has_nothing (domain.Truths t) h (truth Undefined) = (empty_truths t.can_be_true t.can_be_false t.can_be_undefined h).2
empty_has_nothing (domain.Truths t) h (slot s) = refl
empty_has_nothing (domain.Values b false) h (slot None) = refl
empty_has_nothing (domain.Values b true) h (slot None) = cc
empty_has_nothing (domain.Values b false) h (slot (Some v)) = empty_has b v h
empty_has_nothing (domain.Values b true) h (slot (Some v)) = cc
empty_has_nothing (domain.Values b u) h (truth p) = refl

no_truths : (t f u : Bool) → t ≡ false → f ≡ false → u ≡ false → not (t || f || u) ≡ true
no_truths false false false h k l = refl
no_truths true f u h k l = cc
no_truths false true u h k l = cc
no_truths false false true h k l = cc

no_value : Reflexive → (b : Body) → values.is_normal b ≡ true → ((v : Value) → values.has b v ≡ false) → values.is_empty b ≡ true
no_value reflexive b h none = at (values.is_empty b) refl where
  at : (e : Bool) → values.is_empty b ≡ e → values.is_empty b ≡ true
  at true e = e
  at false e = let w = normal_has reflexive b h e in let c : false ≡ true = sym (none w.value) ∙ w.is_in in cc

pub nothing_is_empty : Reflexive → (d : Domain) → is_normal d ≡ true → ((o : Outcome) → has d o ≡ false) → is_empty d ≡ true
nothing_is_empty reflexive (domain.Truths t) h none = no_truths t.can_be_true t.can_be_false t.can_be_undefined (none (truth True)) (none (truth False)) (none (truth Undefined))
nothing_is_empty reflexive (domain.Values b u) h none = rw (let e : u ≡ false = none (slot None) in e, no_value reflexive b h (λ v. none (slot (Some v)))) refl

pub meet_normal : Transitive → (a b : Domain) → is_normal a ≡ true → is_normal (meet a b) ≡ true
meet_normal transitive (domain.Truths s) (domain.Truths t) h = refl
meet_normal transitive (domain.Values a u) (domain.Values b w) h = body_meet_normal transitive a h b
meet_normal transitive (domain.Truths s) (domain.Values b w) h = empty_normal
meet_normal transitive (domain.Values a u) (domain.Truths t) h = empty_normal

-- ---- one value

slot_value : (w v : Value) → slot (Some w) ≡ slot (Some v) → w ≡ v
slot_value w v e = cc

single_has : (b : Body) (v : Value) → Only b v → (o : Outcome) → (has (domain.Values b false) o ≡ true) ↔ (o ≡ slot (Some v))
single_has b v only (truth p) = (λ h. let k : false ≡ true = h in cc, λ e. cc)
single_has b v only (slot None) = (λ h. let k : false ≡ true = h in cc, λ e. cc)
single_has b v only (slot (Some w)) = (λ h. ap (λ x. slot (Some x)) ((only w).0 h), λ e. (only w).1 (slot_value w v e))

pub one_value : Exact → Reflexive → (d : Domain) → is_normal d ≡ true → (v : Value) → (single d ≡ Some v) ↔ ((o : Outcome) → (has d o ≡ true) ↔ (o ≡ slot (Some v)))
one_value exact reflexive (domain.Truths t) n v = (
  λ h. let k : None ≡ Some v = h in cc,
  λ only. let k : false ≡ true = (only (slot (Some v))).1 refl in cc,
)
one_value exact reflexive (domain.Values b true) n v = (
  λ h. let k : None ≡ Some v = h in cc,
  λ only. let k : slot None ≡ slot (Some v) = (only (slot None)).0 refl in cc,
)
one_value exact reflexive (domain.Values b false) n v = (
  λ h. single_has b v ((normal_one exact reflexive b n v).0 h),
  λ only. (normal_one exact reflexive b n v).1 (λ w. (λ h. slot_value w v ((only (slot (Some w))).0 h), λ e. (only (slot (Some w))).1 (ap (λ x. slot (Some x)) e))),
)
