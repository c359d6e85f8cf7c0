-- What two parts are, where there are two.
use Rattle.std.proofs.Common.{◌≡◌, ◌∙◌, refl, sym, ap, Bool, true, false, not, ◌&&◌, ◌||◌, if◌then◌else◌, Some, None}
use Rattle.occ_domains.specs.declared.domain.Domain.{Domain}
use Rattle.occ_domains.specs.declared.tests.Test.{Test}
use Rattle.occ_domains.specs.Domains.{Outcome, has, is_empty, is_normal}
use Rattle.occ_domains.specs.Tests.{passes, fits, part, two, parts}
use Rattle.occ_domains.proofs.ListLaws.{Transitive}
use Rattle.occ_domains.proofs.MeetLaws.{Exact}
use Rattle.occ_domains.proofs.PartLaws.{part_has, part_normal}

-- Where a domain has two parts, the test fits it, these are they, and neither is empty.
pub record AreTheParts (d : Domain) (t : Test) (both : Domain × Domain) : Type 0 where
  pub fitting : fits d t ≡ true
  pub first : both.0 ≡ part true t d
  pub second : both.1 ≡ part false t d
  pub first_filled : is_empty both.0 ≡ false
  pub second_filled : is_empty both.1 ≡ false

given_two : (d : Domain) (t : Test) (both : Domain × Domain) → fits d t ≡ true → (a b : Domain) → a ≡ part true t d → b ≡ part false t d
    → (p q : Bool) → is_empty a ≡ p → is_empty b ≡ q → (if p || q then None else Some (a, b)) ≡ Some both → AreTheParts d t both
given_two d t both f a b x y true q e g h = let k : None ≡ Some both = h in cc
given_two d t both f a b x y false true e g h = let k : None ≡ Some both = h in cc
given_two d t both f a b x y false false e g h =
    let k : (a, b) ≡ both = cc in
    record {
      fitting = f;
      first = ap (λ z. z.0) (sym k) ∙ x;
      second = ap (λ z. z.1) (sym k) ∙ y;
      first_filled = ap (λ z. is_empty z.0) (sym k) ∙ e;
      second_filled = ap (λ z. is_empty z.1) (sym k) ∙ g;
    }

pub given_parts : (d : Domain) (t : Test) (both : Domain × Domain) → parts d t ≡ Some both → AreTheParts d t both
given_parts d t both h = at (fits d t) refl h where
  at : (f : Bool) → fits d t ≡ f → (if f then two (part true t d) (part false t d) else None) ≡ Some both → AreTheParts d t both
  at true e g = given_two d t both e (part true t d) (part false t d) refl refl (is_empty (part true t d)) (is_empty (part false t d)) refl refl g
  at false e g = let k : None ≡ Some both = g in cc

pub first_has : Exact → (d : Domain) (t : Test) (both : Domain × Domain) → parts d t ≡ Some both → (o : Outcome) → has both.0 o ≡ (has d o && passes t o)
first_has exact d t both h o = let w = given_parts d t both h in ap (λ x. has x o) w.first ∙ part_has exact true t d w.fitting o

pub second_has : Exact → (d : Domain) (t : Test) (both : Domain × Domain) → parts d t ≡ Some both → (o : Outcome) → has both.1 o ≡ (has d o && not (passes t o))
second_has exact d t both h o = let w = given_parts d t both h in ap (λ x. has x o) w.second ∙ part_has exact false t d w.fitting o

pub given_normal : Transitive → (d : Domain) (t : Test) (both : Domain × Domain) → is_normal d ≡ true → parts d t ≡ Some both → (is_normal both.0 ≡ true) × (is_normal both.1 ≡ true)
given_normal transitive d t both n h =
    let w = given_parts d t both h in
    (ap is_normal w.first ∙ part_normal transitive true t d n, ap is_normal w.second ∙ part_normal transitive false t d n)
