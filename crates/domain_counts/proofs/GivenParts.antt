-- What the two parts count, where there are two.
use Rattle.std.proofs.Common.{◌≡◌, ◌≤◌, ◌+◌, subst, Bool, true, false, ◌||◌, if◌then◌else◌, Some, None}
use Rattle.occ_domains.specs.declared.domain.Domain.{Domain}
use Rattle.occ_domains.specs.declared.tests.Test.{Test}
use Rattle.occ_domains.specs.Domains.{is_empty}
use Rattle.occ_domains.specs.Tests.{fits, part, two, parts}
use Rattle.domain_counts.specs.Counts.{count_in, is_setless_in}
use Rattle.domain_counts.proofs.PartCounts.{part_shared}
use Rattle.domain_counts.proofs.PartsWithoutSets.{part_setless}

given_two : (a b : Domain) (both : Domain × Domain) → (e : Bool) → (if e then None else Some (a, b)) ≡ Some both → (a, b) ≡ both
given_two a b both true h = let k : None ≡ Some both = h in cc
given_two a b both false h = let k : Some (a, b) ≡ Some both = h in cc

-- the two that are given are the parts
given_parts : (d : Domain) (t : Test) (both : Domain × Domain) → parts d t ≡ Some both → (part true t d, part false t d) ≡ both
given_parts d t both h = at (fits d t) h where
  at : (f : Bool) → (if f then two (part true t d) (part false t d) else None) ≡ Some both → (part true t d, part false t d) ≡ both
  at true g = given_two (part true t d) (part false t d) both (is_empty (part true t d) || is_empty (part false t d)) g
  at false g = let k : None ≡ Some both = g in cc

pub given_shared : (d : Domain) (t : Test) (both : Domain × Domain) → parts d t ≡ Some both → count_in both.0 + count_in both.1 ≤ count_in d
given_shared d t both h = subst (λ z. count_in z.0 + count_in z.1 ≤ count_in d) (given_parts d t both h) (part_shared t d)

pub given_setless : (d : Domain) (t : Test) (both : Domain × Domain) → is_setless_in d ≡ true → parts d t ≡ Some both
    → (is_setless_in both.0 ≡ true) × (is_setless_in both.1 ≡ true)
given_setless d t both s h = subst (λ z. (is_setless_in z.0 ≡ true) × (is_setless_in z.1 ≡ true)) (given_parts d t both h) (part_setless true t d s, part_setless false t d s)
