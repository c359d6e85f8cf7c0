-- Domains of choices: values, none of them Undefined, in normal form, and no sets. They stay so where they are met and parted.
use Rattle.std.proofs.Common.{◌≡◌, ◌∙◌, refl, sym, ap, subst, ◌+◌, ◌≤◌, Bool, true, false, not, ◌&&◌, ◌||◌, Some, None, length, rules}
use Rattle.eb_value.specs.declared.scope.Scope.{Scope}
use Rattle.eb_value.specs.declared.types.EbType.{EbType}
use Rattle.eb_value.specs.Scopes.{vals}
use Rattle.eb_operations.specs.declared.truth3.Truth3.{Truth3}
use Rattle.eb_operations.specs.declared.truth3.Truth3.TheVariants as is
use Rattle.occ_domains.specs.declared.body.Body.{Body, the_lemmas}
use Rattle.occ_domains.specs.declared.body.Body.TheVariants as body
use Rattle.occ_domains.specs.declared.domain.Domain.{Domain}
use Rattle.occ_domains.specs.declared.domain.Domain.TheVariants as domain
use Rattle.occ_domains.specs.declared.tests.Test.{Test}
use Rattle.occ_domains.specs.Bodies as values
use Rattle.occ_domains.specs.Domains as domains
use Rattle.occ_domains.specs.Domains.{Outcome, truth, slot, has, is_empty, is_normal, single}
use Rattle.occ_domains.specs.Tests as tests
use Rattle.occ_domains.specs.Tests.{passes}
use Rattle.occ_domains.specs.Wholes as wholes
use Rattle.occ_domains.specs.Wholes.{is_without_sets}
use Rattle.domain_counts.specs.Counts.{count, count_in, is_setless, is_setless_in}

-- what the proofs rest on
pub record Counts : Type 0 where
  pub meet : (a b : Domain) → is_normal a ≡ true → count_in (domains.meet a b) ≤ count_in a
  pub parts : (d : Domain) (t : Test) (two : Domain × Domain) → is_normal d ≡ true → tests.parts d t ≡ Some two → count_in two.0 + count_in two.1 ≤ count_in d
  pub filled : (b : Body) → values.is_normal b ≡ true → values.is_empty b ≡ false → 1 ≤ count b
  pub several : (b : Body) → values.is_normal b ≡ true → values.is_empty b ≡ false → is_setless b ≡ true → values.single b ≡ None → 2 ≤ count b
  pub setless_meet : (a b : Body) → is_setless a ≡ true → is_setless (values.meet a b) ≡ true
  pub setless_parts : (b : Body) (u : Bool) (t : Test) (two : Domain × Domain) → is_setless b ≡ true → tests.parts (domain.Values b u) t ≡ Some two
      → (is_setless_in two.0 ≡ true) × (is_setless_in two.1 ≡ true)
  pub first : (scope : Scope) (ty : EbType) → is_without_sets ty ≡ true → (is_setless (wholes.first scope ty) ≡ true) × (count (wholes.first scope ty) ≡ length (vals scope ty))
  pub first_part : (d : Domain) (t : Test) (two : Domain × Domain) → tests.parts d t ≡ Some two → (o : Outcome) → has two.0 o ≡ (has d o && passes t o)
  pub second_part : (d : Domain) (t : Test) (two : Domain × Domain) → tests.parts d t ≡ Some two → (o : Outcome) → has two.1 o ≡ (has d o && not (passes t o))
  pub parts_filled : (d : Domain) (t : Test) (two : Domain × Domain) → tests.parts d t ≡ Some two → (is_empty two.0 ≡ false) × (is_empty two.1 ≡ false)
  pub normal_meet : (a b : Domain) → is_normal a ≡ true → is_normal (domains.meet a b) ≡ true
  pub normal_parts : (d : Domain) (t : Test) (two : Domain × Domain) → is_normal d ≡ true → tests.parts d t ≡ Some two → (is_normal two.0 ≡ true) × (is_normal two.1 ≡ true)
  pub normal_first : (scope : Scope) (ty : EbType) → is_normal (domain.Values (wholes.first scope ty) false) ≡ true

pub record IsOfChoice (d : Domain) : Type 0 where
  pub body : Body
  pub is : d ≡ domain.Values body false
  pub normal : values.is_normal body ≡ true
  pub setless : is_setless body ≡ true

empty_is : Counts → IsOfChoice (domain.Values body.Empty false)
empty_is counts = record { body = body.Empty; is = refl; normal = search (rules, the_lemmas); setless = search (rules, the_lemmas) }

pub normal_of : (d : Domain) → IsOfChoice d → is_normal d ≡ true
normal_of d w = ap is_normal w.is ∙ w.normal

met_is : Counts → (b : Body) → values.is_normal b ≡ true → is_setless b ≡ true → (e : Domain) → IsOfChoice (domains.meet (domain.Values b false) e)
met_is counts b n s (domain.Truths t) = empty_is counts
met_is counts b n s (domain.Values c w) = record { body = values.meet b c; is = refl; normal = counts.normal_meet (domain.Values b false) (domain.Values c w) n; setless = counts.setless_meet b c s }

pub meet_is : Counts → (d e : Domain) → IsOfChoice d → IsOfChoice (domains.meet d e)
meet_is counts d e w = subst (λ x. IsOfChoice (domains.meet x e)) (sym w.is) (met_is counts w.body w.normal w.setless e)

no_truth : (a b c : Bool) → a ≡ false → b ≡ false → c ≡ false → not (a || b || c) ≡ true
no_truth a b c d e f = rw (d, e, f) refl

-- values without Undefined: a domain that isn't empty, and has no truths
no_truths : (x : Domain) → is_empty x ≡ false → ((p : Truth3) → has x (truth p) ≡ false) → has x (slot None) ≡ false → is_normal x ≡ true → is_setless_in x ≡ true → IsOfChoice x
no_truths (domain.Truths t) e f h n s = let k : true ≡ false = sym (no_truth t.can_be_true t.can_be_false t.can_be_undefined (f is.True) (f is.False) (f is.Undefined)) ∙ e in cc
no_truths (domain.Values b u) e f h n s = record { body = b; is = ap (domain.Values b) h; normal = n; setless = s }

truth_in : (d : Domain) → IsOfChoice d → (p : Truth3) → has d (truth p) ≡ false
truth_in d w p = ap (λ x. has x (truth p)) w.is

none_in : (d : Domain) → IsOfChoice d → has d (slot None) ≡ false
none_in d w = ap (λ x. has x (slot None)) w.is

and_none : (a b : Bool) → a ≡ false → (a && b) ≡ false
and_none a b e = rw e refl

pub parts_are : Counts → (d : Domain) (t : Test) (two : Domain × Domain) → IsOfChoice d → tests.parts d t ≡ Some two → IsOfChoice two.0 × IsOfChoice two.1
parts_are counts d t two w e =
    let normal = counts.normal_parts d t two (normal_of d w) e in
    let setless = counts.setless_parts w.body false t two w.setless (ap (λ x. tests.parts x t) (sym w.is) ∙ e) in
    let filled = counts.parts_filled d t two e in (
      no_truths two.0 filled.0 (λ p. counts.first_part d t two e (truth p) ∙ and_none (has d (truth p)) (passes t (truth p)) (truth_in d w p))
          (counts.first_part d t two e (slot None) ∙ and_none (has d (slot None)) (passes t (slot None)) (none_in d w)) normal.0 setless.0,
      no_truths two.1 filled.1 (λ p. counts.second_part d t two e (truth p) ∙ and_none (has d (truth p)) (not (passes t (truth p))) (truth_in d w p))
          (counts.second_part d t two e (slot None) ∙ and_none (has d (slot None)) (not (passes t (slot None))) (none_in d w)) normal.1 setless.1,
    )

-- ---- how many values

filled_body : (d : Domain) (w : IsOfChoice d) → is_empty d ≡ false → values.is_empty w.body ≡ false
filled_body d w h = let k : is_empty (domain.Values w.body false) ≡ false = ap is_empty (sym w.is) ∙ h in k

pub at_least_one : Counts → (d : Domain) → IsOfChoice d → is_empty d ≡ false → 1 ≤ count_in d
at_least_one counts d w h = subst (λ x. 1 ≤ count_in x) (sym w.is) (counts.filled w.body w.normal (filled_body d w h))

pub at_least_two : Counts → (d : Domain) → IsOfChoice d → is_empty d ≡ false → single d ≡ None → 2 ≤ count_in d
at_least_two counts d w h s = subst (λ x. 2 ≤ count_in x) (sym w.is) (counts.several w.body w.normal (filled_body d w h) w.setless (ap single (sym w.is) ∙ s))

pub first_is : Counts → (scope : Scope) (ty : EbType) → is_without_sets ty ≡ true → IsOfChoice (domain.Values (wholes.first scope ty) false)
first_is counts scope ty h = record { body = wholes.first scope ty; is = refl; normal = counts.normal_first scope ty; setless = (counts.first scope ty h).0 }
