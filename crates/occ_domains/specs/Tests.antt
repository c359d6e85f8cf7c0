-- The two parts of a domain by a test.
use Rattle.std.specs.Prelude.{◌≡◌, ◌⊎◌, ℤ, int_le, Bool, true, false, not, ◌&&◌, ◌||◌, if◌then◌else◌, List, [], ◌∷◌, filter, Option, Some, None}
use Rattle.eb_value.specs.declared.value.Value.{Value}
use Rattle.eb_value.specs.declared.value.Form.TheOpen as val
use Rattle.eb_value.specs.Values.{Layer, layer}
use Rattle.eb_value.specs.Comprehensions.{same}
use Rattle.eb_term.specs.declared.operators.Side.{Side}
use Rattle.eb_term.specs.declared.operators.Side.TheVariants as side
use Rattle.eb_operations.specs.declared.truth3.Truth3.TheVariants as is
use Rattle.int_dom.specs.declared.interval.Interval.{Interval}
use Rattle.int_dom.specs.Intervals.{at_most, above, filled}
use Rattle.occ_domains.specs.declared.body.Body.{Body, Body-F, out-Body}
use Rattle.occ_domains.specs.declared.body.Body.TheOpen as body
use Rattle.occ_domains.specs.declared.body.Body.TheVariants as of
use Rattle.occ_domains.specs.declared.domain.Truths.{Truths}
use Rattle.occ_domains.specs.declared.domain.Domain.{Domain}
use Rattle.occ_domains.specs.declared.domain.Domain.TheVariants as domain
use Rattle.occ_domains.specs.declared.tests.Test.{Test}
use Rattle.occ_domains.specs.declared.tests.Test.TheVariants as test
use Rattle.occ_domains.specs.Bodies.{members, pairs}
use Rattle.occ_domains.specs.Domains.{Outcome, truth, slot, has, is_empty, nothing}

-- ---- what passes

abbrev pub is_at_most : ℤ → Layer → Bool
is_at_most n (val.Int m) = int_le m n
is_at_most n _ = false

abbrev pub in_part : Side → (Value → Bool) → Layer → Bool
in_part side.First p (val.Pair a b) = p a
in_part side.Second p (val.Pair a b) = p b
in_part s p _ = false

-- the part of the value at the path is there and passes
abbrev pub holds_at : (Value → Bool) → List Side → Value → Bool
holds_at p [] v = p v
holds_at p (s ∷ path) v = in_part s (holds_at p path) (layer v)

-- the outcome passes the test
abbrev pub passes : Test → Outcome → Bool
passes (test.AtMost path n) (slot (Some v)) = holds_at (λ w. is_at_most n (layer w)) path v
passes (test.Is path u) (slot (Some v)) = holds_at (λ w. same w u) path v
passes test.Defined (slot (Some v)) = true
passes test.True (truth is.True) = true
passes test.False (truth is.False) = true
passes test.Undefined (truth is.Undefined) = true
passes _ _ = false

-- ---- what fits

abbrev pub fits_layer : Test → Body-F Body → Bool
fits_layer (test.AtMost path n) (body.Integers d) = true
fits_layer (test.Is path u) (body.Members xs) = true
fits_layer _ _ = false

-- the test fits what stands at its path
abbrev pub fits_leaf : Test → Body → Bool
fits_leaf t b = fits_layer t (out-Body b)

abbrev pub fits_in : Side → (Body → Bool) → Body-F Body → Bool
fits_in side.First q (body.Pairs a b) = q a
fits_in side.Second q (body.Pairs a b) = q b
fits_in s q _ = false

-- the path leads through pairs to a body that fits
abbrev pub fits_at : (Body → Bool) → List Side → Body → Bool
fits_at q [] b = q b
fits_at q (s ∷ path) b = fits_in s (fits_at q path) (out-Body b)

-- Tests of values fit values, and those with a path what stands there; tests of truths fit truths.
abbrev pub fits : Domain → Test → Bool
fits (domain.Values b u) (test.AtMost path n) = fits_at (fits_leaf (test.AtMost path n)) path b
fits (domain.Values b u) (test.Is path v) = fits_at (fits_leaf (test.Is path v)) path b
fits (domain.Values b u) test.Defined = true
fits (domain.Truths t) test.True = true
fits (domain.Truths t) test.False = true
fits (domain.Truths t) test.Undefined = true
fits _ _ = false

-- ---- the parts: the outcomes that pass, where keep is true, and else the others

abbrev pub is_kept : Bool → Bool → Bool
is_kept true b = b
is_kept false b = not b

abbrev pub body_of : Option Interval → Body
body_of None = of.Empty
body_of (Some d) = of.Integers d

abbrev pub cut : Bool → ℤ → Interval → Body
cut true n d = body_of (filled (at_most n d))
cut false n d = body_of (filled (above n d))

abbrev pub is_alike : Bool → Value → Value → Bool
is_alike keep u v = is_kept keep (same v u)

abbrev pub leaf_layer : Bool → Test → Body-F Body → Body
leaf_layer keep (test.AtMost path n) (body.Integers d) = cut keep n d
leaf_layer keep (test.Is path u) (body.Members xs) = members (filter (is_alike keep u) xs)
leaf_layer keep _ _ = of.Empty

abbrev pub leaf : Bool → Test → Body → Body
leaf keep t b = leaf_layer keep t (out-Body b)

abbrev pub changed_in : Side → (Body → Body) → Body-F Body → Body
changed_in side.First f (body.Pairs a b) = pairs (f a) b
changed_in side.Second f (body.Pairs a b) = pairs a (f b)
changed_in s f _ = of.Empty

-- the body with what stands at the path changed
abbrev pub changed_at : (Body → Body) → List Side → Body → Body
changed_at f [] b = f b
changed_at f (s ∷ path) b = changed_in s (changed_at f path) (out-Body b)

abbrev pub truths_part : Bool → Test → Truths → Truths
truths_part keep t s = record {
  can_be_true = s.can_be_true && is_kept keep (passes t (truth is.True));
  can_be_false = s.can_be_false && is_kept keep (passes t (truth is.False));
  can_be_undefined = s.can_be_undefined && is_kept keep (passes t (truth is.Undefined));
}

abbrev pub defined_part : Bool → Body → Bool → Domain
defined_part true b u = domain.Values b false
defined_part false b u = domain.Values of.Empty u

abbrev pub part : Bool → Test → Domain → Domain
part keep t (domain.Truths s) = domain.Truths (truths_part keep t s)
part keep (test.AtMost path n) (domain.Values b u) = domain.Values (changed_at (leaf keep (test.AtMost path n)) path b) (u && not keep)
part keep (test.Is path v) (domain.Values b u) = domain.Values (changed_at (leaf keep (test.Is path v)) path b) (u && not keep)
part keep test.Defined (domain.Values b u) = defined_part keep b u
part keep _ (domain.Values b u) = nothing

-- both, where neither is empty
abbrev pub two : Domain → Domain → Option (Domain × Domain)
two a b = if is_empty a || is_empty b then None else Some (a, b)

-- the two parts, where the test fits and neither is empty
abbrev pub parts : Domain → Test → Option (Domain × Domain)
parts d t = if fits d t then two (part true t d) (part false t d) else None

-- the domain's outcomes all pass, or none does
abbrev pub AreAlike : Domain → Test → Type 0
AreAlike d t = ((o : Outcome) → has d o ≡ true → passes t o ≡ true) ⊎ ((o : Outcome) → has d o ≡ true → passes t o ≡ false)
