-- Whether two domains are equal, as the code tells it part by part. It is a means of proof.
use Rattle.std.specs.Prelude.{Bool, true, false, ◌&&◌, List, [], ◌∷◌}
use Rattle.std.specs.Ordering.{int_eq}
use Rattle.eb_value.specs.declared.value.Value.{Value}
use Rattle.eb_value.specs.Comprehensions.{same as same_value}
use Rattle.int_dom.specs.declared.interval.Interval.{Interval}
use Rattle.occ_domains.specs.declared.body.Body.{Body, Body-F, out-Body, fold-Body}
use Rattle.occ_domains.specs.declared.body.Body.TheOpen as body
use Rattle.occ_domains.specs.declared.domain.Truths.{Truths}
use Rattle.occ_domains.specs.declared.domain.Domain.{Domain}
use Rattle.occ_domains.specs.declared.domain.Domain.TheVariants as domain

abbrev pub same_bits : Bool → Bool → Bool
same_bits true true = true
same_bits false false = true
same_bits _ _ = false

abbrev pub same_intervals : Interval → Interval → Bool
same_intervals c d = int_eq c.lo d.lo && int_eq c.hi d.hi

abbrev pub same_lists : List Value → List Value → Bool
same_lists [] [] = true
same_lists (x ∷ xs) (y ∷ ys) = same_value x y && same_lists xs ys
same_lists _ _ = false

abbrev pub same_step : Body-F (Body → Bool) → Body-F Body → Bool
same_step body.Empty body.Empty = true
same_step (body.Integers c) (body.Integers d) = same_intervals c d
same_step (body.Members xs) (body.Members ys) = same_lists xs ys
same_step (body.Pairs f g) (body.Pairs c d) = f c && g d
same_step body.AllSets body.AllSets = true
same_step _ _ = false

-- of one kind, with the same ends, the same list, or the same parts
abbrev pub same_bodies : Body → Body → Bool
same_bodies = fold-Body (Body → Bool) (λ s b. same_step s (out-Body b))

abbrev pub same_truths : Truths → Truths → Bool
same_truths s t = same_bits s.can_be_true t.can_be_true && (same_bits s.can_be_false t.can_be_false && same_bits s.can_be_undefined t.can_be_undefined)

-- of one kind, with the same truths; or with the same body, and Undefined in both or in neither
abbrev pub same : Domain → Domain → Bool
same (domain.Truths s) (domain.Truths t) = same_truths s t
same (domain.Values a u) (domain.Values b w) = same_bits u w && same_bodies a b
same _ _ = false
