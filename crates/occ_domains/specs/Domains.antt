-- What a domain has: truths of a predicate, or values of an expression and Undefined.
use Rattle.std.specs.Prelude.{Bool, true, false, not, ◌&&◌, ◌||◌, Option, Some, None}
use Rattle.eb_value.specs.declared.value.Value.{Value}
use Rattle.eb_operations.specs.declared.truth3.Truth3.{Truth3}
use Rattle.eb_operations.specs.declared.truth3.Truth3.TheVariants.{True, False, Undefined}
use Rattle.occ_domains.specs.declared.body.Body.{Body}
use Rattle.occ_domains.specs.declared.body.Body.TheVariants as body
use Rattle.occ_domains.specs.declared.domain.Truths.{Truths}
use Rattle.occ_domains.specs.declared.domain.Domain.{Domain}
use Rattle.occ_domains.specs.declared.domain.Domain.TheVariants as domain
use Rattle.occ_domains.specs.Bodies as values

-- what comes of a formula: a truth of a predicate; a value of an expression, or none where it is Undefined
pub data Outcome : Type 0 where
  truth : Truth3 → Outcome
  slot : Option Value → Outcome

abbrev pub has_truth : Truths → Truth3 → Bool
has_truth t True = t.can_be_true
has_truth t False = t.can_be_false
has_truth t Undefined = t.can_be_undefined

abbrev pub has_slot : Body → Bool → Option Value → Bool
has_slot b undefined None = undefined
has_slot b undefined (Some v) = values.has b v

-- the outcome is one of the domain's
abbrev pub has : Domain → Outcome → Bool
has (domain.Truths t) (truth p) = has_truth t p
has (domain.Values b undefined) (slot s) = has_slot b undefined s
has _ _ = false

-- it has no truth; or its body is empty, and it isn't Undefined
abbrev pub is_empty : Domain → Bool
is_empty (domain.Truths t) = not (t.can_be_true || t.can_be_false || t.can_be_undefined)
is_empty (domain.Values b undefined) = not undefined && values.is_empty b

-- its body, if it has one, is in normal form
abbrev pub is_normal : Domain → Bool
is_normal (domain.Truths t) = true
is_normal (domain.Values b undefined) = values.is_normal b

-- the domain without outcomes
abbrev pub nothing : Domain
nothing = domain.Values body.Empty false

abbrev pub common_truths : Truths → Truths → Truths
common_truths s t = record {
  can_be_true = s.can_be_true && t.can_be_true;
  can_be_false = s.can_be_false && t.can_be_false;
  can_be_undefined = s.can_be_undefined && t.can_be_undefined;
}

-- the truths of both; the values of both, and Undefined where both may be
abbrev pub meet : Domain → Domain → Domain
meet (domain.Truths s) (domain.Truths t) = domain.Truths (common_truths s t)
meet (domain.Values a u) (domain.Values b w) = domain.Values (values.meet a b) (u && w)
meet _ _ = nothing

-- the one value of a domain that has just one and isn't Undefined
abbrev pub single : Domain → Option Value
single (domain.Values b false) = values.single b
single _ = None

-- the least domain with what an expression is: a value, or Undefined
abbrev pub only : Option Value → Domain
only (Some v) = domain.Values (values.exactly v) false
only None = domain.Values body.Empty true
