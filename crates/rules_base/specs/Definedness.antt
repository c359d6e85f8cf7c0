-- The rows of `Defined` and of predicates as values: a predicate by whether an expression is defined, and an expression by the truth
-- of a predicate.
use Rattle.std.specs.Prelude.{Bool, true, false, not, ◌&&◌, ◌||◌, if◌then◌else◌, List, [], ◌∷◌, ◌++◌, Option}
use Rattle.eb_value.specs.declared.value.Value.{Value}
use Rattle.eb_value.specs.Values as value
use Rattle.eb_operations.specs.declared.truth3.Truth3.{Truth3}
use Rattle.eb_operations.specs.Truths.{truth_of}
use Rattle.eb_operations.specs.Operations.{is_value}
use Rattle.occ_domains.specs.declared.body.Body.{Body}
use Rattle.occ_domains.specs.declared.body.Body.TheVariants as of
use Rattle.occ_domains.specs.declared.domain.Truths.{Truths}
use Rattle.occ_domains.specs.declared.domain.Domain.{Domain}
use Rattle.occ_domains.specs.declared.domain.Domain.TheVariants as domain
use Rattle.occ_domains.specs.Bodies as bodies

-- ---- `Defined(E)`

-- the truth of `Defined(E)` by what E has
abbrev pub defined : Option Value → Truth3
defined e = truth_of (is_value e)

-- Up: it may be true where E may have a value, and false where E may be Undefined
abbrev pub up_defined : Body → Bool → Truths
up_defined b undefined = record { can_be_true = not (bodies.is_empty b); can_be_false = undefined; can_be_undefined = false }

-- what may be true alone, and what may be false alone
abbrev pub is_true_alone : Truths → Bool
is_true_alone t = t.can_be_true && not t.can_be_false && not t.can_be_undefined

abbrev pub is_false_alone : Truths → Bool
is_false_alone t = t.can_be_false && not t.can_be_true && not t.can_be_undefined

-- Down: E isn't Undefined where it is true alone, and has no value where it is false alone
abbrev pub down_defined : Truths → Body → Bool → Domain
down_defined whole b undefined = domain.Values (if is_false_alone whole then of.Empty else b) (undefined && not (is_true_alone whole))

-- ---- a predicate as a value

abbrev pub where_so : Bool → Value → List Value
where_so true v = v ∷ []
where_so false v = []

-- Up: FALSE where the predicate may be false, TRUE where it may be true, and Undefined where it may be that
abbrev pub up_as_value : Truths → Domain
up_as_value t = domain.Values (bodies.members (where_so t.can_be_false (value.truth false) ++ where_so t.can_be_true (value.truth true))) t.can_be_undefined

-- Down, where the whole isn't Undefined: true where it has TRUE, false where it has FALSE, and not Undefined. An empty whole tells
-- nothing of the truth.
abbrev pub down_as_value : Body → Bool → Truths → Truths
down_as_value b undefined t = if undefined then t else record {
  can_be_true = t.can_be_true && (bodies.is_empty b || bodies.has b (value.truth true));
  can_be_false = t.can_be_false && (bodies.is_empty b || bodies.has b (value.truth false));
  can_be_undefined = false;
}
