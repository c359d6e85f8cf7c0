-- The rows of connectives: which truths a predicate may have by those of its parts, and a part by those of the whole and of the other.
use Rattle.std.specs.Prelude.{Bool, true, false, ◌&&◌, ◌||◌}
use Rattle.eb_operations.specs.declared.truth3.Truth3.{Truth3}
use Rattle.eb_operations.specs.declared.truth3.Truth3.TheVariants.{True, False, Undefined}
use Rattle.eb_operations.specs.Truths.{negation, conjunction, disjunction, implication, equivalence, both}
use Rattle.eb_term.specs.declared.operators.Side.{Side}
use Rattle.eb_term.specs.declared.operators.Side.TheVariants as side
use Rattle.occ_domains.specs.declared.domain.Truths.{Truths}
use Rattle.occ_domains.specs.Domains.{has_truth}
use Rattle.rules_base.specs.declared.connective.Connective.{Connective}
use Rattle.rules_base.specs.declared.connective.Connective.TheVariants as by

abbrev pub truth_by : Connective → Truth3 → Truth3 → Truth3
truth_by by.And p q = conjunction p q
truth_by by.Or p q = disjunction p q
truth_by by.Implies p q = implication p q
truth_by by.Equivalent p q = equivalence p q
truth_by by.Both p q = both p q

abbrev pub is_same : Truth3 → Truth3 → Bool
is_same True True = true
is_same False False = true
is_same Undefined Undefined = true
is_same p q = false

-- the truths that pass
abbrev pub those : (Truth3 → Bool) → Truths
those passes = record { can_be_true = passes True; can_be_false = passes False; can_be_undefined = passes Undefined }

-- one of the truths passes
abbrev pub some : Truths → (Truth3 → Bool) → Bool
some a passes = (a.can_be_true && passes True) || (a.can_be_false && passes False) || (a.can_be_undefined && passes Undefined)

-- Up: the truths of the connective over a truth of each side
abbrev pub up : Connective → Truths → Truths → Truths
up w a b = those (λ r. some a (λ x. some b (λ y. is_same (truth_by w x y) r)))

-- the connective over a truth of one side and one of the other
abbrev pub of_side : Connective → Side → Truth3 → Truth3 → Truth3
of_side w side.First x y = truth_by w x y
of_side w side.Second x y = truth_by w y x

-- Down: of a side, those of its truths that with some truth of the other side have one of the whole
abbrev pub down : Connective → Side → Truths → Truths → Truths → Truths
down w s whole part other = those (λ x. has_truth part x && some other (λ y. has_truth whole (of_side w s x y)))

abbrev pub up_negation : Truths → Truths
up_negation a = those (λ r. some a (λ x. is_same (negation x) r))

abbrev pub down_negation : Truths → Truths → Truths
down_negation whole part = those (λ x. has_truth part x && has_truth whole (negation x))
