-- The three truths of predicates, and the connectives from left to right.
use Rattle.std.specs.Prelude.{Bool, true, false, ◌&&◌, ◌||◌, List, [], ◌∷◌, Option, Some, None}
use Rattle.eb_syntax.specs.declared.ast.Operator.{Operator}
use Rattle.eb_syntax.specs.declared.ast.Operator.TheVariants as op
use Rattle.eb_operations.specs.declared.truth3.Truth3.{Truth3}
use Rattle.eb_operations.specs.declared.truth3.Truth3.TheVariants.{True, False, Undefined}

abbrev pub truth_of : Bool → Truth3
truth_of true = True
truth_of false = False

abbrev pub is_true : Truth3 → Bool
is_true True = true
is_true _ = false

abbrev pub is_defined : Truth3 → Bool
is_defined Undefined = false
is_defined _ = true

-- the truth of a test, and Undefined where there is none
abbrev pub tested : Option Bool → Truth3
tested None = Undefined
tested (Some b) = truth_of b

-- not P
abbrev pub negation : Truth3 → Truth3
negation True = False
negation False = True
negation Undefined = Undefined

-- P & Q: the truth of P where it isn't True, else that of Q
abbrev pub conjunction : Truth3 → Truth3 → Truth3
conjunction True q = q
conjunction False q = False
conjunction Undefined q = Undefined

-- P or Q: the truth of P where it isn't False, else that of Q
abbrev pub disjunction : Truth3 → Truth3 → Truth3
disjunction True q = True
disjunction False q = q
disjunction Undefined q = Undefined

-- P => Q: Undefined where P is, True where P is False, else the truth of Q
abbrev pub implication : Truth3 → Truth3 → Truth3
implication True q = q
implication False q = True
implication Undefined q = Undefined

-- both are defined, and the truth that the two have
abbrev pub strict : (Bool → Bool → Bool) → Truth3 → Truth3 → Truth3
strict f Undefined q = Undefined
strict f p Undefined = Undefined
strict f p q = truth_of (f (is_true p) (is_true q))

abbrev pub same_truth : Bool → Bool → Bool
same_truth true b = b
same_truth false true = false
same_truth false false = true

-- the conjunction that is Undefined where a side is
abbrev pub both : Truth3 → Truth3 → Truth3
both = strict (λ a b. a && b)

-- P <=> Q
abbrev pub equivalence : Truth3 → Truth3 → Truth3
equivalence = strict same_truth

-- each instance is True; Undefined where one is
abbrev pub for_all : List Truth3 → Truth3
for_all [] = True
for_all (p ∷ ps) = both p (for_all ps)

-- the disjunction that is Undefined where a side is
abbrev pub either : Truth3 → Truth3 → Truth3
either = strict (λ a b. a || b)

-- some instance is True; Undefined where one is
abbrev pub exists : List Truth3 → Truth3
exists [] = False
exists (p ∷ ps) = either p (exists ps)

-- P & Q, P or Q, P => Q, P <=> Q; Undefined of another operator
abbrev pub connective : Operator → Truth3 → Truth3 → Truth3
connective op.And p q = conjunction p q
connective op.Or p q = disjunction p q
connective op.Implies p q = implication p q
connective op.Equivalent p q = equivalence p q
connective _ p q = Undefined
