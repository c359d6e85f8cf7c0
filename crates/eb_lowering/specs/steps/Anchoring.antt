-- The ranges of a binder in the steps of the code.
use Rattle.std.specs.Prelude.{◌≡◌, ℕ, Bool, true, false, not, ◌&&◌, if◌then◌else◌, List, [], ◌∷◌, ◌++◌, map, max, Option, Some, None}
use Rattle.std.specs.List.{list_all}
use Rattle.eb_syntax.specs.declared.ast.Operator.{Operator}
use Rattle.eb_syntax.specs.declared.ast.Operator.TheVariants as op
use Rattle.eb_term.specs.declared.operators.Side.{Side}
use Rattle.eb_resolved.specs.declared.resolved.Resolved.{Resolved, size-Resolved}
use Rattle.eb_forms.specs.Forms.{is_value}
use Rattle.eb_lowering.specs.declared.setting.Setting.{Setting}
use Rattle.eb_lowering.specs.declared.around.Around.{Around}
use Rattle.eb_lowering.specs.declared.around.Leaf.{Leaf}
use Rattle.eb_lowering.specs.declared.anchors.Range.{Range as Kept}
use Rattle.eb_lowering.specs.declared.anchors.Range.TheVariants as kept
use Rattle.eb_lowering.specs.Anchors as anchor
use Rattle.eb_lowering.specs.Anchors.{Conjunct, Range}
use Rattle.eb_lowering.specs.Lowering.{lowered}
use Rattle.eb_term.specs.declared.term.Term.{Term}

-- `|->`
abbrev pub is_maplet : Operator → Bool
is_maplet op.MapsTo = true
is_maplet o = false

-- `&`
abbrev pub is_conjunction : Operator → Bool
is_conjunction op.And = true
is_conjunction o = false

-- `:`
abbrev pub is_membership : Operator → Bool
is_membership op.MemberOf = true
is_membership o = false

-- `=>`
abbrev pub is_implication : Operator → Bool
is_implication op.Implies = true
is_implication o = false

-- what stands at the end of this path
abbrev pub beyond : List Side → Leaf → Leaf
beyond path l = record { number = l.number; path = path ++ l.path }

-- the identifiers of what stands at this path are written to the end, where it is made of them
abbrev pub Writes : List Leaf → List Leaf → List Side → Bool → Option (List Leaf) → Type 0
Writes old new path true None = ⊥
Writes old new path true (Some ls) = new ≡ old ++ map (beyond path) ls
Writes old new path false o = o ≡ None

-- a range as the definitions have it
abbrev pub seen : Setting → Kept → Range (Around → Term)
seen s (kept.Over ls r) = anchor.over ls (lowered s r.now).term
seen s (kept.All k) = anchor.all k

abbrev pub of_all : ℕ → Kept
of_all k = kept.All k

abbrev pub size_in : Kept → ℕ
size_in (kept.Over ls r) = size-Resolved r.now
size_in (kept.All k) = 0

-- the depth of the deepest formula
abbrev pub largest : List Kept → ℕ
largest [] = 0
largest (r ∷ rs) = max (size_in r) (largest rs)

-- a conjunct `p : E`, where p is made of these identifiers
abbrev pub conjunct : Setting → List Leaf → Resolved → Conjunct (Around → Term)
conjunct s ls range = let e = lowered s range in record { leaves = Some ls; range = e.term; uses = e.uses; is_value = is_value e.kind }

-- whether identifiers are bound by a set, which is a value or not and uses some that have no anchor or not
abbrev pub is_bound : List Leaf → List ℕ → Bool → Bool → Bool
is_bound ls free v u = anchor.are_distinct (anchor.numbers_of ls) && list_all (anchor.is_in free) (anchor.numbers_of ls) && v && not u

-- what is left of the ranges behind some conjuncts, where each of them was an anchor or not
abbrev pub left : List ℕ → Bool → List (Conjunct (Around → Term)) → List (Range (Around → Term))
left free goes_on more = if goes_on then anchor.ranges_of free more else map anchor.all free

-- The conjuncts are read: some ranges are written to the end, and some identifiers are left without anchors. So it is whatever
-- conjuncts follow.
abbrev pub Anchors : Setting → List (Conjunct (Around → Term)) → List ℕ → List ℕ → List Kept → List Kept → Bool → Type 0
Anchors s cs free rest old new goes_on = (more : List (Conjunct (Around → Term))) → map (seen s) old ++ anchor.ranges_of free (cs ++ more) ≡ map (seen s) new ++ left rest goes_on more

abbrev pub conjuncts_of : Setting → Option Resolved → List (Conjunct (Around → Term))
conjuncts_of s None = []
conjuncts_of s (Some r) = (lowered s r).conjuncts

abbrev pub size_of : Option Resolved → ℕ
size_of None = 0
size_of (Some r) = size-Resolved r
