-- Narrow form in the steps of the code.
use Rattle.std.specs.Prelude.{ℕ, ◌+◌, Bool, true, false, List, [], ◌∷◌, map, Option, Some, None, unwrap_or}
use Rattle.eb_value.specs.declared.types.EbType.{EbType}
use Rattle.eb_value.specs.Types.{boolean}
use Rattle.eb_term.specs.declared.operators.Binder.{Binder}
use Rattle.eb_term.specs.declared.operators.Binder.TheVariants as binder
use Rattle.eb_term.specs.declared.term.Term.{Term}
use Rattle.eb_term.specs.declared.operators.Side.{Side}
use Rattle.eb_term.specs.declared.operators.Side.TheVariants as side
use Rattle.eb_term.specs.declared.operators.Infinite.TheVariants as infinite
use Rattle.eb_term.specs.declared.term.Head.TheOpen as head
use Rattle.eb_term.specs.Terms as term
use Rattle.eb_term.specs.Terms.{Layer, layer}
use Rattle.narrow_terms.specs.Shifting.{shift}
use Rattle.narrow_terms.specs.Building.{negation, both, is_defined, domain, range, whole, no_value}
use Rattle.eb_narrow.specs.declared.kinds.UnaryKind.{UnaryKind}
use Rattle.eb_narrow.specs.declared.kinds.UnaryKind.TheVariants as kind
use Rattle.term_types.specs.Types.{type_of}
use Rattle.eb_narrow.specs.Narrow.{Narrowed}

-- what has been joined, and one more
abbrev pub joined : Option Term → Term → Term
joined None q = q
joined (Some p) q = both p q

-- what has been joined, and more
abbrev pub joined_on : Option Term → List Term → Option Term
joined_on p [] = p
joined_on p (q ∷ qs) = joined_on (Some (joined p q)) qs

-- each part that is a value is defined
abbrev pub defined_values : Narrowed → ℕ → ℕ → List Term
defined_values f d x = map (λ v. is_defined (shift d x v)) (f.values d)

-- what stands for a binder in narrow form
abbrev pub narrow_binder : Binder → Binder
narrow_binder binder.ForAll = binder.Exists
narrow_binder binder.Exists = binder.Exists
narrow_binder binder.Collect = binder.Collect

-- `!` as not-exists-not: the body, and the whole
abbrev pub turned : Binder → Term → Term
turned binder.ForAll p = negation p
turned binder.Exists p = p
turned binder.Collect p = p

abbrev pub side_of : Side → Term → Term
side_of side.First e = domain e
side_of side.Second e = range e

-- no member of e is missing
abbrev pub has_no_other : EbType → Narrowed → ℕ → ℕ → Term → Term
has_no_other t f d x e = negation (term.over binder.Exists e (negation (f.has d (x + 1) (whole (d + x) t))))

abbrev pub is_integers_at : Layer → Bool
is_integers_at (head.Infinite infinite.Integers) = true
is_integers_at _ = false

-- INT
abbrev pub is_integers : Term → Bool
is_integers t = is_integers_at (layer t)

-- what stands for a form
abbrev pub no_value_of : Term → Term
no_value_of t = no_value (unwrap_or (type_of t) boolean)

-- the type of the first of the sets, BOOL where there is none
abbrev pub first_type : List Term → EbType
first_type [] = boolean
first_type (s ∷ ss) = unwrap_or (type_of s) boolean

abbrev pub is_power_set : UnaryKind → Bool
is_power_set kind.PowerSet = true
is_power_set kind.NonemptyPowerSet = true
is_power_set kind.UnionOfMembers = false
is_power_set kind.Other = false
