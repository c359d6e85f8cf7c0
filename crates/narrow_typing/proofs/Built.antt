-- What narrow form writes is judged as its parts are.
use Rattle.std.proofs.Common.{◌≡◌, refl, subst, ◌+◌, true, List, [], ◌∷◌, ◌++◌, length, map, pos, length-append}
use Rattle.std.specs.Prelude.{Some, slice_get}
use Rattle.std.specs.List.{AllByRecursion}
use Rattle.eb_syntax.specs.declared.ast.Prefix.TheVariants as prefix
use Rattle.eb_syntax.specs.declared.ast.Call.TheVariants as call
use Rattle.eb_syntax.specs.declared.ast.Operator.TheVariants as op
use Rattle.eb_value.specs.declared.types.EbType.{EbType}
use Rattle.eb_value.specs.Types.{integer, product, power}
use Rattle.type_table.specs.Rows.{Sort, predicate, expression, Choice, relation}
use Rattle.eb_term.specs.declared.operators.Infinite.{Infinite}
use Rattle.eb_term.specs.declared.operators.Infinite.TheVariants as infinite
use Rattle.eb_term.specs.declared.term.Term.{Term}
use Rattle.eb_term.specs.Terms as term
use Rattle.narrow_terms.specs.Shifting.{shift}
use Rattle.narrow_terms.specs.Building.{operation, negation, conjunction, both, equal, at_most, member, subset, domain, range, inverse, extension, pair, is_defined, empty_set, no_value, whole, both_on, both_of, infinite_has, union_on, union_of, are_apart, disjoint_parts, partition}
use Rattle.narrow_typing.proofs.Judging.{Judges}

-- each letter stands for this type
abbrev pub every : EbType → Choice
every t = record { for_a = t; for_b = t; for_c = t; for_d = t }

-- the first two letters stand for these types
abbrev pub two : EbType → EbType → Choice
two s t = record { for_a = s; for_b = t; for_c = t; for_d = t }

at_end : (ts : List EbType) (t : EbType) → slice_get (ts ++ t ∷ []) (length ts) ≡ Some t
at_end [] t = refl
at_end (u ∷ ts) t = at_end ts t

at_middle : (ts : List EbType) (t u : EbType) → slice_get ((ts ++ t ∷ []) ++ u ∷ []) (length ts) ≡ Some t
at_middle [] t u = refl
at_middle (x ∷ ts) t u = at_middle ts t u

pub all_joined : {A : Type 0} (P : A → Type 0) (xs ys : List A) → AllByRecursion P xs → AllByRecursion P ys → AllByRecursion P (xs ++ ys)
all_joined P [] ys h k = k
all_joined P (x ∷ xs) ys h k = (h.0, all_joined P xs ys h.1 k)

module _ (G : List EbType → Term → Sort → Type 0) (J : Judges G) where
  -- a term with a value
  abbrev pub IsValue : List EbType → Term → Type 0
  IsValue bound v = (u : EbType) × G bound v (expression u)

  abbrev pub IsPredicate : List EbType → Term → Type 0
  IsPredicate bound p = G bound p predicate

  pub is_not : (bound : List EbType) (p : Term) → IsPredicate bound p → IsPredicate bound (negation p)
  is_not bound p h = J.prefix bound p prefix.Not (every integer) h

  pub is_equal : (bound : List EbType) (a b : Term) (t : EbType) → G bound a (expression t) → G bound b (expression t) → IsPredicate bound (equal a b)
  is_equal bound a b t h k = J.operator bound a b op.Equal (every t) h k

  pub is_at_most : (bound : List EbType) (a b : Term) → G bound a (expression integer) → G bound b (expression integer) → IsPredicate bound (at_most a b)
  is_at_most bound a b h k = J.operator bound a b op.AtMost (every integer) h k

  pub is_member : (bound : List EbType) (a b : Term) (t : EbType) → G bound a (expression t) → G bound b (expression (power t)) → IsPredicate bound (member a b)
  is_member bound a b t h k = J.operator bound a b op.MemberOf (every t) h k

  pub is_subset : (bound : List EbType) (a b : Term) (t : EbType) → G bound a (expression (power t)) → G bound b (expression (power t)) → IsPredicate bound (subset a b)
  is_subset bound a b t h k = J.operator bound a b op.SubsetOf (every t) h k

  pub is_and : (bound : List EbType) (p q : Term) → IsPredicate bound p → IsPredicate bound q → IsPredicate bound (conjunction p q)
  is_and bound p q h k = J.operator bound p q op.And (every integer) h k

  pub defined_is : (bound : List EbType) (a : Term) → IsValue bound a → IsPredicate bound (is_defined a)
  defined_is bound a h = is_equal bound a a h.0 h.1 h.1

  pub domain_is : (bound : List EbType) (r : Term) (s t : EbType) → G bound r (expression (relation s t)) → G bound (domain r) (expression (power s))
  domain_is bound r s t h = J.call bound r call.Domain (two s t) h

  pub range_is : (bound : List EbType) (r : Term) (s t : EbType) → G bound r (expression (relation s t)) → G bound (range r) (expression (power t))
  range_is bound r s t h = J.call bound r call.Range (two s t) h

  pub inverse_is : (bound : List EbType) (r : Term) (s t : EbType) → G bound r (expression (relation s t)) → G bound (inverse r) (expression (relation t s))
  inverse_is bound r s t h = J.inverse bound r (two s t) h

  pub pair_is : (bound : List EbType) (a b : Term) (s t : EbType) → G bound a (expression s) → G bound b (expression t) → G bound (pair a b) (expression (product s t))
  pair_is bound a b s t h k = J.operator bound a b op.MapsTo (two s t) h k

  pub extension_is : (bound : List EbType) (e : Term) (t : EbType) → G bound e (expression t) → G bound (extension e) (expression (power t))
  extension_is bound e t h = J.extension bound e [] t (h, tt)

  pub no_value_is : (bound : List EbType) (t : EbType) → G bound (no_value (power t)) (expression (power t))
  no_value_is bound t = J.call bound (empty_set (power (power t))) call.GeneralizedIntersection (every t) (J.no_members bound (power t))

  -- the value of the binder that stands innermost, and of the one around it
  pub innermost_is : (bound : List EbType) (t : EbType) → G (bound ++ t ∷ []) (whole (length bound) t) (expression t)
  innermost_is bound t = J.variable (bound ++ t ∷ []) (length bound) [] t t (at_end bound t) refl

  pub outer_is : (bound : List EbType) (t u : EbType) → G ((bound ++ t ∷ []) ++ u ∷ []) (whole (length bound) t) (expression t)
  outer_is bound t u = J.variable ((bound ++ t ∷ []) ++ u ∷ []) (length bound) [] t t (at_middle bound t u) refl

  pub inner_is : (bound : List EbType) (t u : EbType) → G ((bound ++ t ∷ []) ++ u ∷ []) (whole (length bound + 1) u) (expression u)
  inner_is bound t u = subst (λ k. G ((bound ++ t ∷ []) ++ u ∷ []) (whole k u) (expression u)) (length-append bound (t ∷ [])) (innermost_is (bound ++ t ∷ []) u)

  pub infinite_is : (bound : List EbType) (i : Infinite) (e : Term) → G bound e (expression integer) → IsPredicate bound (infinite_has i e)
  infinite_is bound infinite.Integers e h = defined_is bound e (integer, h)
  infinite_is bound infinite.Naturals e h = is_at_most bound (term.integer (pos 0)) e (J.int_literal bound (pos 0) refl) h
  infinite_is bound infinite.PositiveNaturals e h = is_at_most bound (term.integer (pos 1)) e (J.int_literal bound (pos 1) refl) h

  -- ---- what is joined

  pub both_from : (bound : List EbType) (p : Term) (qs : List Term) → IsPredicate bound p → AllByRecursion (IsPredicate bound) qs → IsPredicate bound (both_on p qs)
  both_from bound p [] h k = h
  both_from bound p (q ∷ qs) h k = both_from bound (both p q) qs (J.both bound p q h k.0) k.1

  pub both_are : (bound : List EbType) (ps : List Term) → AllByRecursion (IsPredicate bound) ps → IsPredicate bound (both_of ps)
  both_are bound [] h = J.truth bound true
  both_are bound (p ∷ ps) h = both_from bound p ps h.0 h.1

  pub values_are : (bound more : List EbType) (vs : List Term) → AllByRecursion (IsValue bound) vs
      → AllByRecursion (IsPredicate (bound ++ more)) (map (λ v. is_defined (shift (length bound) (length more) v)) vs)
  values_are bound more [] h = tt
  values_are bound more (v ∷ vs) h =
      (defined_is (bound ++ more) (shift (length bound) (length more) v) (h.0.0, J.shifted bound more v (expression h.0.0) h.0.1), values_are bound more vs h.1)

  -- that values are defined, and one more
  pub given_is : (bound more : List EbType) (vs : List Term) (p : Term) → AllByRecursion (IsValue bound) vs → IsPredicate (bound ++ more) p
      → IsPredicate (bound ++ more) (both_of (map (λ v. is_defined (shift (length bound) (length more) v)) vs ++ p ∷ []))
  given_is bound more vs p h k = both_are (bound ++ more) (map (λ v. is_defined (shift (length bound) (length more) v)) vs ++ p ∷ []) (all_joined (IsPredicate (bound ++ more)) (map (λ v. is_defined (shift (length bound) (length more) v)) vs) (p ∷ []) (values_are bound more vs h) (k, tt))

  -- ---- partitions

  abbrev pub AreSets : List EbType → EbType → List Term → Type 0
  AreSets bound t = AllByRecursion (λ a. G bound a (expression (power t)))

  union_is : (bound : List EbType) (a b : Term) (t : EbType) → G bound a (expression (power t)) → G bound b (expression (power t)) → G bound (operation op.Union a b) (expression (power t))
  union_is bound a b t h k = J.operator bound a b op.Union (every t) h k

  union_from : (bound : List EbType) (t : EbType) (s : Term) (ss : List Term) → G bound s (expression (power t)) → AreSets bound t ss → G bound (union_on s ss) (expression (power t))
  union_from bound t s [] h k = h
  union_from bound t s (x ∷ xs) h k = union_from bound t (operation op.Union s x) xs (union_is bound s x t h k.0) k.1

  union_all : (bound : List EbType) (t : EbType) (ss : List Term) → AreSets bound t ss → G bound (union_of (power t) ss) (expression (power t))
  union_all bound t [] h = J.no_members bound t
  union_all bound t (s ∷ ss) h = union_from bound t s ss h.0 h.1

  apart_are : (bound : List EbType) (t : EbType) (before : Term) (ss : List Term) → G bound before (expression (power t)) → AreSets bound t ss
      → AllByRecursion (IsPredicate bound) (are_apart (power t) before ss)
  apart_are bound t before [] h k = tt
  apart_are bound t before (s ∷ ss) h k = (
    is_equal bound (operation op.Intersection before s) (empty_set (power t)) (power t) (J.operator bound before s op.Intersection (every t) h k.0) (J.no_members bound t),
    apart_are bound t (operation op.Union before s) ss (union_is bound before s t h k.0) k.1,
  )

  disjoint_are : (bound : List EbType) (t : EbType) (ss : List Term) → AreSets bound t ss → AllByRecursion (IsPredicate bound) (disjoint_parts (power t) ss)
  disjoint_are bound t [] h = tt
  disjoint_are bound t (s ∷ ss) h = apart_are bound t s ss h.0 h.1

  pub partition_is : (bound : List EbType) (t : EbType) (s : Term) (ss : List Term) → AreSets bound t (s ∷ ss) → IsPredicate bound (partition (power t) (s ∷ ss))
  partition_is bound t s ss h =
      both_from bound (equal s (union_of (power t) ss)) (disjoint_parts (power t) ss)
      (is_equal bound s (union_of (power t) ss) (power t) h.0 (union_all bound t ss h.1)) (disjoint_are bound t ss h.1)
