-- Forms, and intervals: what they say as sets.
use Rattle.std.proofs.Common.{◌≡◌, refl, sym, subst, ℕ, Bool, true, false, List, [], ◌∷◌, ◌++◌, length, Option, Some}
use Rattle.std.specs.List.{AllByRecursion}
use Rattle.eb_syntax.specs.declared.ast.Operator.{Operator}
use Rattle.eb_syntax.specs.declared.ast.Operator.TheVariants as op
use Rattle.eb_value.specs.declared.types.EbType.{EbType}
use Rattle.eb_value.specs.Types.{integer, product, power}
use Rattle.type_table.specs.Rows.{Sort, expression, relation}
use Rattle.eb_term.specs.declared.operators.Infinite.{Infinite}
use Rattle.eb_term.specs.declared.operators.Infinite.TheVariants as infinite
use Rattle.eb_term.specs.declared.operators.Side.TheVariants as side
use Rattle.eb_term.specs.declared.term.Term.{Term}
use Rattle.eb_meaning.specs.Meaning.{is_total, is_surjective, is_function, is_injection}
use Rattle.narrow_terms.specs.Shifting.{shift}
use Rattle.narrow_terms.specs.Building as built
use Rattle.narrow_terms.specs.Building.{operation, negation, both, equal, at_most, part, domain, range, inverse, functional, empty_set}
use Rattle.eb_narrow.specs.Narrow as narrow
use Rattle.eb_narrow.specs.Narrow.{Narrowed, type_or_any, covers, if_asked}
use Rattle.narrow_typing.proofs.Judging.{Judges}
use Rattle.narrow_typing.proofs.Built.{IsValue, IsPredicate, every, all_joined, is_not, is_equal, is_at_most, domain_is, range_is, inverse_is, no_value_is, infinite_is, both_are, defined_is}
use Rattle.narrow_typing.proofs.Narrowing.{IsSet, IsTyped, plain, as_set, formed, type_is}

module _ (G : List EbType → Term → Sort → Type 0) (J : Judges G) where
  -- ---- sets of sets

  pub power_typed : (bound : List EbType) (ty : Option EbType) (f : Narrowed) (t : EbType) → ty ≡ Some (power (power t)) → IsTyped G J bound f (expression (power t))
      → IsTyped G J bound (narrow.power_set ty f) (expression (power (power t)))
  power_typed bound ty f t e d = let s = d.sets t refl in formed G J bound ty f.values f.has_members (power t) e s.values s.within

  pub nonempty_typed : (bound : List EbType) (ty : Option EbType) (f : Narrowed) (t : EbType) → ty ≡ Some (power (power t)) → IsTyped G J bound f (expression (power t))
      → IsTyped G J bound (narrow.nonempty_power_set ty f) (expression (power (power t)))
  nonempty_typed bound ty f t e d =
      let s = d.sets t refl in
      formed G J bound ty f.values (λ k x e. both (f.has_members k x e) (negation (equal e (empty_set (type_or_any f.ty))))) (power t) e s.values
      (λ more a h. J.both (bound ++ more) (f.has_members (length bound) (length more) a) (negation (equal a (empty_set (type_or_any f.ty)))) (s.within more a h)
      (is_not G J (bound ++ more) (equal a (empty_set (type_or_any f.ty))) (is_equal G J (bound ++ more) a (empty_set (type_or_any f.ty)) (power t) h
      (subst (λ u. G (bound ++ more) (empty_set u) (expression (power t))) (sym (type_is f.ty (power t) d.ty)) (J.no_members (bound ++ more) t)))))

  -- ---- products and arrows

  pub product_typed : (bound : List EbType) (ty : Option EbType) (f g : Narrowed) (s t : EbType) → ty ≡ Some (relation s t)
      → IsTyped G J bound f (expression (power s)) → IsTyped G J bound g (expression (power t)) → IsTyped G J bound (narrow.product_form ty f g) (expression (relation s t))
  product_typed bound ty f g s t e c d =
      let u = c.sets s refl in
      let v = d.sets t refl in
      formed G J bound ty (λ k. f.values k ++ g.values k) (λ k x e. both (f.has k x (part side.First e)) (g.has k x (part side.Second e))) (product s t) e
      (all_joined (IsValue G J bound) (f.values (length bound)) (g.values (length bound)) u.values v.values)
      (λ more a h. J.both (bound ++ more) (f.has (length bound) (length more) (part side.First a)) (g.has (length bound) (length more) (part side.Second a))
      (u.has more (part side.First a) (J.part (bound ++ more) a side.First s t h)) (v.has more (part side.Second a) (J.part (bound ++ more) a side.Second s t h)))

  covers_is : (bound : List EbType) (b : Bool) (f : Narrowed) (t : EbType) → IsSet G J bound f t → (more : List EbType) (e : Term) → G (bound ++ more) e (expression (power t))
      → IsPredicate G J (bound ++ more) (covers b f (length bound) (length more) e)
  covers_is bound true f t s more e h = s.whole more e h
  covers_is bound false f t s more e h = s.within more e h

  asked_are : (bound : List EbType) (b : Bool) (p : Term) → IsPredicate G J bound p → AllByRecursion (IsPredicate G J bound) (if_asked b p)
  asked_are bound true p h = (h, tt)
  asked_are bound false p h = tt

  pub arrow_typed : (bound : List EbType) (o : Operator) (ty : Option EbType) (f g : Narrowed) (s t : EbType) → ty ≡ Some (power (relation s t))
      → IsTyped G J bound f (expression (power s)) → IsTyped G J bound g (expression (power t)) → IsTyped G J bound (narrow.arrow_form o ty f g) (expression (power (relation s t)))
  arrow_typed bound o ty f g s t e c d =
      let u = c.sets s refl in
      let v = d.sets t refl in
      formed G J bound ty (λ k. f.values k ++ g.values k)
      (λ k x e. built.both_of (covers (is_total o) f k x (domain e) ∷ covers (is_surjective o) g k x (range e) ∷ (if_asked (is_function o) (functional e) ++ if_asked (is_injection o) (functional (inverse e)))))
      (relation s t) e
      (all_joined (IsValue G J bound) (f.values (length bound)) (g.values (length bound)) u.values v.values)
      (λ more a h. both_are G J (bound ++ more)
      (covers (is_total o) f (length bound) (length more) (domain a) ∷ covers (is_surjective o) g (length bound) (length more) (range a) ∷ (if_asked (is_function o) (functional a) ++ if_asked (is_injection o) (functional (inverse a)))) (
        covers_is bound (is_total o) f s u more (domain a) (domain_is G J (bound ++ more) a s t h),
        (
          covers_is bound (is_surjective o) g t v more (range a) (range_is G J (bound ++ more) a s t h),
          all_joined (IsPredicate G J (bound ++ more)) (if_asked (is_function o) (functional a)) (if_asked (is_injection o) (functional (inverse a)))
              (asked_are (bound ++ more) (is_function o) (functional a) (J.functional (bound ++ more) a s t h))
              (asked_are (bound ++ more) (is_injection o) (functional (inverse a)) (J.functional (bound ++ more) (inverse a) t s (inverse_is G J (bound ++ more) a s t h))),
        ),
      ))

  -- ---- integers

  infinite_form : (bound : List EbType) (i : Infinite) → IsTyped G J bound (narrow.form (Some (power integer)) (λ d. []) (λ d x e. built.infinite_has i e)) (expression (power integer))
  infinite_form bound i = formed G J bound (Some (power integer)) (λ d. []) (λ d x e. built.infinite_has i e) integer refl tt (λ more e h. infinite_is G J (bound ++ more) i e h)

  integers_set : (bound : List EbType) → IsSet G J bound (narrow.infinite_set infinite.Integers) integer
  integers_set bound = let s = (infinite_form bound infinite.Integers).sets integer refl in
      record { values = tt; has = s.has; within = λ more e h. defined_is G J (bound ++ more) e (power integer, h); whole = s.whole }

  pub infinite_typed : (bound : List EbType) (i : Infinite) → IsTyped G J bound (narrow.infinite_set i) (expression (power integer))
  infinite_typed bound infinite.Integers = as_set G J bound (narrow.infinite_set infinite.Integers) integer (no_value_is G J bound integer) refl (integers_set bound)
  infinite_typed bound infinite.Naturals = infinite_form bound infinite.Naturals
  infinite_typed bound infinite.PositiveNaturals = infinite_form bound infinite.PositiveNaturals

  module _ (bound : List EbType) (ty : Option EbType) (a b : Narrowed) (e : ty ≡ Some (power integer)) (c : IsTyped G J bound a (expression integer)) (d : IsTyped G J bound b (expression integer)) where
    ends : G bound (operation op.UpTo (a.term (length bound)) (b.term (length bound))) (expression (power integer))
    ends = J.operator bound (a.term (length bound)) (b.term (length bound)) op.UpTo (every integer) c.term d.term

    interval_set : IsSet G J bound (narrow.interval ty a b) integer
    interval_set =
        let s = (plain G J bound ty (λ k. operation op.UpTo (a.term k) (b.term k)) (expression (power integer)) ends e).sets integer refl in
        let k : ℕ = length bound in record {
          values = s.values;
          has = λ more x h. J.both (bound ++ more) (at_most (shift k (length more) (a.term k)) x) (at_most x (shift k (length more) (b.term k)))
              (is_at_most G J (bound ++ more) (shift k (length more) (a.term k)) x (J.shifted bound more (a.term k) (expression integer) c.term) h)
              (is_at_most G J (bound ++ more) x (shift k (length more) (b.term k)) h (J.shifted bound more (b.term k) (expression integer) d.term));
          within = s.within;
          whole = s.whole;
        }

    pub interval_typed : IsTyped G J bound (narrow.interval ty a b) (expression (power integer))
    interval_typed = as_set G J bound (narrow.interval ty a b) integer ends e interval_set
