-- What is judged of a narrowed term: of it as a term, and of what it says as a set.
use Rattle.std.proofs.Common.{◌≡◌, ◌∙◌, sym, ap, subst, ℕ, ◌+◌, List, [], ◌∷◌, ◌++◌, length, Option, Some, append_assoc, length-append, rules}
use Rattle.std.specs.Prelude.{option_and_then, unwrap_or}
use Rattle.std.specs.List.{AllByRecursion}
use Rattle.eb_value.specs.declared.types.EbType.{EbType}
use Rattle.eb_value.specs.declared.types.EbType as type_module
use Rattle.eb_value.specs.Types.{boolean, power}
use Rattle.type_table.specs.Rows.{Sort, predicate, expression}
use Rattle.eb_term.specs.declared.operators.Binder.TheVariants as binder
use Rattle.eb_term.specs.declared.term.Term.{Term}
use Rattle.eb_term.specs.Terms as term
use Rattle.narrow_terms.specs.Parts.{element_of}
use Rattle.narrow_terms.specs.Shifting.{shift}
use Rattle.narrow_terms.specs.Building.{negation, is_defined, no_value, whole}
use Rattle.term_types.specs.Types.{type_in}
use Rattle.eb_narrow.specs.Narrow as narrow
use Rattle.eb_narrow.specs.Narrow.{Narrowed, element_type, type_or_any, each_member, no_set_is_all}
use Rattle.narrow_typing.proofs.Judging.{Judges, exists}
use Rattle.narrow_typing.proofs.Built.{IsValue, IsPredicate, is_not, is_equal, is_member, is_subset, defined_is, no_value_is, innermost_is, given_is}

pub element-power : (t : EbType) → element_of (power t) ≡ Some t
element-power t = search (rules, type_module.the_lemmas)

-- sets of one type have members of one type
pub same_members : (t u : EbType) → expression (power t) ≡ expression (power u) → t ≡ u
same_members t u e = ap (λ o. unwrap_or o boolean) (sym (element-power t) ∙ (ap (λ s. option_and_then element_of (type_in s)) e ∙ element-power u))

pub element_is : (o : Option EbType) (t : EbType) → o ≡ Some (power t) → element_type o ≡ t
element_is o t e = ap element_type e ∙ ap (λ o. unwrap_or o boolean) (element-power t)

pub type_is : (o : Option EbType) (t : EbType) → o ≡ Some t → type_or_any o ≡ t
type_is o t e = ap type_or_any e

module _ (G : List EbType → Term → Sort → Type 0) (J : Judges G) where
  -- as a set of members of this type
  pub record IsSet (bound : List EbType) (n : Narrowed) (t : EbType) : Type 0 where
    pub values : AllByRecursion (IsValue G J bound) (n.values (length bound))
    pub has : (more : List EbType) (e : Term) → G (bound ++ more) e (expression t) → IsPredicate G J (bound ++ more) (n.has (length bound) (length more) e)
    pub within : (more : List EbType) (e : Term) → G (bound ++ more) e (expression (power t)) → IsPredicate G J (bound ++ more) (n.has_members (length bound) (length more) e)
    pub whole : (more : List EbType) (e : Term) → G (bound ++ more) e (expression (power t)) → IsPredicate G J (bound ++ more) (n.is_all (length bound) (length more) e)

  pub record IsTyped (bound : List EbType) (n : Narrowed) (s : Sort) : Type 0 where
    pub term : G bound (n.term (length bound)) s
    pub ty : n.ty ≡ type_in s
    pub sets : (t : EbType) → s ≡ expression (power t) → IsSet bound n t

  -- ---- an expression, or a predicate

  plain_set : (bound : List EbType) (ty : Option EbType) (f : ℕ → Term) (t : EbType) → G bound (f (length bound)) (expression (power t)) → IsSet bound (narrow.expression ty f) t
  plain_set bound ty f t h =
      let d : ℕ = length bound in record {
        values = ((power t, h), tt);
        has = λ more e k. is_member G J (bound ++ more) e (shift d (length more) (f d)) t k (J.shifted bound more (f d) (expression (power t)) h);
        within = λ more e k. is_subset G J (bound ++ more) e (shift d (length more) (f d)) t k (J.shifted bound more (f d) (expression (power t)) h);
        whole = λ more e k. is_equal G J (bound ++ more) e (shift d (length more) (f d)) (power t) k (J.shifted bound more (f d) (expression (power t)) h);
      }

  pub plain : (bound : List EbType) (ty : Option EbType) (f : ℕ → Term) (s : Sort) → G bound (f (length bound)) s → ty ≡ type_in s → IsTyped bound (narrow.expression ty f) s
  plain bound ty f s h e = record {
    term = h;
    ty = e;
    sets = λ t is. plain_set bound ty f t (subst (λ s. G bound (f (length bound)) s) is h);
  }

  -- what is said of it as a set is known for one type
  pub as_set : (bound : List EbType) (n : Narrowed) (t : EbType) → G bound (n.term (length bound)) (expression (power t)) → n.ty ≡ Some (power t) → IsSet bound n t → IsTyped bound n (expression (power t))
  as_set bound n t h e k = record { term = h; ty = e; sets = λ u is. subst (IsSet bound n) (same_members t u is) k }

  -- ---- a form

  module _ (bound : List EbType) (ty : Option EbType) (vs : ℕ → List Term) (has : ℕ → ℕ → Term → Term) (t : EbType) (e : ty ≡ Some (power t)) (values : AllByRecursion (IsValue G J bound) (vs (length bound)))
      (each : (more : List EbType) (e : Term) → G (bound ++ more) e (expression t) → IsPredicate G J (bound ++ more) (has (length bound) (length more) e)) where
    deeper : (more : List EbType) (a : Term) → IsPredicate G J (bound ++ (more ++ t ∷ [])) a → IsPredicate G J ((bound ++ more) ++ t ∷ []) a
    deeper more a h = subst (λ ts. IsPredicate G J ts a) (sym (append_assoc bound more (t ∷ []))) h

    member_is : (more : List EbType) → G ((bound ++ more) ++ t ∷ []) (whole (length bound + length more) (element_type ty)) (expression t)
    member_is more =
        subst (λ u. G ((bound ++ more) ++ t ∷ []) (whole (length bound + length more) u) (expression t)) (sym (element_is ty t e))
        (subst (λ k. G ((bound ++ more) ++ t ∷ []) (whole k t) (expression t)) (length-append bound more) (innermost_is G J (bound ++ more) t))

    each_is : (more : List EbType) → IsPredicate G J ((bound ++ more) ++ t ∷ []) (has (length bound) (length more + 1) (whole (length bound + length more) (element_type ty)))
    each_is more =
        let x : Term = whole (length bound + length more) (element_type ty) in
        subst (λ k. IsPredicate G J ((bound ++ more) ++ t ∷ []) (has (length bound) k x)) (length-append more (t ∷ []))
        (deeper more (has (length bound) (length (more ++ t ∷ [])) x) (each (more ++ t ∷ []) x (subst (λ ts. G ts x (expression t)) (append_assoc bound more (t ∷ [])) (member_is more))))

    pub within_is : (more : List EbType) (a : Term) → G (bound ++ more) a (expression (power t)) → IsPredicate G J (bound ++ more) (each_member ty vs has (length bound) (length more) a)
    within_is more a h =
        let out : Term = negation (has (length bound) (length more + 1) (whole (length bound + length more) (element_type ty))) in
        given_is G J bound more (vs (length bound)) (negation (term.over binder.Exists a out)) values
        (is_not G J (bound ++ more) (term.over binder.Exists a out) (J.over (bound ++ more) a out binder.Exists predicate t exists h
        (is_not G J ((bound ++ more) ++ t ∷ []) (has (length bound) (length more + 1) (whole (length bound + length more) (element_type ty))) (each_is more))))

    pub whole_is : (more : List EbType) (a : Term) → G (bound ++ more) a (expression (power t)) → IsPredicate G J (bound ++ more) (no_set_is_all vs (length bound) (length more) a)
    whole_is more a h = given_is G J bound more (vs (length bound)) (negation (is_defined a)) values (is_not G J (bound ++ more) (is_defined a) (defined_is G J (bound ++ more) a (power t, h)))

    pub formed : IsTyped bound (narrow.form ty vs has) (expression (power t))
    formed = as_set bound (narrow.form ty vs has) t
        (subst (λ u. G bound (no_value u) (expression (power t))) (sym (type_is ty (power t) e)) (no_value_is G J bound t)) e
        (record { values = values; has = each; within = within_is; whole = whole_is })
