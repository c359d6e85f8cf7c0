-- Many parts, and binders, in narrow form.
use Rattle.std.proofs.Common.{◌≡◌, refl, sym, subst, ℕ, ◌+◌, List, [], ◌∷◌, ◌++◌, length, map, Option, Some, length-append}
use Rattle.std.specs.List.{AllByRecursion}
use Rattle.eb_value.specs.declared.types.EbType.{EbType}
use Rattle.eb_value.specs.Types.{product, power}
use Rattle.type_table.specs.Rows.{Sort, predicate, expression, relation}
use Rattle.eb_term.specs.declared.operators.Many.TheVariants as many
use Rattle.eb_term.specs.declared.operators.Binder.{Binder}
use Rattle.eb_term.specs.declared.operators.Binder.TheVariants as binder
use Rattle.eb_term.specs.declared.operators.Side.{Side}
use Rattle.eb_term.specs.declared.operators.Side.TheVariants as side
use Rattle.eb_term.specs.declared.term.Term.{Term}
use Rattle.eb_term.specs.Terms as term
use Rattle.eb_term.specs.Typed.{IsQuantifier, of_two}
use Rattle.eb_term.specs.Typed as typing
use Rattle.narrow_terms.specs.Building.{negation, extension, pair, whole, partition}
use Rattle.eb_narrow.specs.Narrow as narrow
use Rattle.eb_narrow.specs.Narrow.{Narrowed}
use Rattle.narrow_typing.proofs.Judging.{Judges, BindsAt, exists, collects}
use Rattle.narrow_typing.proofs.Built.{is_not, innermost_is, outer_is, inner_is, pair_is, extension_is, partition_is}
use Rattle.narrow_typing.proofs.Narrowing.{IsTyped, plain, type_is}

module _ (G : List EbType → Term → Sort → Type 0) (J : Judges G) (bound : List EbType) where
  -- ---- many parts

  abbrev pub AreTyped : Sort → List Narrowed → Type 0
  AreTyped s = AllByRecursion (λ n. IsTyped G J bound n s)

  terms_are : (s : Sort) (ns : List Narrowed) → AreTyped s ns → AllByRecursion (λ a. G bound a s) (map (λ n. n.term (length bound)) ns)
  terms_are s [] h = tt
  terms_are s (n ∷ ns) h = (h.0.term, terms_are s ns h.1)

  pub extension_typed : (ty : Option EbType) (n : Narrowed) (ns : List Narrowed) (t : EbType) → AreTyped (expression t) (n ∷ ns) → ty ≡ Some (power t)
      → IsTyped G J bound (narrow.by_many many.Extension ty (n ∷ ns)) (expression (power t))
  extension_typed ty n ns t h e = plain G J bound ty (λ k. term.many many.Extension (map (λ e. e.term k) (n ∷ ns))) (expression (power t))
      (J.extension bound (n.term (length bound)) (map (λ e. e.term (length bound)) ns) t (terms_are (expression t) (n ∷ ns) h)) e

  pub partition_typed : (ty : Option EbType) (n : Narrowed) (ns : List Narrowed) (t : EbType) → AreTyped (expression (power t)) (n ∷ ns)
      → IsTyped G J bound (narrow.by_many many.Partition ty (n ∷ ns)) predicate
  partition_typed ty n ns t h = plain G J bound _ (λ k. partition (narrow.set_type (n ∷ ns)) (map (λ e. e.term k) (n ∷ ns))) predicate
      (subst (λ u. G bound (partition u (map (λ e. e.term (length bound)) (n ∷ ns))) predicate) (sym (type_is n.ty (power t) h.0.ty))
      (partition_is G J bound t (n.term (length bound)) (map (λ e. e.term (length bound)) ns) (terms_are (expression (power t)) (n ∷ ns) h))) refl

  -- ---- binders

  module _ (t : EbType) (bind : Binder → ℕ → Term → Term) (binds : (o : Binder) (r : Sort) (b : Term) → BindsAt o r → G (bound ++ t ∷ []) b r → G bound (bind o (length bound) b) r)
      (p : Narrowed) where
    body_is : (r : Sort) → IsTyped G J (bound ++ t ∷ []) p r → G (bound ++ t ∷ []) (p.term (length bound + 1)) r
    body_is r d = subst (λ k. G (bound ++ t ∷ []) (p.term k) r) (length-append bound (t ∷ [])) d.term

    pub quantified_typed : (o : Binder) (ty : Option EbType) → IsQuantifier o → IsTyped G J (bound ++ t ∷ []) p predicate → IsTyped G J bound (narrow.by_range o ty bind p) predicate
    quantified_typed _ ty typing.for_all d = plain G J bound _ (λ k. negation (bind binder.Exists k (negation (p.term (k + 1))))) predicate
        (is_not G J bound (bind binder.Exists (length bound) (negation (p.term (length bound + 1)))) (binds binder.Exists predicate (negation (p.term (length bound + 1))) exists
        (is_not G J (bound ++ t ∷ []) (p.term (length bound + 1)) (body_is predicate d)))) refl
    quantified_typed _ ty typing.exists d = plain G J bound _ (λ k. bind binder.Exists k (p.term (k + 1))) predicate
        (binds binder.Exists predicate (p.term (length bound + 1)) exists (body_is predicate d)) refl

    pub collected_typed : (ty : Option EbType) (u : EbType) → IsTyped G J (bound ++ t ∷ []) p (expression (power u)) → ty ≡ Some (power u)
        → IsTyped G J bound (narrow.by_range binder.Collect ty bind p) (expression (power u))
    collected_typed ty u d e = plain G J bound ty (λ k. bind binder.Collect k (p.term (k + 1))) (expression (power u))
        (binds binder.Collect (expression (power u)) (p.term (length bound + 1)) (collects u) (body_is (expression (power u)) d)) e

  -- ---- id, prj1 and prj2

  pub identity_is : (t : EbType) → G bound (narrow.identity t (length bound)) (expression (relation t t))
  identity_is t =
      let x : Term = whole (length bound) t in
      J.all bound (extension (pair x x)) binder.Collect (expression (relation t t)) t (collects (product t t))
      (extension_is G J (bound ++ t ∷ []) (pair x x) (product t t) (pair_is G J (bound ++ t ∷ []) x x t t (innermost_is G J bound t) (innermost_is G J bound t)))

  chosen_is : (s : Side) (a b : EbType) → G ((bound ++ a ∷ []) ++ b ∷ []) (narrow.chosen s (whole (length bound) a) (whole (length bound + 1) b)) (expression (of_two s a b))
  chosen_is side.First a b = outer_is G J bound a b
  chosen_is side.Second a b = inner_is G J bound a b

  pub projection_is : (s : Side) (a b : EbType) → G bound (narrow.projection s a b (length bound)) (expression (relation (product a b) (of_two s a b)))
  projection_is s a b =
      let x : Term = whole (length bound) a in
      let y : Term = whole (length bound + 1) b in
      let inner : List EbType = (bound ++ a ∷ []) ++ b ∷ [] in
      let row : EbType = product (product a b) (of_two s a b) in
      let e : Term = extension (pair (pair x y) (narrow.chosen s x y)) in
      J.all bound (term.all binder.Collect b e) binder.Collect (expression (power row)) a (collects row)
      (J.all (bound ++ a ∷ []) e binder.Collect (expression (power row)) b (collects row)
      (extension_is G J inner (pair (pair x y) (narrow.chosen s x y)) row (pair_is G J inner (pair x y) (narrow.chosen s x y) (product a b) (of_two s a b)
      (pair_is G J inner x y a b (outer_is G J bound a b) (inner_is G J bound a b)) (chosen_is s a b))))
