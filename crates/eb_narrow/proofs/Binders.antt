-- Binders in narrow form, and what narrow form writes by binders.
use Rattle.std.proofs.Common.{◌≡◌, ◌∙◌, ℕ, ◌+◌, true, ◌||◌, List, [], ◌∷◌, ◌++◌, length, map, Option, Some, None, option_map, option_and_then, refl, sym, ap, ap₂, subst, length-append}
use Rattle.std.proofs.Math.Path.{fun_ext}
use Rattle.std.specs.List.{flat_map, slice_get}
use Rattle.eb_syntax.specs.declared.ast.Call.TheVariants as call
use Rattle.eb_syntax.specs.declared.ast.Operator.TheVariants as op
use Rattle.type_table.specs.Rows.{predicate, expression, relation}
use Rattle.eb_value.specs.declared.scope.Scope.{Scope}
use Rattle.eb_value.specs.declared.types.EbType.{EbType}
use Rattle.eb_value.specs.declared.value.Value.{Value}
use Rattle.eb_value.specs.Canonical.{IsCanonical, AreCanonical}
use Rattle.eb_value.specs.Canonical as canonical
use Rattle.eb_value.specs.Types.{power}
use Rattle.eb_value.specs.Values.{pair, set}
use Rattle.eb_value.specs.Scopes.{vals}
use Rattle.eb_value.specs.Typing.{has_type, have_type}
use Rattle.eb_value.specs.Comprehensions as sets
use Rattle.eb_value.specs.Comprehensions.{members}
use Rattle.eb_term.specs.declared.operators.Many.TheVariants as many
use Rattle.eb_term.specs.declared.operators.Binder.{Binder}
use Rattle.eb_term.specs.declared.operators.Binder.TheVariants as binder
use Rattle.eb_term.specs.declared.operators.Side.{Side}
use Rattle.eb_term.specs.declared.operators.Side.TheVariants as side
use Rattle.eb_term.specs.declared.term.Term.{Term}
use Rattle.eb_term.specs.Terms as term
use Rattle.eb_operations.specs.declared.truth3.Truth3.TheVariants.{Undefined}
use Rattle.eb_meaning.specs.Truths as truths
use Rattle.eb_meaning.specs.Truths.{for_all, exists}
use Rattle.eb_meaning.specs.Meaning.{Slot, Env, Meaning, meaning, value_of, truth_in, inside, with_set, call_by, over_range, collected, all_values, maplet_of_projection, by_binder}
use Rattle.eb_meaning.specs.Meaning as means
use Rattle.narrow_terms.specs.Building as built
use Rattle.narrow_terms.specs.Building.{whole, extension}
use Rattle.eb_narrow.specs.Narrow as narrow
use Rattle.eb_narrow.specs.Narrow.{Narrowed}
use Rattle.eb_narrow.proofs.Hypotheses.{Laws}
use Rattle.eb_narrow.proofs.Sights.{seen, of_value}
use Rattle.eb_narrow.proofs.Shifts.{env_of, variable_is, many_is, over_is, all_is}
use Rattle.eb_narrow.proofs.Truths.{none_fails}
use Rattle.eb_narrow.proofs.Views.{set_view, members-set, layer-set}
use Rattle.eb_narrow.proofs.Members.{has_contains, contains_has}
use Rattle.eb_narrow.proofs.Products.{has_set_of, has_joined}
use Rattle.eb_narrow.proofs.Pieces.{truth_not, value_whole, value_operation}
use Rattle.eb_narrow.proofs.Represents.{Fits, Represents, map_where, members_typed, plain_represents}
use Rattle.eb_narrow.proofs.Operators.{KeepsAs}

-- ---- instances

pub members_of_range : Laws → (scope : Scope) (t : EbType) (a : Slot) → Fits scope (power t) a → (vs : List Value) → option_map members a ≡ Some vs → have_type scope vs t ≡ true
members_of_range laws scope t None f vs e = absurd (cc (e))
members_of_range laws scope t (Some v) f vs e = let h : members v ≡ vs = cc (e) in subst (λ xs. have_type scope xs t ≡ true) h (members_typed laws scope t v f)

module _ (laws : Laws) (scope : Scope) (refs : List Slot) (bound : List Value) (t : EbType) (bind : Binder → ℕ → Term → Term) (ranges range : Env → Option (List Value))
    (is : (k : Binder) (q : Term) → meaning scope (bind k (length bound) q) ≡ by_binder k ranges (meaning scope q))
    (alike : ranges (env_of refs bound) ≡ range (env_of refs bound))
    (typed : (vs : List Value) → range (env_of refs bound) ≡ Some vs → have_type scope vs t ≡ true)
    (p : Narrowed) (P : Meaning) where
  one_deeper : (v : Value) → length bound + 1 ≡ length (bound ++ v ∷ [])
  one_deeper v = sym (length-append bound (v ∷ []))

  module _ (each : (v : Value) → has_type scope v t ≡ true → KeepsAs scope refs (bound ++ v ∷ []) predicate p P) where
    body_truth : (v : Value) → has_type scope v t ≡ true → truth_in scope (inside (env_of refs bound) v) (p.term (length bound + 1)) ≡ P.truth (inside (env_of refs bound) v)
    body_truth v h = ap (λ k. truth_in scope (env_of refs (bound ++ v ∷ [])) (p.term k)) (one_deeper v) ∙ each v h

    exists_at : (o : Option (List Value)) → ((vs : List Value) → o ≡ Some vs → have_type scope vs t ≡ true)
        → over_range Undefined (λ vs. exists (map (λ v. truth_in scope (inside (env_of refs bound) v) (p.term (length bound + 1))) vs)) o ≡ over_range Undefined (λ vs. exists (map (λ v. P.truth (inside (env_of refs bound) v)) vs)) o
    exists_at None h = refl
    exists_at (Some vs) h = ap exists (map_where (λ v. has_type scope v t) (λ v. truth_in scope (inside (env_of refs bound) v) (p.term (length bound + 1))) (λ v. P.truth (inside (env_of refs bound) v)) vs (h vs refl) body_truth)

    for_all_at : (o : Option (List Value)) → ((vs : List Value) → o ≡ Some vs → have_type scope vs t ≡ true)
        → truths.negation (over_range Undefined (λ vs. exists (map (λ v. truth_in scope (inside (env_of refs bound) v) (built.negation (p.term (length bound + 1)))) vs)) o) ≡ over_range Undefined (λ vs. for_all (map (λ v. P.truth (inside (env_of refs bound) v)) vs)) o
    for_all_at None h = refl
    for_all_at (Some vs) h =
        ap (λ ps. truths.negation (exists ps)) (map_where (λ v. has_type scope v t) (λ v. truth_in scope (inside (env_of refs bound) v) (built.negation (p.term (length bound + 1)))) (λ v. truths.negation (P.truth (inside (env_of refs bound) v))) vs (h vs refl)
        (λ v k. truth_not scope (inside (env_of refs bound) v) (p.term (length bound + 1)) ∙ ap truths.negation (body_truth v k)))
        ∙ none_fails (λ v. P.truth (inside (env_of refs bound) v)) vs

    pub exists_keeps : (ty : Option EbType) → KeepsAs scope refs bound predicate (narrow.by_range binder.Exists ty bind p) (by_binder binder.Exists range P)
    exists_keeps ty =
        ap (λ m. m.truth (env_of refs bound)) (is binder.Exists (p.term (length bound + 1)))
        ∙ (ap (over_range Undefined (λ vs. exists (map (λ v. truth_in scope (inside (env_of refs bound) v) (p.term (length bound + 1))) vs))) alike ∙ exists_at (range (env_of refs bound)) typed)

    pub for_all_keeps : (ty : Option EbType) → KeepsAs scope refs bound predicate (narrow.by_range binder.ForAll ty bind p) (by_binder binder.ForAll range P)
    for_all_keeps ty =
        truth_not scope (env_of refs bound) (bind binder.Exists (length bound) (built.negation (p.term (length bound + 1))))
        ∙ (ap truths.negation (ap (λ m. m.truth (env_of refs bound)) (is binder.Exists (built.negation (p.term (length bound + 1))))
        ∙ ap (over_range Undefined (λ vs. exists (map (λ v. truth_in scope (inside (env_of refs bound) v) (built.negation (p.term (length bound + 1)))) vs))) alike)
        ∙ for_all_at (range (env_of refs bound)) typed)

  module _ (u : EbType) (each : (v : Value) → has_type scope v t ≡ true → KeepsAs scope refs (bound ++ v ∷ []) (expression (power u)) p P) where
    body_value : (v : Value) → has_type scope v t ≡ true → value_of scope (inside (env_of refs bound) v) (p.term (length bound + 1)) ≡ P.value (inside (env_of refs bound) v)
    body_value v h = ap (λ k. value_of scope (env_of refs (bound ++ v ∷ [])) (p.term k)) (one_deeper v) ∙ (each v h).value

    collected_at : (o : Option (List Value)) → ((vs : List Value) → o ≡ Some vs → have_type scope vs t ≡ true)
        → over_range None (λ vs. collected (map (λ v. value_of scope (inside (env_of refs bound) v) (p.term (length bound + 1))) vs)) o ≡ over_range None (λ vs. collected (map (λ v. P.value (inside (env_of refs bound) v)) vs)) o
    collected_at None h = refl
    collected_at (Some vs) h = ap collected (map_where (λ v. has_type scope v t) (λ v. value_of scope (inside (env_of refs bound) v) (p.term (length bound + 1))) (λ v. P.value (inside (env_of refs bound) v)) vs (h vs refl) body_value)

    pub collected_keeps : (ty : Option EbType) → Fits scope (power u) ((by_binder binder.Collect range P).value (env_of refs bound)) → KeepsAs scope refs bound (expression (power u)) (narrow.by_range binder.Collect ty bind p) (by_binder binder.Collect range P)
    collected_keeps ty f =
        plain_represents scope refs bound ty (λ d. bind binder.Collect d (p.term (d + 1))) (over_range None (λ vs. collected (map (λ v. P.value (inside (env_of refs bound) v)) vs)) (range (env_of refs bound))) (power u) f
        (ap (seen (env_of refs bound)) (is binder.Collect (p.term (length bound + 1)))
        ∙ ap of_value (ap (over_range None (λ vs. collected (map (λ v. value_of scope (inside (env_of refs bound) v) (p.term (length bound + 1))) vs))) alike ∙ collected_at (range (env_of refs bound)) typed))

-- ---- values of all instances

all_values_some : (vs : List Value) → all_values (map (λ v. Some v) vs) ≡ Some vs
all_values_some [] = refl
all_values_some (v ∷ vs) = ap (option_map (λ ws. v ∷ ws)) (all_values_some vs)

map_map : {A B C : Type 0} (f : B → C) (g : A → B) (xs : List A) → map f (map g xs) ≡ map (λ x. f (g x)) xs
map_map f g [] = refl
map_map f g (x ∷ xs) = ap (λ ys. f (g x) ∷ ys) (map_map f g xs)

collected_all : (vs : List Value) → collected (map (λ v. Some v) vs) ≡ Some (set (sets.union_of (map members vs)))
collected_all vs = ap (option_map (λ ws. set (sets.union_of (map members ws)))) (all_values_some vs)

-- each instance is the set of a list
collected_sets : (f : Value → List Value) (vs : List Value) → collected (map (λ v. Some (set (f v))) vs) ≡ Some (set (sets.set_of (flat_map f vs)))
collected_sets f vs =
    ap collected (sym (map_map (λ v. Some v) (λ v. set (f v)) vs)) ∙ (collected_all (map (λ v. set (f v)) vs) ∙ ap (λ xs. Some (set (sets.set_of xs))) (joined vs))
  where
    joined : (vs : List Value) → flat_map (λ s. s) (map members (map (λ v. set (f v)) vs)) ≡ flat_map f vs
    joined [] = refl
    joined (v ∷ vs) = ap₂ (λ xs ys. xs ++ ys) (members-set (f v)) (joined vs)

flat_map_one : (f : Value → Value) (vs : List Value) → flat_map (λ v. f v ∷ []) vs ≡ map f vs
flat_map_one f [] = refl
flat_map_one f (v ∷ vs) = ap (λ xs. f v ∷ xs) (flat_map_one f vs)

-- lists with the same values have the same set
pub same_sets : Laws → (xs ys : List Value) → AreCanonical xs → AreCanonical ys → ((v : Value) → sets.has xs v ≡ sets.has ys v) → sets.set_of xs ≡ sets.set_of ys
same_sets laws xs ys c d h =
    laws.determine (sets.set_of xs) (sets.set_of ys) (laws.sets (sets.set_of xs) (laws.set_of xs c)).0 (laws.sets (sets.set_of ys) (laws.set_of ys d)).0
    (λ v. let e : sets.has (sets.set_of xs) v ≡ sets.has (sets.set_of ys) v = has_set_of laws xs v ∙ (h v ∙ sym (has_set_of laws ys v)) in (
      λ m. has_contains laws (sets.set_of ys) v (sym e ∙ contains_has laws (sets.set_of xs) v m),
      λ m. has_contains laws (sets.set_of xs) v (e ∙ contains_has laws (sets.set_of ys) v m),
    ))

module _ (laws : Laws) (scope : Scope) (refs : List Slot) (bound : List Value) where
  variable_here : (ty : EbType) (v : Value) → value_of scope (inside (env_of refs bound) v) (whole (length bound) ty) ≡ Some v
  variable_here ty v = value_whole scope refs bound v ty

  -- ---- union(s)

  union_at : (ty u : EbType) (o : Slot) → Fits scope (power (power u)) o
      → over_range None (λ vs. collected (map (λ v. value_of scope (inside (env_of refs bound) v) (whole (length bound) ty)) vs)) (option_map members o) ≡ option_and_then (with_set (call_by call.GeneralizedUnion)) o
  union_at ty u None f = refl
  union_at ty u (Some v) f =
      let z = set_view laws scope (power u) v f in
      ap (λ g. collected (map g (members v))) (fun_ext (variable_here ty))
      ∙ (collected_all (members v)
      ∙ subst (λ w. Some (set (sets.union_of (map members (members w)))) ≡ with_set (call_by call.GeneralizedUnion) w) (sym z.is) (rw (members-set z.inner, layer-set z.inner) refl))

  pub generalized_union_keeps : (u : EbType) (ty : Option EbType) (a : Narrowed) (A : Meaning) → Represents scope refs bound (power (power u)) a (seen (env_of refs bound) A)
      → Fits scope (power u) (option_and_then (with_set (call_by call.GeneralizedUnion)) (A.value (env_of refs bound)))
      → Represents scope refs bound (power u) (narrow.expression ty (narrow.union_of_members a)) (of_value (option_and_then (with_set (call_by call.GeneralizedUnion)) (A.value (env_of refs bound))))
  generalized_union_keeps u ty a A l f =
      let variable : Term = whole (length bound) (narrow.element_type a.ty) in
      plain_represents scope refs bound ty (narrow.union_of_members a) (option_and_then (with_set (call_by call.GeneralizedUnion)) (A.value (env_of refs bound))) (power u) f
      (ap (seen (env_of refs bound)) (over_is scope binder.Collect (a.term (length bound)) variable)
      ∙ ap of_value (ap (λ o. over_range None (λ vs. collected (map (λ v. value_of scope (inside (env_of refs bound) v) variable) vs)) (option_map members o)) l.value
      ∙ union_at (narrow.element_type a.ty) u (A.value (env_of refs bound)) l.fits))

-- ---- id

value_extension : (scope : Scope) (env : Env) (e : Term) (v : Value) → value_of scope env e ≡ Some v → value_of scope env (extension e) ≡ Some (set (v ∷ []))
value_extension scope env e v h = ap (λ m. m.value env) (many_is scope many.Extension (e ∷ [])) ∙ ap (λ o. option_map (λ vs. set (sets.set_of vs)) (all_values (o ∷ []))) h

value_pair : (scope : Scope) (env : Env) (a b : Term) (v w : Value) → value_of scope env a ≡ Some v → value_of scope env b ≡ Some w → value_of scope env (built.pair a b) ≡ Some (pair v w)
value_pair scope env a b v w p q = value_operation scope env op.MapsTo a b ∙ ap₂ (λ x y. means.with_two (means.value_by op.MapsTo) x y) p q

module _ (laws : Laws) (scope : Scope) (refs : List Slot) (bound : List Value) where
  identity_seen : (t : EbType) → seen (env_of refs bound) (meaning scope (narrow.identity t (length bound))) ≡ of_value (Some (set (sets.set_of (map (λ x. pair x x) (vals scope t)))))
  identity_seen t =
      let variable : Term = whole (length bound) t in
      ap (seen (env_of refs bound)) (all_is scope binder.Collect t (extension (built.pair variable variable)))
      ∙ ap of_value (ap (λ g. collected (map g (vals scope t))) (fun_ext (λ v. value_extension scope (inside (env_of refs bound) v) (built.pair variable variable) (pair v v)
      (value_pair scope (inside (env_of refs bound) v) variable variable v v (value_whole scope refs bound v t) (value_whole scope refs bound v t))))
      ∙ (collected_sets (λ v. pair v v ∷ []) (vals scope t) ∙ ap (λ xs. Some (set (sets.set_of xs))) (flat_map_one (λ v. pair v v) (vals scope t))))

  pub identity_keeps : (t : EbType) (ty : Option EbType) → Fits scope (relation t t) (Some (set (sets.set_of (map (λ x. pair x x) (vals scope t)))))
      → Represents scope refs bound (relation t t) (narrow.expression ty (narrow.identity t)) (of_value (Some (set (sets.set_of (map (λ x. pair x x) (vals scope t))))))
  identity_keeps t ty f = plain_represents scope refs bound ty (narrow.identity t) (Some (set (sets.set_of (map (λ x. pair x x) (vals scope t))))) (relation t t) f (identity_seen t)

-- ---- prj1 and prj2

chosen_value : (scope : Scope) (env : Env) (s : Side) (x y : Term) (v w : Value) → value_of scope env x ≡ Some v → value_of scope env y ≡ Some w
    → value_of scope env (built.pair (built.pair x y) (narrow.chosen s x y)) ≡ Some (maplet_of_projection s v w)
chosen_value scope env side.First x y v w p q = value_pair scope env (built.pair x y) x (pair v w) v (value_pair scope env x y v w p q) p
chosen_value scope env side.Second x y v w p q = value_pair scope env (built.pair x y) y (pair v w) w (value_pair scope env x y v w p q) q

at_middle : (vs : List Value) (v w : Value) → slice_get ((vs ++ v ∷ []) ++ w ∷ []) (length vs) ≡ Some v
at_middle [] v w = refl
at_middle (x ∷ vs) v w = at_middle vs v w

value_outer : (scope : Scope) (refs : List Slot) (vs : List Value) (v w : Value) (t : EbType) → value_of scope (env_of refs ((vs ++ v ∷ []) ++ w ∷ [])) (whole (length vs) t) ≡ Some v
value_outer scope refs vs v w t =
    ap (λ m. m.value (env_of refs ((vs ++ v ∷ []) ++ w ∷ []))) (variable_is scope (length vs) [] t) ∙ last (slice_get ((vs ++ v ∷ []) ++ w ∷ []) (length vs)) (at_middle vs v w)
  where
    last : (o : Slot) → o ≡ Some v → option_and_then (λ w. Some w) o ≡ Some v
    last o e = rw e refl

-- the set of lists' sets, of values in order
has_of_sets : Laws → (f : Value → List Value) (vs : List Value) (v : Value) → sets.has (flat_map (λ x. sets.set_of (f x)) vs) v ≡ sets.has (flat_map f vs) v
has_of_sets laws f [] v = refl
has_of_sets laws f (x ∷ xs) v =
    has_joined (sets.set_of (f x)) (flat_map (λ x. sets.set_of (f x)) xs) v
    ∙ (ap₂ (λ a b. a || b) (has_set_of laws (f x) v) (has_of_sets laws f xs v) ∙ sym (has_joined (f x) (flat_map f xs) v))

pub canonical_joined : (xs ys : List Value) → AreCanonical xs → AreCanonical ys → AreCanonical (xs ++ ys)
canonical_joined _ ys canonical.none d = d
canonical_joined _ ys (canonical.more {vs = vs} c cs) d = canonical.more c (canonical_joined vs ys cs d)

canonical_flat : (f : Value → List Value) (vs : List Value) → AreCanonical vs → ((v : Value) → IsCanonical v → AreCanonical (f v)) → AreCanonical (flat_map f vs)
canonical_flat f _ canonical.none k = canonical.none
canonical_flat f _ (canonical.more {v = v} {vs = vs} c cs) k = canonical_joined (f v) (flat_map f vs) (k v c) (canonical_flat f vs cs k)

canonical_map : (f : Value → Value) (vs : List Value) → AreCanonical vs → ((v : Value) → IsCanonical v → IsCanonical (f v)) → AreCanonical (map f vs)
canonical_map f _ canonical.none k = canonical.none
canonical_map f _ (canonical.more {v = v} {vs = vs} c cs) k = canonical.more (k v c) (canonical_map f vs cs k)

maplet_canonical : (s : Side) (v w : Value) → IsCanonical v → IsCanonical w → IsCanonical (maplet_of_projection s v w)
maplet_canonical side.First v w c d = canonical.pair (canonical.pair c d) c
maplet_canonical side.Second v w c d = canonical.pair (canonical.pair c d) d

module _ (laws : Laws) (scope : Scope) (refs : List Slot) (bound : List Value) (s : Side) (a b : EbType) where
  abbrev firsts : Term
  firsts = whole (length bound) a

  abbrev seconds : Term
  seconds = whole (length bound + 1) b

  abbrev both_parts : Term
  both_parts = extension (built.pair (built.pair firsts seconds) (narrow.chosen s firsts seconds))

  abbrev rows : Value → List Value
  rows v = map (maplet_of_projection s v) (vals scope b)

  second_value : (v w : Value) → value_of scope (env_of refs ((bound ++ v ∷ []) ++ w ∷ [])) seconds ≡ Some w
  second_value v w = ap (λ k. value_of scope (env_of refs ((bound ++ v ∷ []) ++ w ∷ [])) (whole k b)) (sym (length-append bound (v ∷ []))) ∙ value_whole scope refs (bound ++ v ∷ []) w b

  row : (v : Value) → value_of scope (inside (env_of refs bound) v) (term.all binder.Collect b both_parts) ≡ Some (set (sets.set_of (rows v)))
  row v =
      ap (λ m. m.value (inside (env_of refs bound) v)) (all_is scope binder.Collect b both_parts)
      ∙ (ap (λ g. collected (map g (vals scope b))) (fun_ext (λ w. value_extension scope (env_of refs ((bound ++ v ∷ []) ++ w ∷ [])) (built.pair (built.pair firsts seconds) (narrow.chosen s firsts seconds)) (maplet_of_projection s v w)
      (chosen_value scope (env_of refs ((bound ++ v ∷ []) ++ w ∷ [])) s firsts seconds v w (value_outer scope refs bound v w a) (second_value v w))))
      ∙ (collected_sets (λ w. maplet_of_projection s v w ∷ []) (vals scope b) ∙ ap (λ xs. Some (set (sets.set_of xs))) (flat_map_one (maplet_of_projection s v) (vals scope b))))

  rows_canonical : (v : Value) → IsCanonical v → AreCanonical (rows v)
  rows_canonical v c = canonical_map (maplet_of_projection s v) (vals scope b) (laws.listed scope b) (λ w d. maplet_canonical s v w c d)

  table : sets.set_of (flat_map (λ v. sets.set_of (rows v)) (vals scope a)) ≡ sets.set_of (flat_map rows (vals scope a))
  table = same_sets laws (flat_map (λ v. sets.set_of (rows v)) (vals scope a)) (flat_map rows (vals scope a))
      (canonical_flat (λ v. sets.set_of (rows v)) (vals scope a) (laws.listed scope a) (λ v c. (laws.sets (sets.set_of (rows v)) (laws.set_of (rows v) (rows_canonical v c))).1))
      (canonical_flat rows (vals scope a) (laws.listed scope a) rows_canonical)
      (has_of_sets laws rows (vals scope a))

  projection_seen : seen (env_of refs bound) (meaning scope (narrow.projection s a b (length bound))) ≡ of_value (Some (set (sets.set_of (flat_map rows (vals scope a)))))
  projection_seen =
      ap (seen (env_of refs bound)) (all_is scope binder.Collect a (term.all binder.Collect b both_parts))
      ∙ ap of_value (ap (λ g. collected (map g (vals scope a))) (fun_ext row)
      ∙ (collected_sets (λ v. sets.set_of (rows v)) (vals scope a) ∙ ap (λ xs. Some (set xs)) table))

  pub projection_keeps : (u : EbType) (ty : Option EbType) → Fits scope u (Some (set (sets.set_of (flat_map rows (vals scope a)))))
      → Represents scope refs bound u (narrow.expression ty (narrow.projection s a b)) (of_value (Some (set (sets.set_of (flat_map rows (vals scope a))))))
  projection_keeps u ty f = plain_represents scope refs bound ty (narrow.projection s a b) (Some (set (sets.set_of (flat_map rows (vals scope a))))) u f projection_seen
