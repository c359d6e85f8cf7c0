-- The bodies of types have the values of the types.
use Rattle.std.proofs.Common.{◌≡◌, ◌∙◌, ◌↔◌, ℕ, zero, suc, ◌+◌, Bool, true, false, ◌&&◌, ℤ, pos, negsuc, int_le, ◌≤ℤ◌, List, [], ◌∷◌, refl, sym, ap, subst, arith, rules}
use Rattle.std.specs.List.{Contains, list_all}
use Rattle.std.specs.Cmp.{first_so, second_so}
use Rattle.std.proofs.lemmas.Int.{ints}
use Rattle.eb_value.specs.declared.scope.Scope.{Scope}
use Rattle.eb_value.specs.declared.types.EbType.{EbType}
use Rattle.eb_value.specs.declared.types.EbType as ty_module
use Rattle.eb_value.specs.declared.types.Shape.TheOpen as ty
use Rattle.eb_value.specs.declared.value.Value.{Value, the_lemmas}
use Rattle.eb_value.specs.declared.value.Form.TheOpen as val
use Rattle.eb_value.specs.Types.{integer, boolean, carrier, product, power}
use Rattle.eb_value.specs.Values.{Layer, layer, int, truth, atom, pair, set, is_ascending}
use Rattle.eb_value.specs.Typing.{size_of, in_range, has_type, typed_step, is_bounded}
use Rattle.eb_value.specs.Scopes.{vals, atoms_from}
use Rattle.eb_value.specs.Comprehensions.{has as is_among}
use Rattle.int_dom.specs.declared.interval.Interval.{Interval}
use Rattle.occ_domains.specs.declared.body.Body.{Body}
use Rattle.occ_domains.specs.declared.body.Body.TheOpen as body
use Rattle.occ_domains.specs.declared.body.Body.TheVariants as of
use Rattle.occ_domains.specs.Bodies.{is_plain, is_plain_layer, has_step, has, is_normal, integers, members, pairs}
use Rattle.occ_domains.specs.Wholes.{spanned, whole, first, is_without_sets}
use Rattle.occ_domains.proofs.BodyLaws.{has-sets, integers_have, members_have, pairs_have}
use Rattle.occ_domains.proofs.ListLaws.{both_so}
use Rattle.occ_domains.proofs.MeetLaws.{Exact}
use Rattle.occ_domains.proofs.Among.{contains_among, among_contains}
use Rattle.occ_domains.proofs.NormalLaws.{Reflexive, integers_normal, members_normal, pairs_normal, sets_normal}
use Rattle.occ_domains.proofs.TypeInduction.{ind_type, by_kind}

-- ---- at the constructors

typed-integer : (scope : Scope) (v : Value) → has_type scope v integer ≡ typed_step scope.sizes ty.Integer (layer v)
typed-integer scope v = search (rules, ty_module.the_lemmas)

typed-boolean : (scope : Scope) (v : Value) → has_type scope v boolean ≡ typed_step scope.sizes ty.Bool (layer v)
typed-boolean scope v = search (rules, ty_module.the_lemmas)

typed-carrier : (scope : Scope) (c : ℕ) (v : Value) → has_type scope v (carrier c) ≡ typed_step scope.sizes (ty.Carrier c) (layer v)
typed-carrier scope c v = search (rules, ty_module.the_lemmas)

typed-product : (scope : Scope) (s t : EbType) (v : Value) → has_type scope v (product s t) ≡ typed_step scope.sizes (ty.Product (λ w. has_type scope w s) (λ w. has_type scope w t)) (layer v)
typed-product scope s t v = search (rules, ty_module.the_lemmas)

typed-power : (scope : Scope) (t : EbType) (v : Value) → has_type scope v (power t) ≡ typed_step scope.sizes (ty.Power (λ w. has_type scope w t)) (layer v)
typed-power scope t v = search (rules, ty_module.the_lemmas)

vals-boolean : (scope : Scope) → vals scope boolean ≡ truth false ∷ truth true ∷ []
vals-boolean scope = search (rules, ty_module.the_lemmas)

vals-carrier : (scope : Scope) (c : ℕ) → vals scope (carrier c) ≡ atoms_from c 1 (size_of scope.sizes c)
vals-carrier scope c = search (rules, ty_module.the_lemmas)

spanned-integer : (d : Interval) (scope : Scope) → spanned d scope integer ≡ integers d
spanned-integer d scope = search (rules, ty_module.the_lemmas)

spanned-boolean : (d : Interval) (scope : Scope) → spanned d scope boolean ≡ members (vals scope boolean)
spanned-boolean d scope = search (rules, ty_module.the_lemmas)

spanned-carrier : (d : Interval) (scope : Scope) (c : ℕ) → spanned d scope (carrier c) ≡ members (vals scope (carrier c))
spanned-carrier d scope c = search (rules, ty_module.the_lemmas)

spanned-product : (d : Interval) (scope : Scope) (s t : EbType) → spanned d scope (product s t) ≡ pairs (spanned d scope s) (spanned d scope t)
spanned-product d scope s t = search (rules, ty_module.the_lemmas)

spanned-power : (d : Interval) (scope : Scope) (t : EbType) → spanned d scope (power t) ≡ of.AllSets
spanned-power d scope t = search (rules, ty_module.the_lemmas)

unset-product : (s t : EbType) → is_without_sets (product s t) ≡ (is_without_sets s && is_without_sets t)
unset-product s t = search (rules, ty_module.the_lemmas)

unset-power : (t : EbType) → is_without_sets (power t) ≡ false
unset-power t = search (rules, ty_module.the_lemmas)

-- ---- bounded values, by their layer

abbrev pub bounded_at : Scope → Layer → Bool
bounded_at scope (val.Int n) = int_le scope.lo n && int_le n scope.hi
bounded_at scope (val.Bool b) = true
bounded_at scope (val.Atom s k) = true
bounded_at scope (val.Pair a b) = is_bounded scope a && is_bounded scope b
bounded_at scope (val.Set xs) = is_bounded scope (set xs)

bounded-int : (scope : Scope) (n : ℤ) → is_bounded scope (int n) ≡ bounded_at scope (layer (int n))
bounded-int scope n = search (rules, the_lemmas)

bounded-truth : (scope : Scope) (b : Bool) → is_bounded scope (truth b) ≡ bounded_at scope (layer (truth b))
bounded-truth scope b = search (rules, the_lemmas)

bounded-atom : (scope : Scope) (s k : ℕ) → is_bounded scope (atom s k) ≡ bounded_at scope (layer (atom s k))
bounded-atom scope s k = search (rules, the_lemmas)

bounded-pair : (scope : Scope) (a b : Value) → is_bounded scope (pair a b) ≡ bounded_at scope (layer (pair a b))
bounded-pair scope a b = search (rules, the_lemmas)

bounded-set : (scope : Scope) (xs : List Value) → is_bounded scope (set xs) ≡ bounded_at scope (layer (set xs))
bounded-set scope xs = search (rules, the_lemmas)

pub bounded_out : (scope : Scope) (v : Value) → is_bounded scope v ≡ bounded_at scope (layer v)
bounded_out scope = by_kind (λ v. is_bounded scope v ≡ bounded_at scope (layer v)) (record {
  int = bounded-int scope;
  truth = bounded-truth scope;
  atom = bounded-atom scope;
  pair = bounded-pair scope;
  set = bounded-set scope;
})

-- ---- lists of truths and atoms

-- the list of a type has its bounded values
abbrev pub Complete : Type 0
Complete = (scope : Scope) → negsuc 4611686018427387903 ≤ℤ scope.lo → scope.hi ≤ℤ pos 4611686018427387904 → (t : EbType) (v : Value)
    → Contains (vals scope t) v ↔ ((has_type scope v t ≡ true) × (is_bounded scope v ≡ true))

-- the scope with all integers
abbrev pub wide : Scope → Scope
wide scope = record { lo = negsuc 4611686018427387903; hi = pos 4611686018427387904; sizes = scope.sizes; depth = scope.depth }

complete_wide : Complete → (scope : Scope) (t : EbType) (v : Value) → Contains (vals (wide scope) t) v ↔ ((has_type (wide scope) v t ≡ true) × (is_bounded (wide scope) v ≡ true))
complete_wide complete scope = complete (wide scope) (omega (arith, ints)) (omega (arith, ints))

plain_truth : (sizes : List ℕ) (y : Layer) → typed_step sizes ty.Bool y ≡ true → is_plain_layer y ≡ true
plain_truth sizes (val.Bool b) h = refl
plain_truth sizes _ h = cc

plain_atom : (sizes : List ℕ) (c : ℕ) (y : Layer) → typed_step sizes (ty.Carrier c) y ≡ true → is_plain_layer y ≡ true
plain_atom sizes c (val.Atom s k) h = refl
plain_atom sizes c _ h = cc

plain_bounded : (scope : Scope) (y : Layer) → is_plain_layer y ≡ true → bounded_at scope y ≡ true
plain_bounded scope (val.Bool b) h = refl
plain_bounded scope (val.Atom s k) h = refl
plain_bounded scope _ h = cc

pub plain_is_bounded : (scope : Scope) (v : Value) → is_plain v ≡ true → is_bounded scope v ≡ true
plain_is_bounded scope v h = bounded_out scope v ∙ plain_bounded scope (layer v) h

listed_each : Reflexive → Complete → (scope : Scope) (t : EbType) (v : Value) → vals (wide scope) t ≡ vals scope t → has_type (wide scope) v t ≡ true
    → is_plain v ≡ true → has (members (vals scope t)) v ≡ true
listed_each reflexive complete scope t v e h p =
    members_have (vals scope t) v ∙ both_so (is_plain v) (is_among (vals scope t) v) p
    (contains_among reflexive (vals scope t) v (subst (λ xs. Contains xs v) e ((complete_wide complete scope t v).1 (h, plain_is_bounded (wide scope) v p))))

listed_alone : Exact → Complete → (scope : Scope) (t : EbType) (v : Value) → vals (wide scope) t ≡ vals scope t → has (members (vals scope t)) v ≡ true
    → (has_type (wide scope) v t ≡ true) × (is_plain v ≡ true)
listed_alone exact complete scope t v e h =
    let k : (is_plain v && is_among (vals scope t) v) ≡ true = sym (members_have (vals scope t) v) ∙ h in
    let m : Contains (vals scope t) v = among_contains exact (vals scope t) v (second_so (is_plain v) (is_among (vals scope t) v) k) in
    (((complete_wide complete scope t v).0 (subst (λ xs. Contains xs v) (sym e) m)).0, first_so (is_plain v) (is_among (vals scope t) v) k)

-- ---- each value is in the body

record Inside (d : Interval) (Ok : Value → Type 0) : Type 0 where
  integer : (v : Value) (n : ℤ) → layer v ≡ val.Int n → Ok v → in_range n ≡ true → (int_le d.lo n && int_le n d.hi) ≡ true
  pair : (v a b : Value) → layer v ≡ val.Pair a b → Ok v → Ok a × Ok b

module _ (reflexive : Reflexive) (complete : Complete) (scope : Scope) (d : Interval) (Ok : Value → Type 0) (inside : Inside d Ok) where
  abbrev Each : EbType → Type 0
  Each t = (v : Value) → has_type scope v t ≡ true → Ok v → has (spanned d scope t) v ≡ true

  each_integer : (v : Value) → Ok v → (y : Layer) → layer v ≡ y → typed_step scope.sizes ty.Integer y ≡ true → has_step (body.Integers d) v y ≡ true
  each_integer v o (val.Int n) e h = inside.integer v n e o h
  each_integer v o _ e h = cc

  each_pair : (f g : Value → Bool) (a b : Body) → ((w : Value) → f w ≡ true → Ok w → has a w ≡ true) → ((w : Value) → g w ≡ true → Ok w → has b w ≡ true)
      → (v : Value) → Ok v → (y : Layer) → layer v ≡ y → typed_step scope.sizes (ty.Product f g) y ≡ true → has_step (body.Pairs (has a) (has b)) v y ≡ true
  each_pair f g a b p q v o (val.Pair x z) e h =
      let both = inside.pair v x z e o in
      both_so (has a x) (has b z) (p x (first_so (f x) (g z) h) both.0) (q z (second_so (f x) (g z) h) both.1)
  each_pair f g a b p q v o _ e h = cc

  each_set : (f : Value → Bool) (v : Value) (y : Layer) → typed_step scope.sizes (ty.Power f) y ≡ true → has_step body.AllSets v y ≡ true
  each_set f v (val.Set xs) h = refl
  each_set f v _ h = cc

  each : (t : EbType) → Each t
  each = ind_type Each (record {
    integer = λ v h o. rw (spanned-integer d scope) (integers_have d v ∙ each_integer v o (layer v) refl (sym (typed-integer scope v) ∙ h));
    boolean = λ v h o. rw (spanned-boolean d scope) (listed_each reflexive complete scope boolean v (vals-boolean (wide scope) ∙ sym (vals-boolean scope))
        (typed-boolean (wide scope) v ∙ sym (typed-boolean scope v) ∙ h) (plain_truth scope.sizes (layer v) (sym (typed-boolean scope v) ∙ h)));
    carrier = λ c v h o. rw (spanned-carrier d scope c) (listed_each reflexive complete scope (carrier c) v (vals-carrier (wide scope) c ∙ sym (vals-carrier scope c))
        (typed-carrier (wide scope) c v ∙ sym (typed-carrier scope c v) ∙ h) (plain_atom scope.sizes c (layer v) (sym (typed-carrier scope c v) ∙ h)));
    product = λ s t p q v h o. rw (spanned-product d scope s t) (pairs_have (spanned d scope s) (spanned d scope t) v
        ∙ each_pair (λ w. has_type scope w s) (λ w. has_type scope w t) (spanned d scope s) (spanned d scope t) p q v o (layer v) refl (sym (typed-product scope s t v) ∙ h));
    power = λ t p v h o. rw (spanned-power d scope t) (has-sets v ∙ each_set (λ w. has_type scope w t) v (layer v) (sym (typed-power scope t v) ∙ h));
  })

pub whole_each : Reflexive → Complete → (scope : Scope) (t : EbType) (v : Value) → has_type scope v t ≡ true → has (whole scope t) v ≡ true
whole_each reflexive complete scope t v h =
    each reflexive complete scope (record { lo = negsuc 4611686018427387903; hi = pos 4611686018427387904 }) (λ w. true ≡ true)
    (record { integer = λ w n e o k. k; pair = λ w a b e o. (refl, refl) }) t v h refl

pub first_each : Reflexive → Complete → (scope : Scope) (t : EbType) (v : Value) → has_type scope v t ≡ true → is_bounded scope v ≡ true → has (first scope t) v ≡ true
first_each reflexive complete scope t v =
    each reflexive complete scope (record { lo = scope.lo; hi = scope.hi }) (λ w. is_bounded scope w ≡ true)
    (record {
      integer = λ w n e o k. sym (bounded_out scope w ∙ ap (bounded_at scope) e) ∙ o;
      pair = λ w a b e o.
          let k : (is_bounded scope a && is_bounded scope b) ≡ true = sym (bounded_out scope w ∙ ap (bounded_at scope) e) ∙ o in
          (first_so (is_bounded scope a) (is_bounded scope b) k, second_so (is_bounded scope a) (is_bounded scope b) k);
    }) t v

-- ---- nothing else is, without sets

abbrev ends : Scope → Interval
ends bounds = record { lo = bounds.lo; hi = bounds.hi }

module _ (exact : Exact) (complete : Complete) (scope bounds : Scope) (narrow : (n : ℤ) → (int_le bounds.lo n && int_le n bounds.hi) ≡ true → in_range n ≡ true) where
  abbrev IsOne : EbType → Value → Type 0
  IsOne t v = (has_type scope v t ≡ true) × (is_bounded bounds v ≡ true)

  alone_integer : (v : Value) (y : Layer) → layer v ≡ y → has_step (body.Integers (ends bounds)) v y ≡ true → IsOne integer v
  alone_integer v (val.Int n) e h = (typed-integer scope v ∙ ap (typed_step scope.sizes ty.Integer) e ∙ narrow n h, bounded_out bounds v ∙ ap (bounded_at bounds) e ∙ h)
  alone_integer v _ e h = cc

  alone_pair : (s t : EbType) (a b : Body) → ((w : Value) → has a w ≡ true → IsOne s w) → ((w : Value) → has b w ≡ true → IsOne t w)
      → (v : Value) (y : Layer) → layer v ≡ y → has_step (body.Pairs (has a) (has b)) v y ≡ true → IsOne (product s t) v
  alone_pair s t a b p q v (val.Pair x z) e h =
      let l = p x (first_so (has a x) (has b z) h) in
      let r = q z (second_so (has a x) (has b z) h) in (
        typed-product scope s t v ∙ ap (typed_step scope.sizes (ty.Product (λ w. has_type scope w s) (λ w. has_type scope w t))) e ∙ both_so (has_type scope x s) (has_type scope z t) l.0 r.0,
        bounded_out bounds v ∙ ap (bounded_at bounds) e ∙ both_so (is_bounded bounds x) (is_bounded bounds z) l.1 r.1,
      )
  alone_pair s t a b p q v _ e h = cc

  abbrev Alone : EbType → Type 0
  Alone t = is_without_sets t ≡ true → (v : Value) → has (spanned (ends bounds) scope t) v ≡ true → IsOne t v

  alone : (t : EbType) → Alone t
  alone = ind_type Alone (record {
    integer = λ u v h. alone_integer v (layer v) refl (sym (integers_have (ends bounds) v) ∙ ap (λ b. has b v) (sym (spanned-integer (ends bounds) scope)) ∙ h);
    boolean = λ u v h.
        let k = listed_alone exact complete scope boolean v (vals-boolean (wide scope) ∙ sym (vals-boolean scope)) (ap (λ b. has b v) (sym (spanned-boolean (ends bounds) scope)) ∙ h) in
        (typed-boolean scope v ∙ sym (typed-boolean (wide scope) v) ∙ k.0, plain_is_bounded bounds v k.1);
    carrier = λ c u v h.
        let k = listed_alone exact complete scope (carrier c) v (vals-carrier (wide scope) c ∙ sym (vals-carrier scope c)) (ap (λ b. has b v) (sym (spanned-carrier (ends bounds) scope c)) ∙ h) in
        (typed-carrier scope c v ∙ sym (typed-carrier (wide scope) c v) ∙ k.0, plain_is_bounded bounds v k.1);
    product = λ s t p q u v h.
        let w : (is_without_sets s && is_without_sets t) ≡ true = sym (unset-product s t) ∙ u in
        alone_pair s t (spanned (ends bounds) scope s) (spanned (ends bounds) scope t)
        (p (first_so (is_without_sets s) (is_without_sets t) w)) (q (second_so (is_without_sets s) (is_without_sets t) w))
        v (layer v) refl (sym (pairs_have (spanned (ends bounds) scope s) (spanned (ends bounds) scope t) v) ∙ ap (λ b. has b v) (sym (spanned-product (ends bounds) scope s t)) ∙ h);
    power = λ t p u v h. let e : false ≡ true = sym (unset-power t) ∙ u in cc;
  })

pub whole_alone : Exact → Complete → (scope : Scope) (t : EbType) → is_without_sets t ≡ true → (v : Value) → has (whole scope t) v ≡ true → has_type scope v t ≡ true
whole_alone exact complete scope t u v h = (alone exact complete scope (wide scope) (λ n k. k) t u v h).0

narrow_range : (scope : Scope) → negsuc 4611686018427387903 ≤ℤ scope.lo → scope.hi ≤ℤ pos 4611686018427387904 → (n : ℤ) → (int_le scope.lo n && int_le n scope.hi) ≡ true → in_range n ≡ true
narrow_range scope low high n h = grind (arith, ints)

pub first_alone : Exact → Complete → (scope : Scope) → negsuc 4611686018427387903 ≤ℤ scope.lo → scope.hi ≤ℤ pos 4611686018427387904 → (t : EbType) → is_without_sets t ≡ true
    → (v : Value) → has (first scope t) v ≡ true → (has_type scope v t ≡ true) × (is_bounded scope v ≡ true)
first_alone exact complete scope low high t u v h = alone exact complete scope scope (narrow_range scope low high) t u v h

-- ---- normal form

pub plain-truth : (b : Bool) → is_plain (truth b) ≡ true
plain-truth b = search (rules, the_lemmas)

pub plain-atom : (s k : ℕ) → is_plain (atom s k) ≡ true
plain-atom s k = search (rules, the_lemmas)

plain_atoms : (c k n : ℕ) → list_all is_plain (atoms_from c k n) ≡ true
plain_atoms c k zero = refl
plain_atoms c k (suc n) = both_so (is_plain (atom c k)) (list_all is_plain (atoms_from c (k + 1) n)) (plain-atom c k) (plain_atoms c (k + 1) n)

plain_truths : list_all is_plain (truth false ∷ truth true ∷ []) ≡ true
plain_truths = rw (plain-truth false, plain-truth true) refl

abbrev pub Ascending : Type 0
Ascending = (scope : Scope) (t : EbType) → is_ascending (vals scope t) ≡ true

spanned_normal : Ascending → (d : Interval) (scope : Scope) (t : EbType) → is_normal (spanned d scope t) ≡ true
spanned_normal ascending d scope = ind_type (λ t. is_normal (spanned d scope t) ≡ true) (record {
  integer = rw (spanned-integer d scope) (integers_normal d);
  boolean = rw (spanned-boolean d scope) (members_normal (vals scope boolean) (both_so (is_ascending (vals scope boolean)) (list_all is_plain (vals scope boolean)) (ascending scope boolean) (ap (list_all is_plain) (vals-boolean scope) ∙ plain_truths)));
  carrier = λ c. rw (spanned-carrier d scope c) (members_normal (vals scope (carrier c)) (both_so (is_ascending (vals scope (carrier c))) (list_all is_plain (vals scope (carrier c))) (ascending scope (carrier c)) (ap (list_all is_plain) (vals-carrier scope c) ∙ plain_atoms c 1 (size_of scope.sizes c))));
  product = λ s t p q. rw (spanned-product d scope s t) (pairs_normal (spanned d scope s) (spanned d scope t) p q);
  power = λ t p. rw (spanned-power d scope t) sets_normal;
})

pub whole_normal : Ascending → (scope : Scope) (t : EbType) → is_normal (whole scope t) ≡ true
whole_normal ascending scope t = spanned_normal ascending (record { lo = negsuc 4611686018427387903; hi = pos 4611686018427387904 }) scope t

pub first_normal : Ascending → (scope : Scope) (t : EbType) → is_normal (first scope t) ≡ true
first_normal ascending scope t = spanned_normal ascending (record { lo = scope.lo; hi = scope.hi }) scope t
