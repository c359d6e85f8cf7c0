-- Parts of pairs, values of binders, and sets made of the values of slots, at their types.
use Rattle.std.proofs.Common.{◌≡◌, ◌∙◌, ℕ, zero, suc, pos, negsuc, ◌≤ℤ◌, true, ◌++◌, List, [], ◌∷◌, map, Option, Some, None, option_map, option_and_then, refl, sym, subst, rules}
use Rattle.std.specs.List.{list_all, slice_get, flat_map}
use Rattle.std.specs.Cmp.{first_so, second_so}
use Rattle.std.proofs.lemmas.Bool.{false≢true}
use Rattle.type_table.specs.Rows.{relation}
use Rattle.eb_value.specs.declared.scope.Scope.{Scope}
use Rattle.eb_value.specs.declared.types.EbType.{EbType, out-EbType, fold_out-EbType}
use Rattle.eb_value.specs.declared.types.EbType as type_module
use Rattle.eb_value.specs.declared.types.Shape.{Shape, Shape-F, out-Shape}
use Rattle.eb_value.specs.declared.types.Shape.TheOpen as ty
use Rattle.eb_value.specs.declared.value.Value.{Value}
use Rattle.eb_value.specs.declared.value.Form.TheOpen as val
use Rattle.eb_value.specs.Types.{product, power}
use Rattle.eb_value.specs.Values.{Layer, layer, pair, set}
use Rattle.eb_value.specs.Scopes.{vals}
use Rattle.eb_value.specs.Typing.{has_type, have_type, typed_step}
use Rattle.eb_value.specs.Comprehensions as sets
use Rattle.eb_value.specs.Comprehensions.{Maplet, members, maplet_in}
use Rattle.eb_term.specs.declared.operators.Side.{Side}
use Rattle.eb_term.specs.declared.operators.Side.TheVariants as side
use Rattle.eb_term.specs.Typed.{part_of_shape, part_of_type, part_type_at, of_two}
use Rattle.eb_operations.specs.declared.truth3.Truth3.{Truth3}
use Rattle.eb_operations.specs.declared.truth3.Truth3.TheVariants.{True, False, Undefined}
use Rattle.eb_meaning.specs.Meaning.{Slot, part_of, part_of_maplet, part_at, all_values, collected, chosen, over_range, maplet_of_projection}
use Rattle.eb_meaning.specs.Fitting.{slot_has_type, AreOfTypes}
use Rattle.eb_meaning.proofs.Hypotheses.{Laws}
use Rattle.eb_meaning.proofs.Lists.{both_so, so_all, all_map, all_flat_map}
use Rattle.eb_meaning.proofs.TypedOperations.{Fits, has_type-pair, has_type-set, at_product, on_slot}
use Rattle.eb_meaning.proofs.TypedOperations as on

-- ---- parts of pairs

on_pair : (scope : Scope) (s t : EbType) (P : Slot → Type 0) (f : Maplet → Value) (y : Layer) → typed_step scope.sizes (ty.Product (λ w. has_type scope w s) (λ w. has_type scope w t)) y ≡ true
    → ((m : Maplet) → has_type scope m.first s ≡ true → has_type scope m.second t ≡ true → P (Some (f m))) → P (option_map f (maplet_in y))
on_pair scope s t P f (val.Pair a b) h k = k (record { first = a; second = b }) (first_so (has_type scope a s) (has_type scope b t) h) (second_so (has_type scope a s) (has_type scope b t) h)
on_pair scope s t P f y h k = absurd (false≢true h)

two_fit : (scope : Scope) (x : Side) (s t : EbType) (y : Layer) → typed_step scope.sizes (ty.Product (λ w. has_type scope w s) (λ w. has_type scope w t)) y ≡ true → Fits scope (of_two x s t) (option_map (part_of_maplet x) (maplet_in y))
two_fit scope side.First s t y h = on_pair scope s t (Fits scope s) (part_of_maplet side.First) y h (λ m p q. p)
two_fit scope side.Second s t y h = on_pair scope s t (Fits scope t) (part_of_maplet side.Second) y h (λ m p q. q)

-- a part of a pair of these types
pub part_of_two_fits : (scope : Scope) (x : Side) (s t : EbType) (v : Value) → has_type scope v (product s t) ≡ true → Fits scope (of_two x s t) (part_of x v)
part_of_two_fits scope x s t v h = two_fit scope x s t (layer v) (sym (at_product scope s t v) ∙ h)

at_pairs : (scope : Scope) (whole s t : EbType) (v : Value) → out-Shape (out-EbType whole).shape ≡ ty.Product s t → has_type scope v whole ≡ typed_step scope.sizes (ty.Product (λ w. has_type scope w s) (λ w. has_type scope w t)) (layer v)
at_pairs scope whole s t v p = search (rules, fold_out-EbType, type_module.the_lemmas, p)

same_some : {A : Type 0} (x y : A) → Some x ≡ Some y → x ≡ y
same_some x y h = cc

part_fits_at : (scope : Scope) (x : Side) (whole u : EbType) (v : Value) (y : Shape-F Shape EbType) → out-Shape (out-EbType whole).shape ≡ y → part_of_shape x y ≡ Some u → has_type scope v whole ≡ true → Fits scope u (part_of x v)
part_fits_at scope side.First whole u v (ty.Product s t) e p h = subst (λ z. Fits scope z (part_of side.First v)) (same_some s u p) (two_fit scope side.First s t (layer v) (sym (at_pairs scope whole s t v e) ∙ h))
part_fits_at scope side.Second whole u v (ty.Product s t) e p h = subst (λ z. Fits scope z (part_of side.Second v)) (same_some t u p) (two_fit scope side.Second s t (layer v) (sym (at_pairs scope whole s t v e) ∙ h))
part_fits_at scope x whole u v y e p h = absurd (cc (p))

-- a part of a value of the type
part_fits : (scope : Scope) (x : Side) (whole u : EbType) (v : Value) → part_of_type x whole ≡ Some u → has_type scope v whole ≡ true → Fits scope u (part_of x v)
part_fits scope x whole u v p h = part_fits_at scope x whole u v (out-Shape (out-EbType whole).shape) refl p h

path_more : (scope : Scope) (path : List Side) (x : Side) (whole u : EbType) (v : Value) (o : Option EbType) → part_of_type x whole ≡ o → option_and_then (part_type_at path) o ≡ Some u → has_type scope v whole ≡ true
    → ((t : EbType) (w : Value) → part_type_at path t ≡ Some u → has_type scope w t ≡ true → Fits scope u (part_at path w)) → Fits scope u (option_and_then (part_at path) (part_of x v))
path_more scope path x whole u v None e p h k = absurd (cc (p))
path_more scope path x whole u v (Some t) e p h k = on_slot scope t u (part_at path) (part_of x v) (part_fits scope x whole t v e h) (λ w q. k t w p q)

-- a part of the part, and so on
pub path_fits : (scope : Scope) (path : List Side) (whole u : EbType) (v : Value) → part_type_at path whole ≡ Some u → has_type scope v whole ≡ true → Fits scope u (part_at path v)
path_fits scope [] whole u v p h = subst (λ z. Fits scope z (Some v)) (same_some whole u p) h
path_fits scope (x ∷ path) whole u v p h = path_more scope path x whole u v (part_of_type x whole) refl p h (λ t w. path_fits scope path t u w)

-- ---- the values of the enclosing binders

pub bound_fits : (scope : Scope) (bound : List Value) (types : List EbType) (k : ℕ) (t : EbType) → AreOfTypes scope bound types → slice_get types k ≡ Some t → Fits scope t (slice_get bound k)
bound_fits scope [] [] k t h p = refl
bound_fits scope [] (u ∷ us) k t h p = refl
bound_fits scope (v ∷ vs) [] k t h p = absurd h
bound_fits scope (v ∷ vs) (u ∷ us) zero t h p = subst (λ z. Fits scope z (Some v)) (same_some u t p) h.0
bound_fits scope (v ∷ vs) (u ∷ us) (suc k) t h p = bound_fits scope vs us k t h.1 p

pub one_more : (scope : Scope) (bound : List Value) (types : List EbType) (v : Value) (t : EbType) → AreOfTypes scope bound types → has_type scope v t ≡ true → AreOfTypes scope (bound ++ v ∷ []) (types ++ t ∷ [])
one_more scope [] [] v t h k = (k, tt)
one_more scope [] (u ∷ us) v t h k = absurd h
one_more scope (w ∷ ws) [] v t h k = absurd h
one_more scope (w ∷ ws) (u ∷ us) v t h k = (h.0, one_more scope ws us v t h.1 k)

-- ---- the values of slots

-- each slot is Undefined, or has a value of the type
abbrev pub AllFit : Scope → EbType → List Slot → Type 0
AllFit scope t slots = list_all (λ o. slot_has_type scope o t) slots ≡ true

put_before : (scope : Scope) (u : EbType) (f : List Value → Value) (v : Value) (o : Option (List Value)) → Fits scope u (option_map (λ vs. f (v ∷ vs)) o) → Fits scope u (option_map f (option_map (λ vs. v ∷ vs) o))
put_before scope u f v None h = h
put_before scope u f v (Some vs) h = h

pub on_values : (scope : Scope) (t u : EbType) (f : List Value → Value) (slots : List Slot) → AllFit scope t slots → ((vs : List Value) → have_type scope vs t ≡ true → Fits scope u (Some (f vs))) → Fits scope u (option_map f (all_values slots))
on_values scope t u f [] h k = k [] refl
on_values scope t u f (None ∷ slots) h k = refl
on_values scope t u f (Some v ∷ slots) h k =
    put_before scope u f v (all_values slots) (on_values scope t u (λ vs. f (v ∷ vs)) slots (second_so (has_type scope v t) (list_all (λ o. slot_has_type scope o t) slots) h)
    (λ vs p. k (v ∷ vs) (both_so (has_type scope v t) (have_type scope vs t) (first_so (has_type scope v t) (list_all (λ o. slot_has_type scope o t) slots) h) p)))

module _ (laws : Laws) (scope : Scope) where
  collected_fits : (u : EbType) (slots : List Slot) → AllFit scope (power u) slots → Fits scope (power u) (collected slots)
  collected_fits u slots h = on_values scope (power u) (power u) (λ vs. set (sets.union_of (map members vs))) slots h (λ vs p. on.union_fits laws scope u vs p)

  -- the union of the instances at the values of a range
  pub instances_fit : (t u : EbType) (f : Value → Slot) (vs : List Value) → have_type scope vs t ≡ true → ((v : Value) → has_type scope v t ≡ true → Fits scope (power u) (f v)) → Fits scope (power u) (collected (map f vs))
  instances_fit t u f vs h k = collected_fits u (map f vs) (all_map (λ v. has_type scope v t) (λ o. slot_has_type scope o (power u)) f vs k h)

  pub range_fits : (t u : EbType) (f : Value → Slot) (o : Slot) → Fits scope (power t) o → ((v : Value) → has_type scope v t ≡ true → Fits scope (power u) (f v)) → Fits scope (power u) (over_range None (λ vs. collected (map f vs)) (option_map members o))
  range_fits t u f None h k = refl
  range_fits t u f (Some v) h k = instances_fit t u f (members v) (on.members_fit laws scope t v h) k

  pub extension_fits : (t : EbType) (slots : List Slot) → AllFit scope t slots → Fits scope (power t) (option_map (λ vs. set (sets.set_of vs)) (all_values slots))
  extension_fits t slots h = on_values scope t (power t) (λ vs. set (sets.set_of vs)) slots h (λ vs p. on.set_of_fits laws scope t vs p)

  pub chosen_fits : (t : EbType) (p : Truth3) (s : Slot) → Fits scope (power t) s → Fits scope (power t) (chosen p s)
  chosen_fits t True s h = h
  chosen_fits t False s h = has_type-set scope [] t
  chosen_fits t Undefined s h = refl

-- ---- all values of a type

module _ (laws : Laws) (scope : Scope) (low : negsuc 4611686018427387903 ≤ℤ scope.lo) (high : scope.hi ≤ℤ pos 4611686018427387904) where
  pub vals_fit : (t : EbType) → have_type scope (vals scope t) t ≡ true
  vals_fit t = so_all (λ v. has_type scope v t) (vals scope t) (λ v m. ((laws.complete scope low high t v).0 m).0)

  paired : (s t : EbType) (v w : Value) → has_type scope v s ≡ true → has_type scope w t ≡ true → has_type scope (pair v w) (product s t) ≡ true
  paired s t v w h k = has_type-pair scope v w s t ∙ both_so (has_type scope v s) (has_type scope w t) h k

  pub identity_fits : (t : EbType) → Fits scope (relation t t) (Some (set (sets.set_of (map (λ x. pair x x) (vals scope t)))))
  identity_fits t = on.set_of_fits laws scope (product t t) (map (λ x. pair x x) (vals scope t))
      (all_map (λ v. has_type scope v t) (λ v. has_type scope v (product t t)) (λ x. pair x x) (vals scope t) (λ v h. paired t t v v h h) (vals_fit t))

  projected : (x : Side) (s t : EbType) (v w : Value) → has_type scope v s ≡ true → has_type scope w t ≡ true → has_type scope (maplet_of_projection x v w) (product (product s t) (of_two x s t)) ≡ true
  projected side.First s t v w h k = paired (product s t) s (pair v w) v (paired s t v w h k) h
  projected side.Second s t v w h k = paired (product s t) t (pair v w) w (paired s t v w h k) k

  pub projection_fits : (x : Side) (s t : EbType) → Fits scope (relation (product s t) (of_two x s t)) (Some (set (sets.set_of (flat_map (λ v. map (maplet_of_projection x v) (vals scope t)) (vals scope s)))))
  projection_fits x s t =
      let whole = product (product s t) (of_two x s t) in
      on.set_of_fits laws scope whole (flat_map (λ v. map (maplet_of_projection x v) (vals scope t)) (vals scope s))
      (all_flat_map (λ v. has_type scope v s) (λ v. has_type scope v whole) (λ v. map (maplet_of_projection x v) (vals scope t)) (vals scope s)
      (λ v h. all_map (λ w. has_type scope w t) (λ w. has_type scope w whole) (maplet_of_projection x v) (vals scope t) (λ w k. projected x s t v w h k) (vals_fit t))
      (vals_fit s))
