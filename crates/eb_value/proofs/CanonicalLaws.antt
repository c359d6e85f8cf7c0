-- Canonical values: their parts, and what the operators make of them.
use Rattle.std.proofs.Common.{◌≡◌, ◌≢◌, ◌∙◌, ⊎_elim, true, false, ◌&&◌, ◌++◌, ◌+◌, ℕ, zero, suc, ℤ, pos, ◌+ℤ◌, List, [], ◌∷◌, map, Some, None, refl, sym, subst, arith, rules}
use Rattle.std.specs.List.{Contains, list_all, flat_map}
use Rattle.std.specs.Cmp.{first_so, second_so}
use Rattle.eb_value.specs.declared.scope.Scope.{Scope}
use Rattle.eb_value.specs.declared.types.EbType.{EbType}
use Rattle.eb_value.specs.declared.value.Value.{Value, the_lemmas}
use Rattle.eb_value.specs.declared.value.Form.TheOpen as val
use Rattle.eb_value.specs.Types as type
use Rattle.eb_value.specs.Values as value
use Rattle.eb_value.specs.Values.{Layer, layer, rank_of, is_ascending}
use Rattle.eb_value.specs.Sets.{IsSetOf}
use Rattle.eb_value.specs.Relations.{Relates}
use Rattle.eb_value.specs.Typing.{has_type, size_of}
use Rattle.eb_value.specs.Scopes.{vals, ints_from, atoms_from, some_of}
use Rattle.eb_value.specs.Counts.{integers_within}
use Rattle.eb_value.specs.Comprehensions as set
use Rattle.eb_value.specs.Comprehensions.{Maplet}
use Rattle.eb_value.specs.Canonical.{IsCanonical, AreCanonical, integer, truth, atom, pair, family, none, more}
use Rattle.eb_value.proofs.Induction.{rank-int, rank-truth, rank-atom, rank-pair, rank-set, as_int, as_truth, as_atom, as_pair, as_set}
use Rattle.eb_value.proofs.TypeInduction.{ind_type}
use Rattle.eb_value.proofs.Members.{contains_none, contains_cases, contains_here, contains_there}
use Rattle.eb_value.proofs.Ascending.{contains_map, ascending}
use Rattle.eb_value.proofs.CountLaws.{vals-integer, vals-boolean, vals-carrier, vals-product, vals-power}
use Rattle.eb_value.proofs.ValsLaws.{rises-vals, rises-ints_from, contains_pairs}
use Rattle.eb_value.proofs.Completeness.{set_lists}
use Rattle.eb_value.proofs.TypingLaws
use Rattle.eb_value.proofs.ComprehensionLaws.{maplet_in-pair, maplet_in-other, same_maplet, applied_related}
use Rattle.eb_value.proofs.ComprehensionLaws
use Rattle.eb_value.proofs.KeepLaws

-- ---- lists

pub each : (xs : List Value) → AreCanonical xs → (v : Value) → Contains xs v → IsCanonical v
each [] h v m = absurd (contains_none v m)
each (x ∷ xs) (more h k) v m = ⊎_elim (λ e. subst IsCanonical e h) (each xs k v) (contains_cases x xs v m)

pub all : (xs : List Value) → ((v : Value) → Contains xs v → IsCanonical v) → AreCanonical xs
all [] h = none
all (x ∷ xs) h = more (h x (contains_here x xs x refl)) (all xs (λ v m. h v (contains_there x xs v m)))

pub joined : (xs ys : List Value) → AreCanonical xs → AreCanonical ys → AreCanonical (xs ++ ys)
joined [] ys h k = k
joined (x ∷ xs) ys (more h l) k = more h (joined xs ys l k)

pub left : (xs ys : List Value) → AreCanonical (xs ++ ys) → AreCanonical xs
left [] ys h = none
left (x ∷ xs) ys (more h k) = more h (left xs ys k)

pub right : (xs ys : List Value) → AreCanonical (xs ++ ys) → AreCanonical ys
right [] ys h = h
right (x ∷ xs) ys (more h k) = right xs ys k

-- ---- parts

-- the members of a canonical set
abbrev pub Family : List Value → Type 0
Family xs = (is_ascending xs ≡ true) × AreCanonical xs

members-set : (xs : List Value) → set.members (value.set xs) ≡ xs
members-set xs = search (rules, the_lemmas)

members_other : (y : Layer) → rank_of y ≢ 4 → set.members_in y ≡ []
members_other (val.Set xs) h = absurd (h refl)
members_other y h = refl

no_members : (v : Value) → rank_of (layer v) ≢ 4 → Family (set.members v)
no_members v h = subst Family (sym (members_other (layer v) h)) (refl, none)

pub members : {v : Value} → IsCanonical v → Family (set.members v)
members (integer n) = no_members (value.int n) (omega (arith, rank-int n))
members (truth b) = no_members (value.truth b) (omega (arith, rank-truth b))
members (atom s k) = no_members (value.atom s k) (omega (arith, rank-atom s k))
members (pair {a = a} {b = b} h k) = no_members (value.pair a b) (omega (arith, rank-pair a b))
members (family {xs = xs} h k) = subst Family (sym (members-set xs)) (h, k)

abbrev Both : Maplet → Type 0
Both m = IsCanonical m.first × IsCanonical m.second

no_maplet : (v : Value) (m : Maplet) → rank_of (layer v) ≢ 3 → set.maplet_in (layer v) ≡ Some m → Both m
no_maplet v m h e = let k : None ≡ Some m = sym (maplet_in-other (layer v) h) ∙ e in cc

pub maplet : {v : Value} (m : Maplet) → IsCanonical v → set.maplet_in (layer v) ≡ Some m → Both m
maplet m (integer n) e = no_maplet (value.int n) m (omega (arith, rank-int n)) e
maplet m (truth b) e = no_maplet (value.truth b) m (omega (arith, rank-truth b)) e
maplet m (atom s k) e = no_maplet (value.atom s k) m (omega (arith, rank-atom s k)) e
maplet m (pair {a = a} {b = b} h k) e = subst Both (same_maplet (record { first = a; second = b }) m (sym (maplet_in-pair a b) ∙ e)) (h, k)
maplet m (family {xs = xs} h k) e = no_maplet (value.set xs) m (omega (arith, rank-set xs)) e

pub halves : (a b : Value) → IsCanonical (value.pair a b) → IsCanonical a × IsCanonical b
halves a b h = maplet (record { first = a; second = b }) h (maplet_in-pair a b)

pub of_set : (xs : List Value) → IsCanonical (value.set xs) → Family xs
of_set xs h = subst Family (members-set xs) (members h)

pub families : (xs : List Value) → AreCanonical xs → list_all (λ v. is_ascending (set.members v)) xs ≡ true
families xs h = TypingLaws.so_all (λ v. is_ascending (set.members v)) xs (λ v m. (members (each xs h v m)).0)

-- ---- the values of a type

abbrev Typed : Scope → EbType → Type 0
Typed scope t = (v : Value) → has_type scope v t ≡ true → IsCanonical v

typed_integer : (scope : Scope) → Typed scope type.integer
typed_integer scope = as_int (λ v. has_type scope v type.integer ≡ true → IsCanonical v) (λ n h. integer n)
    (λ v k h. let e : false ≡ true = sym (TypingLaws.integer_other scope v k) ∙ h in cc)

typed_boolean : (scope : Scope) → Typed scope type.boolean
typed_boolean scope = as_truth (λ v. has_type scope v type.boolean ≡ true → IsCanonical v) (λ b h. truth b)
    (λ v k h. let e : false ≡ true = sym (TypingLaws.boolean_other scope v k) ∙ h in cc)

typed_carrier : (scope : Scope) (place : ℕ) → Typed scope (type.carrier place)
typed_carrier scope place = as_atom (λ v. has_type scope v (type.carrier place) ≡ true → IsCanonical v) (λ s k h. atom s k)
    (λ v k h. let e : false ≡ true = sym (TypingLaws.carrier_other scope place v k) ∙ h in cc)

typed_product : (scope : Scope) (s t : EbType) → Typed scope s → Typed scope t → Typed scope (type.product s t)
typed_product scope s t p q = as_pair (λ v. has_type scope v (type.product s t) ≡ true → IsCanonical v)
    (λ a b h.
    let e : (has_type scope a s && has_type scope b t) ≡ true = sym (TypingLaws.has_type-pair scope a b s t) ∙ h in
    pair (p a (first_so (has_type scope a s) (has_type scope b t) e)) (q b (second_so (has_type scope a s) (has_type scope b t) e)))
    (λ v k h. let e : false ≡ true = sym (TypingLaws.product_other scope s t v k) ∙ h in cc)

typed_power : (scope : Scope) (t : EbType) → Typed scope t → Typed scope (type.power t)
typed_power scope t p = as_set (λ v. has_type scope v (type.power t) ≡ true → IsCanonical v)
    (λ xs h.
    let e : (is_ascending xs && list_all (λ v. has_type scope v t) xs) ≡ true = sym (TypingLaws.has_type-set scope xs t) ∙ h in
    family (first_so (is_ascending xs) (list_all (λ v. has_type scope v t) xs) e)
    (all xs (λ v m. p v (TypingLaws.all_so (λ v. has_type scope v t) xs (second_so (is_ascending xs) (list_all (λ v. has_type scope v t) xs) e) v m))))
    (λ v k h. let e : false ≡ true = sym (TypingLaws.power_other scope t v k) ∙ h in cc)

pub typed : (scope : Scope) (t : EbType) → Typed scope t
typed scope = ind_type (Typed scope) (record {
  integer = typed_integer scope;
  boolean = typed_boolean scope;
  carrier = typed_carrier scope;
  product = typed_product scope;
  power = typed_power scope;
})

-- ---- the listed values

pub integers : (lo : ℤ) (n : ℕ) → AreCanonical (ints_from lo n)
integers lo zero = none
integers lo (suc n) = more (integer lo) (integers (lo +ℤ pos 1) n)

atoms : (place k n : ℕ) → AreCanonical (atoms_from place k n)
atoms place k zero = none
atoms place k (suc n) = more (atom place k) (atoms place (k + 1) n)

listed_product : (scope : Scope) (s t : EbType) → AreCanonical (vals scope s) → AreCanonical (vals scope t) → AreCanonical (vals scope (type.product s t))
listed_product scope s t h k = subst AreCanonical (sym (vals-product scope s t)) (all _ (λ v m.
    let r = contains_pairs (vals scope s) (vals scope t) v m in
    subst IsCanonical (sym r.2) (pair (each (vals scope s) h r.0 r.3) (each (vals scope t) k r.1 r.4))))

listed_power : (scope : Scope) (t : EbType) → AreCanonical (vals scope t) → AreCanonical (vals scope (type.power t))
listed_power scope t h = subst AreCanonical (sym (vals-power scope t)) (all _ (λ v m.
    let r = contains_map value.set ([] ∷ some_of (vals scope t)) v m in
    let s = set_lists (vals scope t) (rises-vals scope t) r.0 r.1 in
    subst IsCanonical r.2 (family (ascending r.0 s.0) (all r.0 (λ w n. each (vals scope t) h w (s.1 w n))))))

pub listed : (scope : Scope) (t : EbType) → AreCanonical (vals scope t)
listed scope = ind_type (λ t. AreCanonical (vals scope t)) (record {
  integer = subst AreCanonical (sym (vals-integer scope)) (integers scope.lo (integers_within scope.lo scope.hi));
  boolean = subst AreCanonical (sym (vals-boolean scope)) (more (truth false) (more (truth true) none));
  carrier = λ place. subst AreCanonical (sym (vals-carrier scope place)) (atoms place 1 (size_of scope.sizes place));
  product = listed_product scope;
  power = listed_power scope;
})

-- ---- the operators

made : (P : Value → Type 0) (xs : List Value) → IsSetOf P xs → KeepLaws.AllIn IsCanonical xs → IsCanonical (value.set xs)
made P xs s h = family s.ascending (all xs h)

-- both values of a maplet
related : (r : List Value) → AreCanonical r → (x y : Value) → Relates r x y → IsCanonical x × IsCanonical y
related r h x y m = halves x y (each r h (value.pair x y) m)

pub set_of : (xs : List Value) → AreCanonical xs → IsCanonical (value.set (set.set_of xs))
set_of xs h = made _ _ (ComprehensionLaws.set_of_is xs) (KeepLaws.set_of_keeps IsCanonical xs (each xs h))

pub union : (a b : List Value) → AreCanonical a → AreCanonical b → IsCanonical (value.set (set.union a b))
union a b h k = made _ _ (ComprehensionLaws.union_is a b) (KeepLaws.union_keeps IsCanonical a b (each a h) (each b k))

pub meet : (a b : List Value) → AreCanonical a → AreCanonical b → IsCanonical (value.set (set.meet a b))
meet a b h k = made _ _ (ComprehensionLaws.meet_is a b) (KeepLaws.meet_keeps IsCanonical a b (each a h))

pub minus : (a b : List Value) → AreCanonical a → AreCanonical b → IsCanonical (value.set (set.minus a b))
minus a b h k = made _ _ (ComprehensionLaws.minus_is a b) (KeepLaws.minus_keeps IsCanonical a b (each a h))

pub cross : (a b : List Value) → AreCanonical a → AreCanonical b → IsCanonical (value.set (set.cross a b))
cross a b h k = made _ _ (ComprehensionLaws.cross_is a b) (KeepLaws.cross_keeps IsCanonical a b (λ x y m n. pair (each a h x m) (each b k y n)))

pub domain : (r : List Value) → AreCanonical r → IsCanonical (value.set (set.domain r))
domain r h = made _ _ (ComprehensionLaws.domain_is r) (KeepLaws.domain_keeps IsCanonical r (λ x y m. (related r h x y m).0))

pub range : (r : List Value) → AreCanonical r → IsCanonical (value.set (set.range r))
range r h = made _ _ (ComprehensionLaws.range_is r) (KeepLaws.range_keeps IsCanonical r (λ x y m. (related r h x y m).1))

pub inverse : (r : List Value) → AreCanonical r → IsCanonical (value.set (set.inverse r))
inverse r h = made _ _ (ComprehensionLaws.inverse_is r) (KeepLaws.inverse_keeps IsCanonical r (λ x y m. pair (related r h x y m).1 (related r h x y m).0))

pub dom_keep : (s r : List Value) → AreCanonical s → AreCanonical r → IsCanonical (value.set (set.dom_keep s r))
dom_keep s r h k = made _ _ (ComprehensionLaws.dom_keep_is s r) (KeepLaws.dom_keep_keeps IsCanonical s r (each r k))

pub dom_drop : (s r : List Value) → AreCanonical s → AreCanonical r → IsCanonical (value.set (set.dom_drop s r))
dom_drop s r h k = made _ _ (ComprehensionLaws.dom_drop_is s r) (KeepLaws.dom_drop_keeps IsCanonical s r (each r k))

pub ran_keep : (r s : List Value) → AreCanonical r → AreCanonical s → IsCanonical (value.set (set.ran_keep r s))
ran_keep r s h k = made _ _ (ComprehensionLaws.ran_keep_is r s) (KeepLaws.ran_keep_keeps IsCanonical r s (each r h))

pub ran_drop : (r s : List Value) → AreCanonical r → AreCanonical s → IsCanonical (value.set (set.ran_drop r s))
ran_drop r s h k = made _ _ (ComprehensionLaws.ran_drop_is r s) (KeepLaws.ran_drop_keeps IsCanonical r s (each r h))

pub image : (r s : List Value) → AreCanonical r → AreCanonical s → IsCanonical (value.set (set.image r s))
image r s h k = made _ _ (ComprehensionLaws.image_is r s) (KeepLaws.image_keeps IsCanonical r s (λ x y m. (related r h x y m).1))

pub overlay : (f g : List Value) → AreCanonical f → AreCanonical g → IsCanonical (value.set (set.overlay f g))
overlay f g h k = made _ _ (ComprehensionLaws.overlay_is f g) (KeepLaws.overlay_keeps IsCanonical f g (each f h) (each g k))

pub compose : (r s : List Value) → AreCanonical r → AreCanonical s → IsCanonical (value.set (set.compose r s))
compose r s h k = made _ _ (ComprehensionLaws.compose_is r s) (KeepLaws.compose_keeps IsCanonical r s (λ x y z m n. pair (related r h x y m).0 (related s k y z n).1))

pub direct : (r s : List Value) → AreCanonical r → AreCanonical s → IsCanonical (value.set (set.direct r s))
direct r s h k = made _ _ (ComprehensionLaws.direct_is r s)
    (KeepLaws.direct_keeps IsCanonical r s (λ x y z m n. pair (related r h x y m).0 (pair (related r h x y m).1 (related s k x z n).1)))

pub parallel : (r s : List Value) → AreCanonical r → AreCanonical s → IsCanonical (value.set (set.parallel r s))
parallel r s h k = made _ _ (ComprehensionLaws.parallel_is r s)
    (KeepLaws.parallel_keeps IsCanonical r s (λ x y u z m n. pair (pair (related r h x y m).0 (related s k u z n).0) (pair (related r h x y m).1 (related s k u z n).1)))

pub apply : (f : List Value) (x y : Value) → AreCanonical f → set.apply f x ≡ Some y → IsCanonical y
apply f x y h e = (related f h x y (applied_related f x y e)).1

pub union_of : (sets : List (List Value)) → ((s : List Value) → Contains sets s → AreCanonical s) → IsCanonical (value.set (set.union_of sets))
union_of sets h = made _ _ (ComprehensionLaws.set_of_is (flat_map (λ s. s) sets)) (KeepLaws.union_of_keeps IsCanonical sets (λ s m. each s (h s m)))

pub meet_of : (sets : List (List Value)) (xs : List Value) → ((s : List Value) → Contains sets s → AreCanonical s) → set.meet_of sets ≡ Some xs → IsCanonical (value.set xs)
meet_of sets xs h e = made _ _ (KeepLaws.meet_of_sorted sets xs e) (KeepLaws.meet_of_keeps IsCanonical sets xs (λ s m. each s (h s m)) e)

members_of : (vs : List Value) → AreCanonical vs → (s : List Value) → Contains (map set.members vs) s → AreCanonical s
members_of vs h s m = let f = contains_map set.members vs s m in subst AreCanonical f.2 (members (each vs h f.0 f.1)).1

pub union_all : (vs : List Value) → AreCanonical vs → IsCanonical (value.set (set.union_of (map set.members vs)))
union_all vs h = union_of (map set.members vs) (members_of vs h)

pub meet_all : (vs xs : List Value) → AreCanonical vs → set.meet_of (map set.members vs) ≡ Some xs → IsCanonical (value.set xs)
meet_all vs xs h e = meet_of (map set.members vs) xs (members_of vs h) e

pub interval : (lo : ℤ) (n : ℕ) → IsCanonical (value.set (ints_from lo n))
interval lo n = family (ascending (ints_from lo n) (rises-ints_from lo n)) (integers lo n)
