-- Which values a type has, at each constructor.
use Rattle.std.proofs.Common.{◌≡◌, ◌≢◌, ◌∙◌, ℕ, ⊎_elim, Bool, true, false, ◌&&◌, ◌==◌, nat_le, ℤ, int_le, List, [], ◌∷◌, map, refl, sym, ap, rules}
use Rattle.std.specs.List.{Contains, list_all}
use Rattle.std.specs.Cmp.{first_so, second_so}
use Rattle.eb_value.specs.declared.scope.Scope.{Scope}
use Rattle.eb_value.specs.declared.types.EbType.{EbType}
use Rattle.eb_value.specs.declared.types.EbType as ty_module
use Rattle.eb_value.specs.declared.types.Shape.{Shape-F}
use Rattle.eb_value.specs.declared.types.Shape.TheOpen as ty
use Rattle.eb_value.specs.declared.value.Value.{Value, the_lemmas}
use Rattle.eb_value.specs.declared.value.Form.TheOpen as val
use Rattle.eb_value.specs.Types.{integer, boolean, carrier, product, power}
use Rattle.eb_value.specs.Values.{Layer, layer, rank, rank_of, int, truth, atom, pair, set, is_ascending}
use Rattle.eb_value.specs.Typing.{size_of, in_range, has_type, typed_step, is_bounded}
use Rattle.eb_value.proofs.Members.{contains_none, contains_cases, contains_here, contains_there}

-- ---- at the constructors

pub has_type-int : (scope : Scope) (n : ℤ) → has_type scope (int n) integer ≡ in_range n
has_type-int scope n = search (rules, the_lemmas, ty_module.the_lemmas)

pub has_type-truth : (scope : Scope) (b : Bool) → has_type scope (truth b) boolean ≡ true
has_type-truth scope b = search (rules, the_lemmas, ty_module.the_lemmas)

pub has_type-atom : (scope : Scope) (place s k : ℕ) → has_type scope (atom s k) (carrier place) ≡ ((s == place) && nat_le 1 k && nat_le k (size_of scope.sizes s))
has_type-atom scope place s k = search (rules, the_lemmas, ty_module.the_lemmas)

pub has_type-pair : (scope : Scope) (a b : Value) (s t : EbType) → has_type scope (pair a b) (product s t) ≡ (has_type scope a s && has_type scope b t)
has_type-pair scope a b s t = search (rules, the_lemmas, ty_module.the_lemmas)

pub has_type-set : (scope : Scope) (xs : List Value) (t : EbType) → has_type scope (set xs) (power t) ≡ (is_ascending xs && list_all (λ v. has_type scope v t) xs)
has_type-set scope xs t = search (rules, the_lemmas, ty_module.the_lemmas)

-- ---- at other kinds

abbrev shape_rank : Shape-F (Value → Bool) (Value → Bool) → ℕ
shape_rank ty.Integer = 0
shape_rank ty.Bool = 1
shape_rank (ty.Carrier c) = 2
shape_rank (ty.Product f g) = 3
shape_rank (ty.Power f) = 4

step_other : (sizes : List ℕ) (s : Shape-F (Value → Bool) (Value → Bool)) (y : Layer) → rank_of y ≢ shape_rank s → typed_step sizes s y ≡ false
step_other sizes ty.Integer (val.Int n) h = absurd (h refl)
step_other sizes ty.Integer y h = refl
step_other sizes ty.Bool (val.Bool b) h = absurd (h refl)
step_other sizes ty.Bool y h = refl
step_other sizes (ty.Carrier c) (val.Atom s k) h = absurd (h refl)
step_other sizes (ty.Carrier c) y h = refl
step_other sizes (ty.Product f g) (val.Pair a b) h = absurd (h refl)
step_other sizes (ty.Product f g) y h = refl
step_other sizes (ty.Power f) (val.Set xs) h = absurd (h refl)
step_other sizes (ty.Power f) y h = refl

pub integer_other : (scope : Scope) (v : Value) → rank v ≢ 0 → has_type scope v integer ≡ false
integer_other scope v h =
    let e : has_type scope v integer ≡ typed_step scope.sizes ty.Integer (layer v) = search (rules, ty_module.the_lemmas) in
    e ∙ step_other scope.sizes ty.Integer (layer v) h

pub boolean_other : (scope : Scope) (v : Value) → rank v ≢ 1 → has_type scope v boolean ≡ false
boolean_other scope v h =
    let e : has_type scope v boolean ≡ typed_step scope.sizes ty.Bool (layer v) = search (rules, ty_module.the_lemmas) in
    e ∙ step_other scope.sizes ty.Bool (layer v) h

pub carrier_other : (scope : Scope) (place : ℕ) (v : Value) → rank v ≢ 2 → has_type scope v (carrier place) ≡ false
carrier_other scope place v h =
    let e : has_type scope v (carrier place) ≡ typed_step scope.sizes (ty.Carrier place) (layer v) = search (rules, ty_module.the_lemmas) in
    e ∙ step_other scope.sizes (ty.Carrier place) (layer v) h

pub product_other : (scope : Scope) (s t : EbType) (v : Value) → rank v ≢ 3 → has_type scope v (product s t) ≡ false
product_other scope s t v h =
    let e : has_type scope v (product s t) ≡ typed_step scope.sizes (ty.Product (λ w. has_type scope w s) (λ w. has_type scope w t)) (layer v) = search (rules, ty_module.the_lemmas) in
    e ∙ step_other scope.sizes (ty.Product (λ w. has_type scope w s) (λ w. has_type scope w t)) (layer v) h

pub power_other : (scope : Scope) (t : EbType) (v : Value) → rank v ≢ 4 → has_type scope v (power t) ≡ false
power_other scope t v h =
    let e : has_type scope v (power t) ≡ typed_step scope.sizes (ty.Power (λ w. has_type scope w t)) (layer v) = search (rules, ty_module.the_lemmas) in
    e ∙ step_other scope.sizes (ty.Power (λ w. has_type scope w t)) (layer v) h

-- ---- bounded

pub is_bounded-int : (scope : Scope) (n : ℤ) → is_bounded scope (int n) ≡ (int_le scope.lo n && int_le n scope.hi)
is_bounded-int scope n = search (rules, the_lemmas)

pub is_bounded-truth : (scope : Scope) (b : Bool) → is_bounded scope (truth b) ≡ true
is_bounded-truth scope b = search (rules, the_lemmas)

pub is_bounded-atom : (scope : Scope) (s k : ℕ) → is_bounded scope (atom s k) ≡ true
is_bounded-atom scope s k = search (rules, the_lemmas)

pub is_bounded-pair : (scope : Scope) (a b : Value) → is_bounded scope (pair a b) ≡ (is_bounded scope a && is_bounded scope b)
is_bounded-pair scope a b = search (rules, the_lemmas)

is_bounded-set_by : (scope : Scope) (xs : List Value) → is_bounded scope (set xs) ≡ list_all (λ b. b) (map (is_bounded scope) xs)
is_bounded-set_by scope xs = search (rules, the_lemmas)

list_all-map : (p : Value → Bool) (xs : List Value) → list_all (λ b. b) (map p xs) ≡ list_all p xs
list_all-map p [] = refl
list_all-map p (x ∷ xs) = ap (λ b. p x && b) (list_all-map p xs)

pub is_bounded-set : (scope : Scope) (xs : List Value) → is_bounded scope (set xs) ≡ list_all (is_bounded scope) xs
is_bounded-set scope xs = is_bounded-set_by scope xs ∙ list_all-map (is_bounded scope) xs

-- ---- all members

pub both_so : (s t : Bool) → s ≡ true → t ≡ true → (s && t) ≡ true
both_so s t h k = rw (h, k) refl

pub all_so : (p : Value → Bool) (xs : List Value) → list_all p xs ≡ true → (v : Value) → Contains xs v → p v ≡ true
all_so p [] h v m = absurd (contains_none v m)
all_so p (x ∷ xs) h v m = ⊎_elim (λ e. ap p (sym e) ∙ first_so (p x) (list_all p xs) h) (all_so p xs (second_so (p x) (list_all p xs) h) v) (contains_cases x xs v m)

pub so_all : (p : Value → Bool) (xs : List Value) → ((v : Value) → Contains xs v → p v ≡ true) → list_all p xs ≡ true
so_all p [] h = refl
so_all p (x ∷ xs) h = both_so (p x) (list_all p xs) (h x (contains_here x xs x refl)) (so_all p xs (λ v m. h v (contains_there x xs v m)))
