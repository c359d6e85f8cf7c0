-- Kinds, parts and sizes of types.
use Rattle.std.proofs.Common.{◌≡◌, ◌∙◌, ℕ, ◌+◌, ◌*◌, ◌<◌, ◌≤◌, sym, ap, arith, rules}
use Rattle.eb_value.specs.declared.types.EbType.{EbType, out-EbType, the_lemmas}
use Rattle.eb_value.specs.declared.types.Shape.{Shape, Shape-F, out-Shape}
use Rattle.eb_value.specs.declared.types.Shape.TheOpen as ty
use Rattle.eb_value.specs.Types.{integer, boolean, carrier, product, power}
use Rattle.type_equations.specs.steps.Sizes.{size}

abbrev shape_of : EbType → Shape-F Shape EbType
shape_of t = out-Shape (out-EbType t).shape

shape_of-integer : shape_of integer ≡ ty.Integer
shape_of-integer = search (rules, the_lemmas)

shape_of-boolean : shape_of boolean ≡ ty.Bool
shape_of-boolean = search (rules, the_lemmas)

shape_of-carrier : (place : ℕ) → shape_of (carrier place) ≡ ty.Carrier place
shape_of-carrier place = search (rules, the_lemmas)

shape_of-product : (s t : EbType) → shape_of (product s t) ≡ ty.Product s t
shape_of-product s t = search (rules, the_lemmas)

shape_of-power : (t : EbType) → shape_of (power t) ≡ ty.Power t
shape_of-power t = search (rules, the_lemmas)

kind_in : Shape-F Shape EbType → ℕ
kind_in ty.Integer = 0
kind_in ty.Bool = 1
kind_in (ty.Product s t) = 2
kind_in (ty.Power t) = 3
kind_in (ty.Carrier place) = 4 + place

-- a number for each way a type is made
pub kind : EbType → ℕ
kind t = kind_in (shape_of t)

pub kind-integer : kind integer ≡ 0
unfolding kind kind_in
kind-integer = ap kind_in shape_of-integer

pub kind-boolean : kind boolean ≡ 1
unfolding kind kind_in
kind-boolean = ap kind_in shape_of-boolean

pub kind-product : (s t : EbType) → kind (product s t) ≡ 2
unfolding kind kind_in
kind-product s t = ap kind_in (shape_of-product s t)

pub kind-power : (t : EbType) → kind (power t) ≡ 3
unfolding kind kind_in
kind-power t = ap kind_in (shape_of-power t)

pub kind-carrier : (place : ℕ) → kind (carrier place) ≡ 4 + place
unfolding kind kind_in
kind-carrier place = ap kind_in (shape_of-carrier place)

pub integer≢boolean : integer ≡ boolean → ⊥
integer≢boolean e = let same : 0 ≡ 1 = sym kind-integer ∙ ap kind e ∙ kind-boolean in omega (arith, same)

abbrev shape_layer : EbType → EbType → Shape-F Shape EbType
shape_layer s t = ty.Product s t

abbrev power_layer : EbType → Shape-F Shape EbType
power_layer t = ty.Power t

-- parts of equal types are equal
pub product_parts : (s t u v : EbType) → product s t ≡ product u v → (s ≡ u) × (t ≡ v)
product_parts s t u v e =
    let same : shape_layer s t ≡ shape_layer u v = sym (shape_of-product s t) ∙ ap (λ z. shape_of z) e ∙ shape_of-product u v in
    (cc, cc)

pub power_part : (s t : EbType) → power s ≡ power t → s ≡ t
power_part s t e =
    let same : power_layer s ≡ power_layer t = sym (shape_of-power s) ∙ ap (λ z. shape_of z) e ∙ shape_of-power t in
    cc

pub size-product : (s t : EbType) → size (product s t) ≡ size s + size t + 1
size-product s t = search (rules, the_lemmas)

pub size-power : (t : EbType) → size (power t) ≡ size t + 1
size-power t = search (rules, the_lemmas)

times_more : (a b n : ℕ) → a < b → a * n + n ≤ b * n
times_more a b n h = grind arith

-- what is smaller, or as large with a smaller number, weighs less
pub lighter : (a b n x y : ℕ) → a < b → x < n → a * n + x < b * n + y
lighter a b n x y h less = omega (arith, times_more a b n h)
