-- The test of two types part by part tells whether they are one.
use Rattle.std.proofs.Common.{◌≡◌, ◌∙◌, ◌↔◌, Bool, true, ℕ, IsTrue, refl, sym, ap, subst, rules}
use Rattle.std.specs.Cmp.{second_so}
use Rattle.std.proofs.lemmas.Bool.{eqb-true, eq-eqb}
use Rattle.eb_value.specs.declared.types.EbType.{EbType, the_lemmas}
use Rattle.eb_value.specs.declared.types.Shape.{Shape, Shape-F}
use Rattle.eb_value.specs.declared.types.Shape.TheViews.{roll-Shape, roll-EbType}
use Rattle.eb_value.specs.declared.types.Shape.TheOpen as ty
use Rattle.eb_value.specs.Types.{integer, boolean, carrier, product, power}
use Rattle.eb_value.specs.steps.SameTypes.{layer, same_step, same_type}
use Rattle.eb_value.proofs.TypeInduction.{ind_type}
use Rattle.eb_value.proofs.Ascending.{first_true}

layer-integer : layer integer ≡ ty.Integer
layer-integer = search (rules, the_lemmas)

layer-boolean : layer boolean ≡ ty.Bool
layer-boolean = search (rules, the_lemmas)

layer-carrier : (place : ℕ) → layer (carrier place) ≡ ty.Carrier place
layer-carrier place = search (rules, the_lemmas)

layer-product : (s t : EbType) → layer (product s t) ≡ ty.Product s t
layer-product s t = search (rules, the_lemmas)

layer-power : (t : EbType) → layer (power t) ≡ ty.Power t
layer-power t = search (rules, the_lemmas)

rolled : Shape-F Shape EbType → EbType
rolled y = roll-EbType (record { shape = roll-Shape y })

-- a type is what its layer makes
whole : (t : EbType) → rolled (layer t) ≡ t
unfolding rolled roll-Shape denote.Hole.Carrier.roll
whole = ind_type (λ t. rolled (layer t) ≡ t) (record {
  integer = ap rolled layer-integer;
  boolean = ap rolled layer-boolean;
  carrier = λ place. ap rolled (layer-carrier place);
  product = λ s t p q. ap rolled (layer-product s t);
  power = λ t p. ap rolled (layer-power t);
})

by_layer : (a b : EbType) → layer a ≡ layer b → a ≡ b
by_layer a b e = sym (whole a) ∙ ap rolled e ∙ whole b

same-integer : (b : EbType) → same_type integer b ≡ same_step ty.Integer (layer b)
same-integer b = search (rules, the_lemmas)

same-boolean : (b : EbType) → same_type boolean b ≡ same_step ty.Bool (layer b)
same-boolean b = search (rules, the_lemmas)

same-carrier : (place : ℕ) (b : EbType) → same_type (carrier place) b ≡ same_step (ty.Carrier place) (layer b)
same-carrier place b = search (rules, the_lemmas)

same-product : (s t b : EbType) → same_type (product s t) b ≡ same_step (ty.Product (same_type s) (same_type t)) (layer b)
same-product s t b = search (rules, the_lemmas)

same-power : (t b : EbType) → same_type (power t) b ≡ same_step (ty.Power (same_type t)) (layer b)
same-power t b = search (rules, the_lemmas)

-- ---- what passes is the same

module _ (b : EbType) where
  integer_by : (y : Shape-F Shape EbType) → layer b ≡ y → same_step ty.Integer y ≡ true → integer ≡ b
  integer_by ty.Integer e h = by_layer integer b (layer-integer ∙ sym e)
  integer_by _ e h = cc

  boolean_by : (y : Shape-F Shape EbType) → layer b ≡ y → same_step ty.Bool y ≡ true → boolean ≡ b
  boolean_by ty.Bool e h = by_layer boolean b (layer-boolean ∙ sym e)
  boolean_by _ e h = cc

  carrier_by : (place : ℕ) (y : Shape-F Shape EbType) → layer b ≡ y → same_step (ty.Carrier place) y ≡ true → carrier place ≡ b
  carrier_by place (ty.Carrier other) e h = by_layer (carrier place) b (layer-carrier place ∙ ap ty.Carrier (eqb-true place other h) ∙ sym e)
  carrier_by place _ e h = cc

  product_by : (s t : EbType) → ((u : EbType) → same_type s u ≡ true → s ≡ u) → ((u : EbType) → same_type t u ≡ true → t ≡ u) → (y : Shape-F Shape EbType) → layer b ≡ y → same_step (ty.Product (same_type s) (same_type t)) y ≡ true → product s t ≡ b
  product_by s t p q (ty.Product u v) e h =
      let first = p u (first_true (same_type s u) (same_type t v) h) in
      let second = q v (second_so (same_type s u) (same_type t v) h) in
      by_layer (product s t) b (layer-product s t ∙ ap (λ x. ty.Product x t) first ∙ ap (ty.Product u) second ∙ sym e)
  product_by s t p q _ e h = cc

  power_by : (t : EbType) → ((u : EbType) → same_type t u ≡ true → t ≡ u) → (y : Shape-F Shape EbType) → layer b ≡ y → same_step (ty.Power (same_type t)) y ≡ true → power t ≡ b
  power_by t p (ty.Power u) e h = by_layer (power t) b (layer-power t ∙ ap ty.Power (p u h) ∙ sym e)
  power_by t p _ e h = cc

same_so : (a b : EbType) → same_type a b ≡ true → a ≡ b
same_so = ind_type (λ a. (b : EbType) → same_type a b ≡ true → a ≡ b) (record {
  integer = λ b h. integer_by b (layer b) refl (sym (same-integer b) ∙ h);
  boolean = λ b h. boolean_by b (layer b) refl (sym (same-boolean b) ∙ h);
  carrier = λ place b h. carrier_by b place (layer b) refl (sym (same-carrier place b) ∙ h);
  product = λ s t p q b h. product_by b s t p q (layer b) refl (sym (same-product s t b) ∙ h);
  power = λ t p b h. power_by b t p (layer b) refl (sym (same-power t b) ∙ h);
})

-- ---- what is the same passes

so_same : (a : EbType) → same_type a a ≡ true
so_same = ind_type (λ a. same_type a a ≡ true) (record {
  integer = same-integer integer ∙ ap (same_step ty.Integer) layer-integer;
  boolean = same-boolean boolean ∙ ap (same_step ty.Bool) layer-boolean;
  carrier = λ place. same-carrier place (carrier place) ∙ ap (same_step (ty.Carrier place)) (layer-carrier place) ∙ eq-eqb place place refl;
  product = λ s t p q. same-product s t (product s t) ∙ ap (same_step (ty.Product (same_type s) (same_type t))) (layer-product s t) ∙ rw (p, q) refl;
  power = λ t p. same-power t (power t) ∙ ap (same_step (ty.Power (same_type t))) (layer-power t) ∙ p;
})

pub same_tells : (a b : EbType) (r : Bool) → r ≡ same_type a b → IsTrue r ↔ (a ≡ b)
same_tells a b r e = (λ h. same_so a b (sym e ∙ h), λ h. e ∙ subst (λ t. same_type a t ≡ true) h (so_same a))
