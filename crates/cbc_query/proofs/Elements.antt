-- The types of the members of the sets in a type, by its parts.
use Rattle.std.proofs.Common.{◌≡◌, ◌∙◌, ap, ap₂, ◌∷◌, ◌++◌, rules}
use Rattle.eb_value.specs.declared.types.EbType.{EbType, fold-EbType, fold_out-EbType, the_lemmas}
use Rattle.eb_value.specs.declared.types.Shape.TheVariants as shape
use Rattle.eb_value.specs.Types.{product, power}
use Rattle.cbc_query.specs.Limits.{Inside, inside_step, element_types}
use Rattle.cbc_query.proofs.TypeInduction.{ind_type}

abbrev inside : EbType → Inside
inside = fold-EbType Inside Inside inside_step (λ t. t.shape)

product_whole : (s t : EbType) → (inside (product s t)).whole ≡ product (inside s).whole (inside t).whole
product_whole s t = search (rules, the_lemmas)

power_whole : (t : EbType) → (inside (power t)).whole ≡ power (inside t).whole
power_whole t = search (rules, the_lemmas)

whole_is : (t : EbType) → (inside t).whole ≡ t
whole_is = ind_type (λ t. (inside t).whole ≡ t) (record {
  integer = search (rules, the_lemmas);
  boolean = search (rules, the_lemmas);
  carrier = λ place. search (rules, the_lemmas);
  product = λ s t p q. product_whole s t ∙ ap₂ product p q;
  power = λ t p. power_whole t ∙ ap power p;
})

pub product_elements : (t a b : EbType) → t.shape ≡ shape.Product a b → element_types t ≡ element_types a ++ element_types b
product_elements t a b p = search (rules, fold_out-EbType, the_lemmas, p)

power_by_whole : (t a : EbType) → t.shape ≡ shape.Power a → element_types t ≡ (inside a).whole ∷ element_types a
power_by_whole t a p = search (rules, fold_out-EbType, the_lemmas, p)

pub power_elements : (t a : EbType) → t.shape ≡ shape.Power a → element_types t ≡ a ∷ element_types a
power_elements t a p = power_by_whole t a p ∙ ap (λ z. z ∷ element_types a) (whole_is a)
