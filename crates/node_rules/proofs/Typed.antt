-- Values of a type that are integers are of the range.
use Rattle.std.proofs.Common.{◌≡◌, ◌∙◌, Bool, true, refl, sym, rules}
use Rattle.eb_value.specs.declared.scope.Scope.{Scope}
use Rattle.eb_value.specs.declared.types.EbType.{EbType, out-EbType, fold_out-EbType, the_lemmas}
use Rattle.eb_value.specs.declared.types.Shape.{Shape, Shape-F, out-Shape}
use Rattle.eb_value.specs.declared.types.Shape.TheOpen as ty
use Rattle.eb_value.specs.declared.value.Value.{Value}
use Rattle.eb_value.specs.declared.value.Form.TheOpen as val
use Rattle.eb_value.specs.Values.{Layer, layer}
use Rattle.eb_value.specs.Typing.{has_type, typed_step}
use Rattle.rules_base.specs.Outcomes.{is_ranged_layer}

step_ranged : (S : Shape-F (Value → Bool) (Value → Bool)) (scope : Scope) (L : Layer) → typed_step scope.sizes S L ≡ true → is_ranged_layer L ≡ true
step_ranged ty.Integer scope (val.Int n) h = h
step_ranged ty.Integer scope _ h = cc
step_ranged ty.Bool scope (val.Bool b) h = refl
step_ranged ty.Bool scope _ h = cc
step_ranged (ty.Carrier c) scope (val.Atom s k) h = refl
step_ranged (ty.Carrier c) scope _ h = cc
step_ranged (ty.Product f g) scope (val.Pair a b) h = refl
step_ranged (ty.Product f g) scope _ h = cc
step_ranged (ty.Power f) scope (val.Set xs) h = refl
step_ranged (ty.Power f) scope _ h = cc

pub typed_ranged : (scope : Scope) (v : Value) (t : EbType) → has_type scope v t ≡ true → is_ranged_layer (layer v) ≡ true
typed_ranged scope v t h = at (out-Shape (out-EbType t).shape) refl where
  at : (S : Shape-F Shape EbType) → out-Shape (out-EbType t).shape ≡ S → is_ranged_layer (layer v) ≡ true
  at ty.Integer e = let k : has_type scope v t ≡ typed_step scope.sizes ty.Integer (layer v) = search (rules, fold_out-EbType, the_lemmas, e) in step_ranged ty.Integer scope (layer v) (sym k ∙ h)
  at ty.Bool e = let k : has_type scope v t ≡ typed_step scope.sizes ty.Bool (layer v) = search (rules, fold_out-EbType, the_lemmas, e) in step_ranged ty.Bool scope (layer v) (sym k ∙ h)
  at (ty.Carrier c) e = let k : has_type scope v t ≡ typed_step scope.sizes (ty.Carrier c) (layer v) = search (rules, fold_out-EbType, the_lemmas, e) in step_ranged (ty.Carrier c) scope (layer v) (sym k ∙ h)
  at (ty.Product a b) e =
      let k : has_type scope v t ≡ typed_step scope.sizes (ty.Product (λ w. has_type scope w a) (λ w. has_type scope w b)) (layer v) = search (rules, fold_out-EbType, the_lemmas, e) in
      step_ranged (ty.Product (λ w. has_type scope w a) (λ w. has_type scope w b)) scope (layer v) (sym k ∙ h)
  at (ty.Power a) e =
      let k : has_type scope v t ≡ typed_step scope.sizes (ty.Power (λ w. has_type scope w a)) (layer v) = search (rules, fold_out-EbType, the_lemmas, e) in
      step_ranged (ty.Power (λ w. has_type scope w a)) scope (layer v) (sym k ∙ h)
