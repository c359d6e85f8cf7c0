-- Which values a type has.
use Rattle.std.specs.Prelude.{◌≡◌, ⊤, ℕ, Bool, true, false, ◌&&◌, ◌==◌, nat_le, List, [], ◌∷◌, pos, negsuc, unwrap_or, slice_get, ℤ, int_le}
use Rattle.std.specs.List.{list_all}
use Rattle.eb_value.specs.declared.scope.Scope.{Scope}
use Rattle.eb_value.specs.declared.types.EbType.{EbType, fold-EbType}
use Rattle.eb_value.specs.declared.types.Shape.{Shape-F}
use Rattle.eb_value.specs.declared.types.Shape.TheOpen as ty
use Rattle.eb_value.specs.declared.value.Value.{Value}
use Rattle.eb_value.specs.declared.value.Form.{Form-F}
use Rattle.eb_value.specs.declared.value.Form.TheOpen as val
use Rattle.eb_value.specs.Values.{Layer, layer, by_parts, is_ascending}

-- within -2^62 .. 2^62
abbrev pub in_range : ℤ → Bool
in_range n = int_le (negsuc 4611686018427387903) n && int_le n (pos 4611686018427387904)

-- how many atoms a carrier set has, none where it has no size
abbrev pub size_of : List ℕ → ℕ → ℕ
size_of sizes place = unwrap_or (slice_get sizes place) 0

abbrev pub typed_step : List ℕ → Shape-F (Value → Bool) (Value → Bool) → Layer → Bool
typed_step sizes ty.Integer (val.Int n) = in_range n
typed_step sizes ty.Bool (val.Bool b) = true
typed_step sizes (ty.Carrier c) (val.Atom s k) = (s == c) && nat_le 1 k && nat_le k (size_of sizes s)
typed_step sizes (ty.Product f g) (val.Pair a b) = f a && g b
typed_step sizes (ty.Power f) (val.Set xs) = is_ascending xs && list_all f xs
typed_step sizes _ _ = false

-- The value has the type's shape, its integers are in range, its atoms number from 1 to their
-- carrier set's size, and its sets are ascending.
abbrev pub has_type : Scope → Value → EbType → Bool
has_type scope v t = fold-EbType (Value → Bool) (Value → Bool) (λ s v. typed_step scope.sizes s (layer v)) (λ t. t.shape) t v

-- each of the values is one of the type
abbrev pub have_type : Scope → List Value → EbType → Bool
have_type scope vs t = list_all (λ v. has_type scope v t) vs

-- the values have the types, one each
abbrev pub AreOfTypes : Scope → List Value → List EbType → Type 0
AreOfTypes scope [] [] = ⊤
AreOfTypes scope [] (t ∷ ts) = ⊥
AreOfTypes scope (v ∷ vs) [] = ⊥
AreOfTypes scope (v ∷ vs) (t ∷ ts) = (has_type scope v t ≡ true) × AreOfTypes scope vs ts

abbrev pub bounded_step : ℤ → ℤ → Form-F Bool Bool → Bool
bounded_step lo hi (val.Int n) = int_le lo n && int_le n hi
bounded_step lo hi (val.Bool b) = true
bounded_step lo hi (val.Atom s k) = true
bounded_step lo hi (val.Pair a b) = a && b
bounded_step lo hi (val.Set members) = list_all (λ b. b) members

-- each integer in the value lies within the scope's bounds
abbrev pub is_bounded : Scope → Value → Bool
is_bounded scope = by_parts Bool (bounded_step scope.lo scope.hi)
