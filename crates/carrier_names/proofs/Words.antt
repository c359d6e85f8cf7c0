-- What passes for the bytes of identifiers passes for those of plain names.
use Rattle.std.proofs.Common.{◌≡◌, ℕ, Bool, true, false, not, ◌&&◌, ◌||◌, ◌==◌, nat_le, List, [], ◌∷◌, refl, arith}
use Rattle.std.proofs.lemmas.Bool.Decides.{nat_tests}
use Rattle.std.specs.List.{list_all}
use Rattle.std.specs.Int.{is_in_range}
use Rattle.carrier_names.specs.Plain.{begins_name, is_name_byte, is_plain_name}
use Rattle.carrier_names.proofs.Tests.{both_true, are_true, all_weaker}

either_more : (d u l other : Bool) → (u || l) || other ≡ true → ((d || u) || l) || other ≡ true
either_more true u l other h = refl
either_more false u l other h = h

begun_passes : (b : ℕ) → begins_name b ≡ true → is_name_byte b ≡ true
begun_passes b h = either_more (is_in_range 48 57 b) (is_in_range 65 90 b) (is_in_range 97 122 b) ((b == 95) || nat_le 128 b) h

name_passes : (name : List ℕ) → is_plain_name name ≡ true → list_all is_name_byte name ≡ true
name_passes [] h = absurd cc
name_passes (b ∷ bs) h =
    let parts = both_true (begins_name b) (list_all is_name_byte bs) h in
    are_true (is_name_byte b) (list_all is_name_byte bs) (begun_passes b parts.0) parts.1

-- each byte of a plain name passes what all bytes of identifiers pass
pub plain_words : (passes : ℕ → Bool) → ((b : ℕ) → is_name_byte b ≡ true → passes b ≡ true) → (names : List (List ℕ)) → list_all is_plain_name names ≡ true → list_all (list_all passes) names ≡ true
plain_words passes each names h = all_weaker is_plain_name (list_all passes) (λ name plain. all_weaker is_name_byte passes each name (name_passes name plain)) names h

-- what is no byte of an identifier is none of its bytes
pub bytes_apart : (b c : ℕ) → is_name_byte b ≡ true → is_name_byte c ≡ false → (b == c) ≡ false
bytes_apart b c h g = told (b == c) refl
  where
    told : (t : Bool) → (b == c) ≡ t → t ≡ false
    told false e = refl
    told true e = let same : b ≡ c = grind (arith, nat_tests) in absurd cc

no_white : (b : ℕ) → is_name_byte b ≡ true → (not (b == 32) && not (b == 10)) ≡ true
no_white b h = rw (bytes_apart b 32 h refl, bytes_apart b 10 h refl) refl

-- a plain name holds neither a space nor a line feed
pub no_white_space : (names : List (List ℕ)) → list_all is_plain_name names ≡ true → list_all (list_all (λ b. not (b == 32) && not (b == 10))) names ≡ true
no_white_space = plain_words (λ b. not (b == 32) && not (b == 10)) no_white
