-- The bytes of identifiers. White space, commas, brackets, braces and `#`, which part what is printed, are none of them.
use Rattle.std.specs.Prelude.{ℕ, Bool, false, ◌&&◌, ◌||◌, ◌==◌, nat_le, List, [], ◌∷◌}
use Rattle.std.specs.List.{list_all}
use Rattle.std.specs.Char.{is_ascii_alphabetic, is_ascii_alphanumeric}

-- an ASCII letter, `_`, or a byte of a character that isn't ASCII
abbrev pub begins_name : ℕ → Bool
begins_name b = is_ascii_alphabetic b || ((b == 95) || nat_le 128 b)

-- one of these, or an ASCII digit
abbrev pub is_name_byte : ℕ → Bool
is_name_byte b = is_ascii_alphanumeric b || ((b == 95) || nat_le 128 b)

-- one or more of these bytes, of which the first is no digit
abbrev pub is_plain_name : List ℕ → Bool
is_plain_name [] = false
is_plain_name (b ∷ bs) = begins_name b && list_all is_name_byte bs
