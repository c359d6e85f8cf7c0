-- Tables of spellings.
use Rattle.std.proofs.Common.{◌≡◌, ◌∙◌, ℕ, Bool, true, false, cond, List, [], ◌∷◌, ◌++◌, refl, sym, ap}
use Rattle.std.specs.Prelude.{Option, Some, None}
use Rattle.std.specs.Str.{bytes_eq}
use Rattle.eb_signs.specs.declared.sign.Sign.{Sign}
use Rattle.eb_signs.specs.steps.SignTables.{sign_in}

-- the first table that has the spelling
abbrev pub or_in : Option Sign → Option Sign → Option Sign
or_in (Some s) other = Some s
or_in None other = other

row_first : (t : Bool) (s : Sign) (a b : Option Sign) → or_in (cond t (Some s) a) b ≡ cond t (Some s) (or_in a b)
row_first true s a b = refl
row_first false s a b = refl

pub sign_in_append : (w : List ℕ) (a b : List (List ℕ × Sign)) → sign_in w (a ++ b) ≡ or_in (sign_in w a) (sign_in w b)
sign_in_append w [] b = refl
sign_in_append w (row ∷ rows) b = ap (cond (bytes_eq w row.0) (Some row.1)) (sign_in_append w rows b) ∙ sym (row_first (bytes_eq w row.0) row.1 (sign_in w rows) (sign_in w b))

pub in_four : (w : List ℕ) (a b c d : List (List ℕ × Sign)) → sign_in w (a ++ (b ++ (c ++ d))) ≡ or_in (sign_in w a) (or_in (sign_in w b) (or_in (sign_in w c) (sign_in w d)))
in_four w a b c d = sign_in_append w a (b ++ (c ++ d)) ∙ ap (or_in (sign_in w a)) (sign_in_append w b (c ++ d) ∙ ap (or_in (sign_in w b)) (sign_in_append w c d))
