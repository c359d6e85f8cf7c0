-- Bytes of characters.
use Rattle.std.proofs.Common.{◌≡◌, ◌∙◌, ℕ, ◌+◌, ◌≤◌, ◌<◌, List, [], ◌∷◌, ◌++◌, length, take, drop, sym, ap, arith, get_or}
use Rattle.std.specs.Str.{encode_utf8_all}
use Rattle.std.specs.Char.{len_utf8, encode_utf8}
use Rattle.std.proofs.lemmas.Str.{encodes-append, length-encode}
use Rattle.std.proofs.lemmas.List.{take_more, length-append, append-nil, take-append-drop}
use Rattle.eb_lexer.specs.Tokens.{size}

pub encodes_one : (d : ℕ) → encode_utf8_all (d ∷ []) ≡ encode_utf8 d
encodes_one d = append-nil (encode_utf8 d)

-- one character more
pub encodes_more : (cs : List ℕ) (i d : ℕ) → i < length cs → d ≡ get_or cs i d → encode_utf8_all (take (i + 1) cs) ≡ encode_utf8_all (take i cs) ++ encode_utf8 d
encodes_more cs i d h e =
    ap encode_utf8_all (take_more cs i d h ∙ ap (λ x. take i cs ++ x ∷ []) (sym e))
    ∙ encodes-append (take i cs) (d ∷ []) ∙ ap (λ x. encode_utf8_all (take i cs) ++ x) (encodes_one d)

pub size-append : (xs ys : List ℕ) → size (xs ++ ys) ≡ size xs + size ys
size-append xs ys = ap length (encodes-append xs ys) ∙ length-append (encode_utf8_all xs) (encode_utf8_all ys)

pub size_more : (cs : List ℕ) (i d : ℕ) → i < length cs → d ≡ get_or cs i d → size (take (i + 1) cs) ≡ size (take i cs) + len_utf8 d
size_more cs i d h e = ap length (encodes_more cs i d h e) ∙ length-append (encode_utf8_all (take i cs)) (encode_utf8 d) ∙ ap (λ n. size (take i cs) + n) (length-encode d)

-- a part has no more bytes than the whole
pub size_take : (cs : List ℕ) (i : ℕ) → size (take i cs) ≤ size cs
size_take cs i =
    let whole : size (take i cs) + size (drop i cs) ≡ size cs = sym (size-append (take i cs) (drop i cs)) ∙ ap size (take-append-drop i cs) in
    omega arith
