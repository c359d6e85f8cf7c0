-- Laws of the parts of units with their marks.
use Rattle.std.proofs.Common.{◌≡◌, ◌∙◌, ◌++◌, ◌∷◌, [], ◌+◌, ◌<◌, ◌≤◌, ℕ, zero, suc, Bool, List, take, get_or, length, false, sym, ap, arith, append_assoc, append-nil}
use Rattle.std.proofs.lemmas.List.{take_all}
use Rattle.eb_syntax.specs.declared.units.EbUnit.{EbUnit}
use Rattle.eb_declared.specs.Parts.{parts, unit_parts}

parts_suc : (us : List EbUnit) (bs : List Bool) (i : ℕ) (u : EbUnit) (b : Bool) → i < length us → i < length bs → u ≡ get_or us i u → b ≡ get_or bs i false
    → parts (take (suc i) us) (take (suc i) bs) ≡ parts (take i us) (take i bs) ++ unit_parts b u
parts_suc [] bs i u b l m e f = absurd (omega (arith, l))
parts_suc (v ∷ us) [] i u b l m e f = absurd (omega (arith, m))
parts_suc (v ∷ us) (c ∷ bs) zero u b l m e f = append-nil (unit_parts c v) ∙ (ap (λ z. unit_parts z v) (sym f) ∙ ap (λ z. unit_parts b z) (sym e))
parts_suc (v ∷ us) (c ∷ bs) (suc i) u b l m e f =
    ap (λ z. unit_parts c v ++ z) (parts_suc us bs i u b (omega (arith, l)) (omega (arith, m)) e f) ∙ sym (append_assoc (unit_parts c v) (parts (take i us) (take i bs)) (unit_parts b u))

pub parts_more : (us : List EbUnit) (bs : List Bool) (i : ℕ) (u : EbUnit) (b : Bool) → i < length us → i < length bs → u ≡ get_or us i u → b ≡ get_or bs i false
    → parts (take (i + 1) us) (take (i + 1) bs) ≡ parts (take i us) (take i bs) ++ unit_parts b u
parts_more us bs i u b l m e f = let n : i + 1 ≡ suc i = omega arith in ap (λ z. parts (take z us) (take z bs)) n ∙ parts_suc us bs i u b l m e f

pub parts_all : (us : List EbUnit) (bs : List Bool) (i : ℕ) → length us ≤ i → length bs ≤ i → parts (take i us) (take i bs) ≡ parts us bs
parts_all us bs i l m = ap (λ z. parts z (take i bs)) (take_all i us l) ∙ ap (λ z. parts us z) (take_all i bs m)
