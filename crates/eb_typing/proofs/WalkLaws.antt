-- Steps of what makes the equations of formulas.
use Rattle.std.proofs.Common.{◌≡◌, ◌∙◌, ℕ, suc, ◌+◌, ◌<◌, List, [], ◌∷◌, ◌++◌, map, length, drop, get_or, refl, sym, ap, subst, arith, append_assoc, add-one, drop-cons}
use Rattle.std.specs.Prelude.{fold, max}
use Rattle.eb_resolved.specs.declared.resolved.Resolved.{Resolved}
use Rattle.type_table.specs.declared.pattern.Pattern.{Pattern}
use Rattle.eb_typing.specs.declared.generated.Found.{Found}
use Rattle.eb_typing.specs.declared.generated.Letters.{Letters}
use Rattle.eb_typing.specs.declared.generated.Generated.{Generated}
use Rattle.eb_typing.specs.Numbering.{Numbered, parts_of, all, numbered}
use Rattle.eb_typing.specs.steps.Generating.{fit, fits, row_of_all, gen, gens, letters_at, after_letters, build, width, widest}

pub fits_all : {R : Type 0} (l : Letters) (part : Pattern) (rs : List R) (fs : List Found) (g : Generated) → length rs ≡ length fs → fits l (map (λ _. part) rs) fs g ≡ fold (λ h f. fit l part f h) g fs
fits_all l part [] [] g e = refl
fits_all l part [] (f ∷ fs) g e = absurd (omega arith)
fits_all l part (r ∷ rs) [] g e = absurd (omega arith)
fits_all l part (r ∷ rs) (f ∷ fs) g e = fits_all l part rs fs (fit l part f g) (omega arith)

pub gens_length : (asked : ℕ) (ts : List Numbered) (g : Generated) → length ts ≡ length (gens asked (parts_of ts) g).0
gens_length asked [] g = refl
gens_length asked (t ∷ ts) g = ap suc (gens_length asked ts (gen asked t g).1)

one_more : {R : Type 0} (part whole : Pattern) (rs : List R) → max (width part) (width whole) ≡ max (width part) (widest (map (λ _. part) rs) whole)
one_more part whole [] = refl
one_more part whole (r ∷ rs) = omega (arith, one_more part whole rs)

pub all_row : (asked : ℕ) (part whole : Pattern) (ts : List Numbered) (g : Generated) → (let r = gens asked (parts_of ts) g in row_of_all part whole r.0 r.1) ≡ gen asked (all part whole ts) g
all_row asked part whole [] g = refl
all_row asked part whole (t ∷ ts) g =
    let r = gens asked (parts_of (t ∷ ts)) g in
    let h = r.1 in
    let l = letters_at h.next in
    ap (λ n. build l whole (fold (λ k f. fit l part f k) (after_letters n h) r.0)) (one_more part whole ts)
    ∙ ap (λ z. build l whole z) (sym (fits_all l part (t ∷ ts) r.0 (after_letters (widest (map (λ _. part) (t ∷ ts)) whole) h) (gens_length asked (t ∷ ts) g)))

-- what is left to walk over, as it stands after some formulas
pub record Walked (asked : ℕ) (all rest : List Resolved) (before out : Generated) (found : List Found) : Type 0 where
  pub made : (gens asked (parts_of (map numbered all)) before).1 ≡ (gens asked (parts_of (map numbered rest)) out).1
  pub parts : (gens asked (parts_of (map numbered all)) before).0 ≡ found ++ (gens asked (parts_of (map numbered rest)) out).0

pub walked_more : (asked : ℕ) (all rest : List Resolved) (before out more : Generated) (found : List Found) (part : Found) (i : ℕ) (r : Resolved) → i < length all → r ≡ get_or all i r
    → Walked asked all (drop i all) before out found → part ≡ (gen asked (numbered r) out).0 → more ≡ (gen asked (numbered r) out).1
    → Walked asked all (drop (i + 1) all) before more (found ++ part ∷ [])
walked_more asked all rest before out more found part i r h is w p m =
    let e : drop i all ≡ r ∷ drop (i + 1) all = rw (add-one, drop-cons all i r) (ap (λ z. z ∷ drop (suc i) all) (sym is)) in
    let v = subst (λ z. Walked asked all z before out found) e w in
    rw (p, m) (record {
      made = v.made;
      parts = v.parts ∙ sym (append_assoc found _ _);
    })
