-- Two places with what stands in brackets behind them have different texts.
use Rattle.std.proofs.Common.{◌≡◌, ◌∙◌, refl, sym, ap, arith, ℕ, ◌==◌, List, [], ◌∷◌, ◌++◌, length, take, drop, true, false, Some}
use Rattle.std.specs.Prelude.{codes, decimal}
use Rattle.std.proofs.Math.Seq.{take-append_seam, drop-append_seam}
use Rattle.occurrences.specs.declared.place.Place.{Place}
use Rattle.occurrences.specs.declared.place.Place.TheVariants as place
use Rattle.tree_lines.specs.Words.{bracketed, located}
use Rattle.tree_lines.specs.Written.{is_small}
use Rattle.tree_lines.specs.Lines.{place_number}
use Rattle.tree_lines.specs.steps.Reading as spec
use Rattle.tree_lines.proofs.NumberLaws.{natural_printed}
use Rattle.tree_lines.proofs.FormParts.{unended_back, number_then, number_alone}

pub same_number : (k j : ℕ) → is_small k ≡ true → is_small j ≡ true → decimal k ≡ decimal j → k ≡ j
same_number k j sk sj e = let same : Some k ≡ Some j = sym (natural_printed k sk) ∙ ap spec.natural_of e ∙ natural_printed j sj in cc

bracketed_apart : (xs ys : List ℕ) → bracketed xs ≡ bracketed ys → xs ≡ ys
bracketed_apart [] [] e = refl
bracketed_apart [] (c ∷ cs) e = absurd (cc)
bracketed_apart (b ∷ bs) [] e = absurd (cc)
bracketed_apart (b ∷ bs) (c ∷ cs) e =
    let behind : (b ∷ bs) ++ codes "]" ≡ (c ∷ cs) ++ codes "]" = ap (drop 1) e in
    let same : Some (b ∷ bs) ≡ Some (c ∷ cs) = sym (unended_back (b ∷ bs) (codes "]")) ∙ ap (spec.unended (codes "]")) behind ∙ unended_back (c ∷ cs) (codes "]") in
    cc

number_up : (k : ℕ) (inside : List ℕ) → is_small k ≡ true → spec.number_length (decimal k ++ bracketed inside) ≡ length (decimal k)
number_up k [] small = number_alone k small
number_up k (b ∷ bs) small = number_then k ((b ∷ bs) ++ codes "]") small

number_front : (k : ℕ) (inside : List ℕ) → is_small k ≡ true → take (spec.number_length (decimal k ++ bracketed inside)) (decimal k ++ bracketed inside) ≡ decimal k
number_front k inside small = ap (λ n. take n (decimal k ++ bracketed inside)) (number_up k inside small) ∙ take-append_seam (decimal k) (bracketed inside)

number_behind : (k : ℕ) (inside : List ℕ) → is_small k ≡ true → drop (spec.number_length (decimal k ++ bracketed inside)) (decimal k ++ bracketed inside) ≡ bracketed inside
number_behind k inside small = ap (λ n. drop n (decimal k ++ bracketed inside)) (number_up k inside small) ∙ drop-append_seam (decimal k) (bracketed inside)

numbers_apart : (k j : ℕ) (xs ys : List ℕ) → is_small k ≡ true → is_small j ≡ true → decimal k ++ bracketed xs ≡ decimal j ++ bracketed ys → (k ≡ j) × (xs ≡ ys)
numbers_apart k j xs ys sk sj e =
    let front : decimal k ≡ decimal j = sym (number_front k xs sk) ∙ ap (λ t. take (spec.number_length t) t) e ∙ number_front j ys sj in
    let behind : bracketed xs ≡ bracketed ys = sym (number_behind k xs sk) ∙ ap (λ t. drop (spec.number_length t) t) e ∙ number_behind j ys sj in
    (same_number k j sk sj front, bracketed_apart xs ys behind)

abbrev first : List ℕ → ℕ
first [] = 0
first (b ∷ bs) = b

letters_apart : (n m : ℕ) → n == m ≡ false → n ≡ m → ⊥
letters_apart n m other same = grind arith

pub located_apart : (at to : Place) (xs ys : List ℕ) → is_small (place_number at) ≡ true → is_small (place_number to) ≡ true → located at xs ≡ located to ys → (at ≡ to) × (xs ≡ ys)
located_apart (place.Choice k) (place.Choice j) xs ys sk sj e = let same = numbers_apart k j xs ys sk sj (ap (drop 1) e) in (ap place.Choice same.0, same.1)
located_apart (place.Definition k) (place.Definition j) xs ys sk sj e = let same = numbers_apart k j xs ys sk sj (ap (drop 1) e) in (ap place.Definition same.0, same.1)
located_apart (place.Node k) (place.Node j) xs ys sk sj e = let same = numbers_apart k j xs ys sk sj (ap (drop 1) e) in (ap place.Node same.0, same.1)
located_apart (place.Choice k) (place.Definition j) xs ys sk sj e = absurd (letters_apart 99 100 refl (ap first e))
located_apart (place.Choice k) (place.Node j) xs ys sk sj e = absurd (letters_apart 99 112 refl (ap first e))
located_apart (place.Definition k) (place.Choice j) xs ys sk sj e = absurd (letters_apart 100 99 refl (ap first e))
located_apart (place.Definition k) (place.Node j) xs ys sk sj e = absurd (letters_apart 100 112 refl (ap first e))
located_apart (place.Node k) (place.Choice j) xs ys sk sj e = absurd (letters_apart 112 99 refl (ap first e))
located_apart (place.Node k) (place.Definition j) xs ys sk sj e = absurd (letters_apart 112 100 refl (ap first e))
