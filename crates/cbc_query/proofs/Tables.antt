-- The table of known terms is that of the definition.
use Rattle.std.proofs.Common.{◌≡◌, ◌∙◌, refl, sym, ap, ap₂, ℕ, zero, suc, ◌+◌, ◌≤◌, ◌<◌, ◌==◌, List, [], ◌∷◌, ◌++◌, length, map, drop, get_or, replicate, set, zero-add, arith}
use Rattle.std.specs.Prelude.{Option, Some, None, fold, if◌then◌else◌}
use Rattle.std.proofs.lemmas.Bool.Decides.{nat_tests}
use Rattle.std.proofs.lemmas.List.{drop_more}
use Rattle.eb_value.specs.declared.scope.Scope.{Scope}
use Rattle.eb_value.specs.declared.types.EbType.{EbType}
use Rattle.eb_term.specs.declared.term.Term.{Term}
use Rattle.eb_model.specs.declared.model.ModelPart.{ModelPart}
use Rattle.eb_model.specs.declared.model.ModelPart.TheVariants as part
use Rattle.eb_model.specs.declared.model.EbModel.{EbModel}
use Rattle.eb_lowering.specs.declared.setting.Setting.{Setting}
use Rattle.eb_lowering.specs.declared.setting.Ranges.{Ranges}
use Rattle.cbc_query.specs.Settings.{terms_from, known_at, numbers_from, setting_of}
use Rattle.cbc_query.specs.steps.Tables.{part_terms, constants_behind, filled}

-- ---- part by part

parts_first : (scope : Scope) (types : List EbType) (c : ℕ) (p : ModelPart) (ps : List ModelPart) → terms_from scope types c (p ∷ ps) ≡ part_terms scope types c p ++ terms_from scope types (constants_behind c p) ps
parts_first scope types c (part.Carrier s x) ps = refl
parts_first scope types c (part.Constant x) ps = refl
parts_first scope types c (part.Variable x) ps = refl
parts_first scope types c (part.Axiom l) ps = refl
parts_first scope types c (part.Invariant l) ps = refl
parts_first scope types c (part.Event e) ps = refl

filled-append : (known : List (Option Term)) (xs ys : List (ℕ × Term)) → filled known (xs ++ ys) ≡ filled (filled known xs) ys
filled-append known [] ys = refl
filled-append known (x ∷ xs) ys = filled-append (set known x.0 (Some x.1)) xs ys

-- a part more
pub part_next : (scope : Scope) (types : List EbType) (known : List (Option Term)) (c i : ℕ) (ps : List ModelPart) (p : ModelPart) → i < length ps → p ≡ get_or ps i p
    → filled known (terms_from scope types c (drop i ps)) ≡ filled (filled known (part_terms scope types c p)) (terms_from scope types (constants_behind c p) (drop (i + 1) ps))
part_next scope types known c i ps p h e =
    let next : drop i ps ≡ p ∷ drop (i + 1) ps = drop_more ps i p h ∙ ap (λ z. z ∷ drop (i + 1) ps) (sym e) in
    ap (λ z. filled known (terms_from scope types c z)) next
    ∙ (ap (filled known) (parts_first scope types c p (drop (i + 1) ps))
    ∙ filled-append known (part_terms scope types c p) (terms_from scope types (constants_behind c p) (drop (i + 1) ps)))

-- ---- the table at the end

abbrev replaced : ℕ → Option Term → (ℕ → Option Term) → ℕ → Option Term
replaced m w g j = if m == j then w else g j

same_above : (f g : ℕ → Option Term) (k n : ℕ) → ((j : ℕ) → k ≤ j → f j ≡ g j) → map f (numbers_from k n) ≡ map g (numbers_from k n)
same_above f g k zero h = refl
same_above f g k (suc n) h = ap₂ (λ x xs. x ∷ xs) (h k (omega arith)) (same_above f g (k + 1) n (λ j l. h j (omega arith)))

at_own : (m j : ℕ) (w : Option Term) (g : ℕ → Option Term) → m ≡ j → replaced m w g j ≡ w
at_own m j w g e = grind (arith, nat_tests)

at_other : (m j : ℕ) (w : Option Term) (g : ℕ → Option Term) → (m ≡ j → ⊥) → replaced m w g j ≡ g j
at_other m j w g e = grind (arith, nat_tests)

set_from : (g : ℕ → Option Term) (k n m : ℕ) (w : Option Term) → set (map g (numbers_from k n)) m w ≡ map (replaced (k + m) w g) (numbers_from k n)
set_from g k zero m w = refl
set_from g k (suc n) zero w =
    ap₂ (λ x xs. x ∷ xs) (sym (at_own (k + 0) k w g (omega arith)))
    (same_above g (replaced (k + 0) w g) (k + 1) n (λ j l. sym (at_other (k + 0) j w g (λ e. omega arith))))
set_from g k (suc n) (suc m) w =
    let e : (k + 1) + m ≡ k + suc m = omega arith in
    ap₂ (λ x xs. x ∷ xs) (sym (at_other (k + suc m) k w g (λ e. omega arith)))
    (set_from g (k + 1) n m w ∙ ap (λ i. map (replaced i w g) (numbers_from (k + 1) n)) e)

abbrev found_in : List (ℕ × Term) → (ℕ → Option Term) → ℕ → Option Term
found_in ts g j = fold (λ found t. if t.0 == j then Some t.1 else found) (g j) ts

filled_from : (g : ℕ → Option Term) (n : ℕ) (ts : List (ℕ × Term)) → filled (map g (numbers_from 0 n)) ts ≡ map (found_in ts g) (numbers_from 0 n)
filled_from g n [] = refl
filled_from g n (t ∷ ts) =
    ap (λ z. filled z ts) (set_from g 0 n t.0 (Some t.1) ∙ ap (λ i. map (replaced i (Some t.1) g) (numbers_from 0 n)) (zero-add t.0))
    ∙ filled_from (replaced t.0 (Some t.1) g) n ts

abbrev none : ℕ → Option Term
none j = None

unknown : (k n : ℕ) → replicate n None ≡ map none (numbers_from k n)
unknown k zero = refl
unknown k (suc n) = ap (λ z. None ∷ z) (unknown (k + 1) n)

pub known_is : (n : ℕ) (ts : List (ℕ × Term)) → filled (replicate n None) ts ≡ map (known_at ts) (numbers_from 0 n)
known_is n ts = ap (λ z. filled z ts) (unknown 0 n) ∙ filled_from none n ts

-- ---- the setting

abbrev pub setting_with : List EbType → List (Option Term) → Ranges → Setting
setting_with types known ranges = record { types = types; known = known; ranges = ranges }

pub setting_is : (scope : Scope) (m : EbModel) (types ts : List EbType) (known : List (Option Term)) (ranges : Ranges) → ts ≡ types
    → known ≡ filled (replicate m.numbers None) (terms_from scope types 0 m.parts) → setting_with ts known ranges ≡ setting_of scope m types ranges
setting_is scope m types ts known ranges e k = ap₂ (λ x y. setting_with x y ranges) e (k ∙ known_is m.numbers (terms_from scope types 0 m.parts))
