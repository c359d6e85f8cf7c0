-- Types written out level by level.
use Rattle.std.proofs.Common.{◌≡◌, ◌∙◌, ℕ, zero, suc, ◌+◌, ◌*◌, ◌<◌, ◌≤◌, List, length, refl, sym, ap, ap₂, arith, inl, inr}
use Rattle.std.proofs.lemmas.List.{get_or_past}
use Rattle.eb_value.specs.declared.types.EbType.{EbType}
use Rattle.eb_value.specs.Types.{integer, product, power}
use Rattle.type_equations.specs.declared.store.Entry.{Entry}
use Rattle.type_equations.specs.declared.store.Entry.TheVariants as entry
use Rattle.type_equations.specs.steps.Sizes.{size, weight}
use Rattle.type_equations.specs.Stores.{entry_at, Fits, Agrees, IsPlaced}
use Rattle.type_equations.specs.Solutions.{made, written, type_at, AreSolved}
use Rattle.type_equations.specs.steps.Settling.{IsStable}
use Rattle.type_equations.proofs.TypeLaws.{size-product, size-power, lighter}
use Rattle.type_equations.proofs.MarkLaws.{OfParts, parts_map, IsPart}

pub written_more : (u : EbType) (es : List Entry) (n k : ℕ) → written u es (suc n) k ≡ made u (written u es n) (entry_at es k)
unfolding written
written_more u es n k = refl

pub written_none : (u : EbType) (es : List Entry) (k : ℕ) → written u es zero k ≡ u
unfolding written
written_none u es k = refl

-- the same parts make the same type
pub made_same : (u : EbType) (σ τ : ℕ → EbType) (e : Entry) → OfParts (λ j. σ j ≡ τ j) e → made u σ e ≡ made u τ e
made_same u σ τ entry.Free h = refl
made_same u σ τ (entry.Link other) h = h
made_same u σ τ entry.Integer h = refl
made_same u σ τ entry.Boolean h = refl
made_same u σ τ (entry.Carrier place) h = refl
made_same u σ τ (entry.Product first second) h = ap₂ product h.0 h.1
made_same u σ τ (entry.Power members) h = ap power h

-- what an entry makes fits it
pub fits_made : (u : EbType) (σ : ℕ → EbType) (k : ℕ) (e : Entry) → σ k ≡ made u σ e → Fits σ k e
fits_made u σ k entry.Free h = tt
fits_made u σ k (entry.Link other) h = h
fits_made u σ k entry.Integer h = h
fits_made u σ k entry.Boolean h = h
fits_made u σ k (entry.Carrier place) h = h
fits_made u σ k (entry.Product first second) h = h
fits_made u σ k (entry.Power members) h = h

pub solved_agrees : (u : EbType) (es : List Entry) → AreSolved u es → Agrees (type_at u es) es
solved_agrees u es s = record { fits = λ k. fits_made u (type_at u es) k (entry_at es k) (s.made_of k) }

pub stable_on : (u : EbType) (es : List Entry) (m n k : ℕ) → IsStable u es m k → m ≤ n → IsStable u es n k
stable_on u es m n k s h = λ j more. s j (omega (arith, h, more)) ∙ sym (s n h)

stable_step : (u : EbType) (es : List Entry) (n k m : ℕ) → OfParts (IsStable u es n) (entry_at es k) → n ≤ m → written u es (suc m) k ≡ written u es (suc n) k
stable_step u es n k m parts h =
    written_more u es m k
    ∙ made_same u (written u es m) (written u es n) (entry_at es k) (parts_map (IsStable u es n) (λ j. written u es m j ≡ written u es n j) (λ j s. s m h) (entry_at es k) parts)
    ∙ sym (written_more u es n k)

stable_at : (u : EbType) (es : List Entry) (n k m : ℕ) → OfParts (IsStable u es n) (entry_at es k) → suc n ≤ m → written u es m k ≡ written u es (suc n) k
stable_at u es n k zero parts h = absurd (omega (arith, h))
stable_at u es n k (suc m) parts h = stable_step u es n k m parts (omega (arith, h))

-- A number is stable one level above its parts.
pub stable_above : (u : EbType) (es : List Entry) (n k : ℕ) → OfParts (IsStable u es n) (entry_at es k) → IsStable u es (suc n) k
stable_above u es n k parts = λ m h. stable_at u es n k m parts h

-- A number that is stable within as many levels as there are entries is made of its parts.
pub stable_made : (u : EbType) (es : List Entry) (n k : ℕ) → IsStable u es n k → n ≤ length es → type_at u es k ≡ made u (type_at u es) (entry_at es k)
stable_made u es n k s h = s (length es) h ∙ sym (s (suc (length es)) (omega (arith, h))) ∙ written_more u es (length es) k

free_written : (u : EbType) (es : List Entry) (n k : ℕ) → entry_at es k ≡ entry.Free → written u es n k ≡ u
free_written u es zero k e = written_none u es k
free_written u es (suc n) k e = written_more u es n k ∙ ap (made u (written u es n)) e

-- past the end nothing is known
pub past_made : (u : EbType) (es : List Entry) (k : ℕ) → length es ≤ k → type_at u es k ≡ made u (type_at u es) (entry_at es k)
past_made u es k h =
    let free : entry_at es k ≡ entry.Free = get_or_past es k entry.Free h in
    free_written u es (length es) k free ∙ sym (ap (made u (type_at u es)) free)

-- What fits an entry whose parts are settled is made of them.
pub made_fits : (σ τ : ℕ → EbType) (k : ℕ) (e : Entry) → (e ≡ entry.Free → ⊥) → Fits σ k e → OfParts (λ j. σ j ≡ τ j) e → σ k ≡ made integer τ e
made_fits σ τ k entry.Free n f h = absurd (n refl)
made_fits σ τ k (entry.Link other) n f h = f ∙ h
made_fits σ τ k entry.Integer n f h = f
made_fits σ τ k entry.Boolean n f h = f
made_fits σ τ k (entry.Carrier place) n f h = f
made_fits σ τ k (entry.Product first second) n f h = f ∙ ap₂ product h.0 h.1
made_fits σ τ k (entry.Power members) n f h = f ∙ ap power h

pub part_within : (count k p : ℕ) (e : Entry) → IsPlaced count k e → k < count → IsPart e p → p < count
part_within count k p entry.Free i h part = absurd part
part_within count k p (entry.Link other) i h part = omega (arith, i, h, part)
part_within count k p entry.Integer i h part = absurd part
part_within count k p entry.Boolean i h part = absurd part
part_within count k p (entry.Carrier place) i h part = absurd part
part_within count k p (entry.Product first second) i h (inl e) = omega (arith, i.0, e)
part_within count k p (entry.Product first second) i h (inr e) = omega (arith, i.1, e)
part_within count k p (entry.Power members) i h part = omega (arith, i, part)

link_lighter : (σ : ℕ → EbType) (count k p : ℕ) → σ k ≡ σ p → p < k → weight σ count p < weight σ count k
link_lighter σ count k p e h = let same : size (σ k) * count ≡ size (σ p) * count = ap (λ t. size t * count) e in omega (arith, same, h)

-- a part weighs less
pub part_lighter : (σ : ℕ → EbType) (count k p : ℕ) (e : Entry) → IsPlaced count k e → Fits σ k e → IsPart e p → weight σ count p < weight σ count k
part_lighter σ count k p entry.Free i f part = absurd part
part_lighter σ count k p (entry.Link other) i f part = link_lighter σ count k p (f ∙ ap σ (sym part)) (omega (arith, i, part))
part_lighter σ count k p entry.Integer i f part = absurd part
part_lighter σ count k p entry.Boolean i f part = absurd part
part_lighter σ count k p (entry.Carrier place) i f part = absurd part
part_lighter σ count k p (entry.Product first second) i f (inl e) =
    let whole : size (σ k) ≡ size (σ first) + size (σ second) + 1 = ap size f ∙ size-product (σ first) (σ second) in
    let same : size (σ p) ≡ size (σ first) = ap (λ z. size (σ z)) e in
    lighter (size (σ p)) (size (σ k)) count p k (omega (arith, whole, same)) (omega (arith, i.0, e))
part_lighter σ count k p (entry.Product first second) i f (inr e) =
    let whole : size (σ k) ≡ size (σ first) + size (σ second) + 1 = ap size f ∙ size-product (σ first) (σ second) in
    let same : size (σ p) ≡ size (σ second) = ap (λ z. size (σ z)) e in
    lighter (size (σ p)) (size (σ k)) count p k (omega (arith, whole, same)) (omega (arith, i.1, e))
part_lighter σ count k p (entry.Power members) i f part =
    let whole : size (σ k) ≡ size (σ members) + 1 = ap size f ∙ size-power (σ members) in
    let same : size (σ p) ≡ size (σ members) = ap (λ z. size (σ z)) part in
    lighter (size (σ p)) (size (σ k)) count p k (omega (arith, whole, same)) (omega (arith, i, part))
