-- Stores, when entries are put in, and the links in them.
use Rattle.std.proofs.Common.{◌≡◌, ◌∙◌, ℕ, zero, suc, ◌+◌, ◌<◌, Bool, true, false, cond, List, [], ◌∷◌, length, set, refl, sym, ap, subst, arith, ◌⊎◌, inl, inr, length-set}
use Rattle.std.proofs.lemmas.List.{get_or-set_same, get_or-set_other}
use Rattle.std.proofs.lemmas.Bool.{cases_eq}
use Rattle.eb_value.specs.declared.types.EbType.{EbType}
use Rattle.type_equations.specs.declared.store.Entry.{Entry}
use Rattle.type_equations.specs.declared.store.Entry.TheVariants.{Free, Link, Integer, Boolean, Carrier, Product, Power}
use Rattle.type_equations.specs.Stores.{entry_at, Fits, Agrees, is_link, IsPlaced, ArePlaced, roots, SaysTheSame, Leads}

pub entry_put_same : (es : List Entry) (k : ℕ) (e : Entry) → k < length es → entry_at (set es k e) k ≡ e
entry_put_same es k e h = get_or-set_same es k e Free h

pub entry_put_other : (es : List Entry) (k j : ℕ) (e : Entry) → (j ≡ k → ⊥) → entry_at (set es k e) j ≡ entry_at es j
entry_put_other es k j e ne = get_or-set_other es k j e Free ne

-- what fits one of two equal types fits the other
pub fits_along : (σ : ℕ → EbType) (j k : ℕ) (e : Entry) → σ k ≡ σ j → Fits σ j e → Fits σ k e
fits_along σ j k Free same f = tt
fits_along σ j k (Link other) same f = same ∙ f
fits_along σ j k Integer same f = same ∙ f
fits_along σ j k Boolean same f = same ∙ f
fits_along σ j k (Carrier place) same f = same ∙ f
fits_along σ j k (Product first second) same f = same ∙ f
fits_along σ j k (Power members) same f = same ∙ f

fits_put : (σ : ℕ → EbType) (es : List Entry) (k j : ℕ) (e : Entry) → k < length es → Agrees σ es → Fits σ k e → (j ≡ k) ⊎ (j ≡ k → ⊥) → Fits σ j (entry_at (set es k e) j)
fits_put σ es k j e h a f (inl same) = subst (λ z. Fits σ z (entry_at (set es k e) z)) (sym same) (subst (λ z. Fits σ k z) (sym (entry_put_same es k e h)) f)
fits_put σ es k j e h a f (inr ne) = subst (λ z. Fits σ j z) (sym (entry_put_other es k j e ne)) (a.fits j)

pub agrees_put : (σ : ℕ → EbType) (es : List Entry) (k : ℕ) (e : Entry) → k < length es → Agrees σ es → Fits σ k e → Agrees σ (set es k e)
agrees_put σ es k e h a f = record { fits = λ j. fits_put σ es k j e h a f (cases_eq j k) }

fits_back : (σ : ℕ → EbType) (es : List Entry) (k j : ℕ) (e : Entry) → Agrees σ (set es k e) → Fits σ k (entry_at es k) → (j ≡ k) ⊎ (j ≡ k → ⊥) → Fits σ j (entry_at es j)
fits_back σ es k j e a f (inl same) = subst (λ z. Fits σ z (entry_at es z)) (sym same) f
fits_back σ es k j e a f (inr ne) = subst (λ z. Fits σ j z) (entry_put_other es k j e ne) (a.fits j)

pub agrees_back : (σ : ℕ → EbType) (es : List Entry) (k : ℕ) (e : Entry) → Agrees σ (set es k e) → Fits σ k (entry_at es k) → Agrees σ es
agrees_back σ es k e a f = record { fits = λ j. fits_back σ es k j e a f (cases_eq j k) }

pub fits_new : (σ : ℕ → EbType) (es : List Entry) (k : ℕ) (e : Entry) → k < length es → Agrees σ (set es k e) → Fits σ k e
fits_new σ es k e h a = subst (λ z. Fits σ k z) (entry_put_same es k e h) (a.fits k)

pub fits_old : (σ : ℕ → EbType) (es : List Entry) (k j : ℕ) (e : Entry) → (j ≡ k → ⊥) → Agrees σ (set es k e) → Fits σ j (entry_at es j)
fits_old σ es k j e ne a = subst (λ z. Fits σ j z) (entry_put_other es k j e ne) (a.fits j)

placed_at : (es : List Entry) (k j : ℕ) (e : Entry) → k < length es → ArePlaced es → IsPlaced (length es) k e → (j ≡ k) ⊎ (j ≡ k → ⊥) → IsPlaced (length es) j (entry_at (set es k e) j)
placed_at es k j e h p i (inl same) = subst (λ z. IsPlaced (length es) z (entry_at (set es k e) z)) (sym same) (subst (λ z. IsPlaced (length es) k z) (sym (entry_put_same es k e h)) i)
placed_at es k j e h p i (inr ne) = subst (λ z. IsPlaced (length es) j z) (sym (entry_put_other es k j e ne)) (p.placed j)

pub placed_put : (es : List Entry) (k : ℕ) (e : Entry) → k < length es → ArePlaced es → IsPlaced (length es) k e → ArePlaced (set es k e)
placed_put es k e h p i = record { placed = λ j. subst (λ n. IsPlaced n j (entry_at (set es k e) j)) (sym (length-set es k e)) (placed_at es k j e h p i (cases_eq j k)) }

-- a number with a link is there
pub within : (es : List Entry) (k j : ℕ) → entry_at es k ≡ Link j → k < length es
within [] k j e = absurd (cc)
within (x ∷ es) zero j e = omega arith
within (x ∷ es) (suc k) j e = let less = within es k j e in omega (arith, less)

pub roots_put : (es : List Entry) (k : ℕ) (e : Entry) → is_link e ≡ is_link (entry_at es k) → roots (set es k e) ≡ roots es
roots_put [] k e same = refl
roots_put (x ∷ es) zero e same = ap (λ b. cond b (roots es) (roots es + 1)) same
roots_put (x ∷ es) (suc k) e same = ap (λ n. cond (is_link x) n (n + 1)) (roots_put es k e same)

cond_more : (b : Bool) (m n : ℕ) → m + 1 ≡ n → cond b m (m + 1) + 1 ≡ cond b n (n + 1)
cond_more true m n e = e
cond_more false m n e = omega (arith, e)

-- a link in the place of another entry
pub roots_link : (es : List Entry) (k j : ℕ) → k < length es → is_link (entry_at es k) ≡ false → roots (set es k (Link j)) + 1 ≡ roots es
roots_link [] k j h root = absurd (omega arith)
roots_link (x ∷ es) zero j h root = ap (λ b. cond b (roots es) (roots es + 1)) (sym root)
roots_link (x ∷ es) (suc k) j h root = cond_more (is_link x) (roots (set es k (Link j))) (roots es) (roots_link es k j (omega arith) root)

link_at : (es : List Entry) (k j : ℕ) (e : Entry) → k < length es → is_link e ≡ is_link (entry_at es k) → (j ≡ k) ⊎ (j ≡ k → ⊥) → is_link (entry_at (set es k e) j) ≡ is_link (entry_at es j)
link_at es k j e h same (inl at) = subst (λ z. is_link (entry_at (set es k e) z) ≡ is_link (entry_at es z)) (sym at) (ap is_link (entry_put_same es k e h) ∙ same)
link_at es k j e h same (inr ne) = ap is_link (entry_put_other es k j e ne)

-- a link that leads on leads where the next one does
pub shortens : (es : List Entry) (k next after : ℕ) → ArePlaced es → entry_at es k ≡ Link next → entry_at es next ≡ Link after → SaysTheSame es (set es k (Link after))
shortens es k next after p at then =
    let here : k < length es = within es k next at in
    let less : next < k = subst (λ z. IsPlaced (length es) k z) at (p.placed k) in
    let lesser : after < next = subst (λ z. IsPlaced (length es) next z) then (p.placed next) in
    let ne : next ≡ k → ⊥ = λ same. omega (arith, same, less) in
    let linked : is_link (Link after) ≡ is_link (entry_at es k) = ap is_link (sym at) in
    record {
      count = length-set es k (Link after);
      placed = placed_put es k (Link after) here p (omega (arith, less, lesser));
      to = λ σ a. agrees_put σ es k (Link after) here a (subst (λ z. Fits σ k z) at (a.fits k) ∙ subst (λ z. Fits σ next z) then (a.fits next));
      back = λ σ a. agrees_back σ es k (Link after) a (subst (λ z. Fits σ k z) (sym at) (fits_new σ es k (Link after) here a ∙ sym (subst (λ z. Fits σ next z) then (fits_old σ es k next (Link after) ne a))));
      links = λ j. link_at es k j (Link after) here linked (cases_eq j k);
      roots = roots_put es k (Link after) linked;
    }

pub leads_still : (es fs : List Entry) (number at : ℕ) → SaysTheSame es fs → Leads es number at → Leads fs number at
leads_still es fs number at same l = record { small = l.small; same = λ σ a. l.same σ (same.back σ a) }
