-- How the store changes when two entries are merged.
use Rattle.std.proofs.Common.{◌≡◌, ◌∙◌, ℕ, ◌+◌, ◌<◌, false, List, length, set, sym, ap, subst, arith, length-set, length-append}
use Rattle.eb_value.specs.declared.types.EbType.{EbType}
use Rattle.type_equations.specs.declared.store.Entry.{Entry}
use Rattle.type_equations.specs.declared.store.Entry.TheVariants.{Link}
use Rattle.type_equations.specs.Stores.{entry_at, Fits, Agrees, is_link, IsPlaced, ArePlaced, roots, SaysTheSame, Leads}
use Rattle.type_equations.specs.steps.Merging.{Pairs, AreSame, PairsBelow, merge, Gives, Steps, Joins}
use Rattle.type_equations.proofs.StoreLaws.{entry_put_same, entry_put_other, fits_along, agrees_put, agrees_back, fits_new, fits_old, placed_put, roots_put, roots_link}
use Rattle.type_equations.proofs.MergeLaws.{MergedTo, merged_to, same_append, same_parts, below_append}

link_to : (σ : ℕ → EbType) (es : List Entry) (ps qs : Pairs) (lower upper : ℕ) (one : Entry) → lower < upper → upper < length es → MergedTo (entry_at es lower) (entry_at es upper) one ps qs
    → Agrees σ es → AreSame σ ps → σ lower ≡ σ upper → Agrees σ (set (set es lower one) upper (Link lower)) × AreSame σ qs
link_to σ es ps qs lower upper one less there m a p same =
    let got = m.merges.to σ lower (a.fits lower) (fits_along σ upper lower (entry_at es upper) same (a.fits upper)) in
    let still : upper < length (set es lower one) = omega (arith, length-set es lower one) in (
      agrees_put σ (set es lower one) upper (Link lower) still (agrees_put σ es lower one (omega arith) a got.0) (sym same),
      subst (AreSame σ) (sym m.pairs) (same_append σ ps m.parts p got.1),
    )

link_back : (σ : ℕ → EbType) (es : List Entry) (ps qs : Pairs) (lower upper : ℕ) (one : Entry) → lower < upper → upper < length es → MergedTo (entry_at es lower) (entry_at es upper) one ps qs
    → Agrees σ (set (set es lower one) upper (Link lower)) → AreSame σ qs → Agrees σ es × AreSame σ ps × (σ lower ≡ σ upper)
link_back σ es ps qs lower upper one less there m a q =
    let still : upper < length (set es lower one) = omega (arith, length-set es lower one) in
    let apart : upper ≡ lower → ⊥ = λ e. omega (arith, e) in
    let apart_too : lower ≡ upper → ⊥ = λ e. omega (arith, e) in
    let same : σ upper ≡ σ lower = fits_new σ (set es lower one) upper (Link lower) still a in
    let fit : Fits σ lower one = subst (λ z. Fits σ lower z) (entry_put_same es lower one (omega arith)) (fits_old σ (set es lower one) upper lower (Link lower) apart_too a) in
    let halves = same_parts σ ps m.parts (subst (AreSame σ) m.pairs q) in
    let got = m.merges.back σ lower fit halves.1 in
    let high : Fits σ upper (entry_at es upper) = fits_along σ lower upper (entry_at es upper) same got.1 in
    let first : Agrees σ (set es lower one) = agrees_back σ (set es lower one) upper (Link lower) a (subst (λ z. Fits σ upper z) (sym (entry_put_other es lower upper one apart)) high) in
    (agrees_back σ es lower one first got.0, halves.0, sym same)

pub links : (es : List Entry) (ps qs : Pairs) (lower upper : ℕ) (one : Entry) → ArePlaced es → PairsBelow (length es) ps → lower < upper → upper < length es
    → is_link (entry_at es lower) ≡ false → is_link (entry_at es upper) ≡ false → Gives (merge (entry_at es lower) (entry_at es upper)) one ps qs
    → Joins (λ σ. σ lower ≡ σ upper) es ps (set (set es lower one) upper (Link lower)) qs
links es ps qs lower upper one p b less there a c g =
    let m = merged_to (entry_at es lower) (entry_at es upper) one ps qs a c g in
    let still : upper < length (set es lower one) = omega (arith, length-set es lower one) in
    let apart : upper ≡ lower → ⊥ = λ e. omega (arith, e) in
    let first : roots (set es lower one) ≡ roots es = roots_put es lower one (m.merges.root ∙ sym a) in
    let second : roots (set (set es lower one) upper (Link lower)) + 1 ≡ roots (set es lower one) = roots_link (set es lower one) upper lower still (ap is_link (entry_put_other es lower upper one apart) ∙ c) in
    let more : length qs ≡ length ps + length m.parts = ap length m.pairs ∙ length-append ps m.parts in
    let few = m.merges.few in
    record {
      steps = record {
        count = length-set (set es lower one) upper (Link lower) ∙ length-set es lower one;
        placed = placed_put (set es lower one) upper (Link lower) still (placed_put es lower one (omega arith) p (m.merges.placed (length es) lower upper (p.placed lower) (p.placed upper))) less;
        below = subst (PairsBelow (length es)) (sym m.pairs) (below_append (length es) ps m.parts b (m.merges.below (length es) lower upper (p.placed lower) (p.placed upper)));
        to = λ σ. link_to σ es ps qs lower upper one less there m;
        back = λ σ. link_back σ es ps qs lower upper one less there m;
      };
      fewer = omega (arith, first, second, more, few);
    }

bind_to : (σ : ℕ → EbType) (es fs : List Entry) (ps qs : Pairs) (number root : ℕ) (e one : Entry) → SaysTheSame es fs → Leads fs number root → root < length fs → MergedTo (entry_at fs root) e one ps qs
    → Agrees σ es → AreSame σ ps → Fits σ number e → Agrees σ (set fs root one) × AreSame σ qs
bind_to σ es fs ps qs number root e one same leads there m a p f =
    let still = same.to σ a in
    let got = m.merges.to σ root (still.fits root) (fits_along σ number root e (sym (leads.same σ still)) f) in
    (agrees_put σ fs root one there still got.0, subst (AreSame σ) (sym m.pairs) (same_append σ ps m.parts p got.1))

bind_back : (σ : ℕ → EbType) (es fs : List Entry) (ps qs : Pairs) (number root : ℕ) (e one : Entry) → SaysTheSame es fs → Leads fs number root → root < length fs → MergedTo (entry_at fs root) e one ps qs
    → Agrees σ (set fs root one) → AreSame σ qs → Agrees σ es × AreSame σ ps × Fits σ number e
bind_back σ es fs ps qs number root e one same leads there m a q =
    let halves = same_parts σ ps m.parts (subst (AreSame σ) m.pairs q) in
    let got = m.merges.back σ root (fits_new σ fs root one there a) halves.1 in
    let still = agrees_back σ fs root one a got.0 in
    (same.back σ still, halves.0, fits_along σ root number e (leads.same σ still) got.1)

-- the place of an entry that isn't a link doesn't matter
pub binds : (es fs : List Entry) (ps qs : Pairs) (number root : ℕ) (e one : Entry) → SaysTheSame es fs → Leads fs number root → is_link (entry_at fs root) ≡ false
    → PairsBelow (length es) ps → number < length es → IsPlaced (length es) number e → is_link e ≡ false → Gives (merge (entry_at fs root) e) one ps qs
    → Steps (λ σ. Fits σ number e) es ps (set fs root one) qs
binds es fs ps qs number root e one same leads free b less i shape g =
    let m = merged_to (entry_at fs root) e one ps qs free shape g in
    let there : root < length fs = omega (arith, same.count, leads.small) in
    let placed : IsPlaced (length fs) number e = subst (λ n. IsPlaced n number e) (sym same.count) i in
    let parts : PairsBelow (length es) m.parts = subst (λ n. PairsBelow n m.parts) same.count (m.merges.below (length fs) root number (same.placed.placed root) placed) in
    record {
      count = length-set fs root one ∙ same.count;
      placed = placed_put fs root one there same.placed (m.merges.placed (length fs) root number (same.placed.placed root) placed);
      below = subst (PairsBelow (length es)) (sym m.pairs) (below_append (length es) ps m.parts b parts);
      to = λ σ. bind_to σ es fs ps qs number root e one same leads there m;
      back = λ σ. bind_back σ es fs ps qs number root e one same leads there m;
    }

-- Two numbers that lead to two others are the same type just where those are.
pub record Meets (es fs : List Entry) (first second a b : ℕ) : Type 0 where
  pub same : SaysTheSame es fs
  pub first_leads : Leads fs first a
  pub second_leads : Leads fs second b
