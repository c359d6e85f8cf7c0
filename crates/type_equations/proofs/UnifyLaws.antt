-- How pairs are taken from the end of a list, until there is none.
use Rattle.std.proofs.Common.{◌≡◌, ◌∙◌, ℕ, zero, suc, ◌+◌, ◌<◌, List, [], ◌∷◌, ◌++◌, length, take, get_or, refl, sym, ap, subst, arith}
use Rattle.std.specs.Prelude.{⊤}
use Rattle.std.proofs.lemmas.List.{take_more}
use Rattle.eb_value.specs.declared.types.EbType.{EbType}
use Rattle.type_equations.specs.declared.equation.Equation.{Equation}
use Rattle.type_equations.specs.declared.store.Entry.{Entry}
use Rattle.type_equations.specs.Equations.{Holds, Solves, IsBelow, AreBelow, HaveNone}
use Rattle.type_equations.specs.Stores.{Agrees, ArePlaced}
use Rattle.type_equations.specs.steps.Merging.{Pairs, PairsBelow, Steps, Joins, Refutes, Unifies, Differ, Says}
use Rattle.type_equations.proofs.EquationLaws.{solves_append, solves_parts}
use Rattle.type_equations.proofs.MergeLaws.{same_append, same_parts, below_parts}

pub begins : (es : List Entry) (ps : Pairs) → ArePlaced es → PairsBelow (length es) ps → Steps (λ σ. ⊤) es ps es ps
begins es ps p b = record { count = refl; placed = p; below = b; to = λ σ a s t. (a, s); back = λ σ a s. (a, s, tt) }

-- the last pair, and those before it
pub record IsLast (entries : List Entry) (start : Pairs) (es : List Entry) (ps : Pairs) (a b : ℕ) : Type 0 where
  pub below : PairsBelow (length es) ps
  pub first : a < length es
  pub second : b < length es
  pub steps : Steps (λ σ. ⊤) entries start es (ps ++ ((a, b) ∷ []))

pub is_last : (entries es : List Entry) (start all ps : Pairs) (a b : ℕ) → Steps (λ σ. ⊤) entries start es all → all ≡ ps ++ ((a, b) ∷ []) → IsLast entries start es ps a b
is_last entries es start all ps a b s e =
    let both = below_parts (length es) ps ((a, b) ∷ []) (subst (λ n. PairsBelow n (ps ++ ((a, b) ∷ []))) (sym s.count) (subst (PairsBelow (length entries)) e s.below)) in
    record {
      below = both.0;
      first = both.1.0;
      second = both.1.1;
      steps = subst (λ z. Steps (λ σ. ⊤) entries start es z) e s;
    }

pub goes_on : (entries es fs : List Entry) (start ps qs : Pairs) (a b : ℕ) → IsLast entries start es ps a b → Joins (λ σ. σ a ≡ σ b) es ps fs qs → Steps (λ σ. ⊤) entries start fs qs
goes_on entries es fs start ps qs a b l j =
    let s = j.steps in
    record {
      count = s.count ∙ l.steps.count;
      placed = s.placed;
      below = subst (λ n. PairsBelow n qs) l.steps.count s.below;
      to = λ σ g p t. (let got = l.steps.to σ g p t in let halves = same_parts σ ps ((a, b) ∷ []) got.1 in s.to σ got.0 halves.0 halves.1.0);
      back = λ σ g q. (let got = s.back σ g q in l.steps.back σ got.0 (same_append σ ps ((a, b) ∷ []) got.1 (got.2, tt)));
    }

pub differs : (entries es : List Entry) (start ps : Pairs) (a b : ℕ) → IsLast entries start es ps a b → Refutes (λ σ. σ a ≡ σ b) es ps → Differ entries start
differs entries es start ps a b l r = λ σ g p.
    let got = l.steps.to σ g p tt in
    let halves = same_parts σ ps ((a, b) ∷ []) got.1 in
    r σ got.0 halves.0 halves.1.0

solves_front : (σ : ℕ → EbType) (n : ℕ) (xs : List Equation) → Solves σ xs → Solves σ (take n xs)
solves_front σ zero xs s = tt
solves_front σ (suc n) [] s = tt
solves_front σ (suc n) (x ∷ xs) s = (s.0, solves_front σ n xs s.1)

holds_at : (σ : ℕ → EbType) (n : ℕ) (xs : List Equation) (e : Equation) → n < length xs → Solves σ xs → Holds σ (get_or xs n e)
holds_at σ n [] e h s = absurd (omega (arith, h))
holds_at σ zero (x ∷ xs) e h s = s.0
holds_at σ (suc n) (x ∷ xs) e h s = holds_at σ n xs e (omega (arith, h)) s.1

pub below_at : (total n : ℕ) (xs : List Equation) (e : Equation) → n < length xs → AreBelow total xs → IsBelow total (get_or xs n e)
below_at total n [] e h b = absurd (omega (arith, h))
below_at total zero (x ∷ xs) e h b = b.0
below_at total (suc n) (x ∷ xs) e h b = below_at total n xs e (omega (arith, h)) b.1

says_to : (σ : ℕ → EbType) (total n : ℕ) (xs : List Equation) (e : Equation) (es fs gs : List Entry) (ps qs : Pairs) → Says total (take n xs) es → n < length xs → e ≡ get_or xs n e
    → Steps (λ σ. Holds σ e) es [] fs ps → Unifies fs ps gs qs → Solves σ (take (n + 1) xs) → Agrees σ gs
says_to σ total n xs e es fs gs ps qs s h at t u all =
    let parts = solves_parts σ (take n xs) (e ∷ []) (subst (Solves σ) (take_more xs n e h ∙ ap (λ z. take n xs ++ (z ∷ [])) (sym at)) all) in
    let got = t.to σ (s.to σ parts.0) tt parts.1.0 in
    u.to σ got.0 got.1

says_back : (σ : ℕ → EbType) (total n : ℕ) (xs : List Equation) (e : Equation) (es fs gs : List Entry) (ps qs : Pairs) → Says total (take n xs) es → n < length xs → e ≡ get_or xs n e
    → Steps (λ σ. Holds σ e) es [] fs ps → Unifies fs ps gs qs → Agrees σ gs → Solves σ (take (n + 1) xs)
says_back σ total n xs e es fs gs ps qs s h at t u g =
    let before = u.back σ g in
    let got = t.back σ before.0 before.1 in
    subst (Solves σ) (sym (take_more xs n e h ∙ ap (λ z. take n xs ++ (z ∷ [])) (sym at))) (solves_append σ (take n xs) (e ∷ []) (s.back σ got.0) (got.2, tt))

pub says_more : (total n : ℕ) (xs : List Equation) (e : Equation) (es fs gs : List Entry) (ps qs : Pairs) → Says total (take n xs) es → n < length xs → e ≡ get_or xs n e
    → Steps (λ σ. Holds σ e) es [] fs ps → Unifies fs ps gs qs → Says total (take (n + 1) xs) gs
says_more total n xs e es fs gs ps qs s h at t u = record {
  count = u.count ∙ t.count ∙ s.count;
  placed = u.placed;
  to = λ σ. says_to σ total n xs e es fs gs ps qs s h at t u;
  back = λ σ. says_back σ total n xs e es fs gs ps qs s h at t u;
}

pub says_none : (total n : ℕ) (xs : List Equation) (e : Equation) (es : List Entry) → Says total (take n xs) es → n < length xs → e ≡ get_or xs n e → Refutes (λ σ. Holds σ e) es [] → HaveNone xs
says_none total n xs e es s h at r = λ σ all.
    r σ (s.to σ (solves_front σ n xs all)) tt (subst (Holds σ) (sym at) (holds_at σ n xs e h all))

pub says_differ : (total n : ℕ) (xs : List Equation) (e : Equation) (es fs : List Entry) (ps : Pairs) → Says total (take n xs) es → n < length xs → e ≡ get_or xs n e
    → Steps (λ σ. Holds σ e) es [] fs ps → Differ fs ps → HaveNone xs
says_differ total n xs e es fs ps s h at t d = λ σ all.
    let got = t.to σ (s.to σ (solves_front σ n xs all)) tt (subst (Holds σ) (sym at) (holds_at σ n xs e h all)) in
    d σ got.0 got.1

-- What a turn of the loop over the equations knows.
pub record Turn (total n : ℕ) (xs : List Equation) (e : Equation) (es : List Entry) (ps : Pairs) : Type 0 where
  pub says : Says total (take n xs) es
  pub idle : ps ≡ []
  pub less : n < length xs
  pub item : e ≡ get_or xs n e

pub turn_more : (total n : ℕ) (xs : List Equation) (e : Equation) (es fs gs : List Entry) (os ps qs : Pairs) → Turn total n xs e es os → Steps (λ σ. Holds σ e) es os fs ps → Unifies fs ps gs qs
    → Says total (take (n + 1) xs) gs × (qs ≡ [])
turn_more total n xs e es fs gs os ps qs t s u = (says_more total n xs e es fs gs ps qs t.says t.less t.item (subst (λ z. Steps (λ σ. Holds σ e) es z fs ps) t.idle s) u, u.none)

pub turn_refuted : (total n : ℕ) (xs : List Equation) (e : Equation) (es : List Entry) (os : Pairs) → Turn total n xs e es os → Refutes (λ σ. Holds σ e) es os → HaveNone xs
turn_refuted total n xs e es os t r = says_none total n xs e es t.says t.less t.item (subst (λ z. Refutes (λ σ. Holds σ e) es z) t.idle r)

pub turn_differs : (total n : ℕ) (xs : List Equation) (e : Equation) (es fs : List Entry) (os ps : Pairs) → Turn total n xs e es os → Steps (λ σ. Holds σ e) es os fs ps → Differ fs ps → HaveNone xs
turn_differs total n xs e es fs os ps t s d = says_differ total n xs e es fs ps t.says t.less t.item (subst (λ z. Steps (λ σ. Holds σ e) es z fs ps) t.idle s) d
