-- Laws of the places of contexts by their names.
use Rattle.std.proofs.Common.{◌≡◌, ◌∙◌, ◌+◌, ◌≤◌, ◌<◌, ◌⊎◌, ℕ, List, [], ◌∷◌, ◌++◌, Contains, length, get_or, map, filter, sym, ap, refl, subst, arith, All, inl, inr, bytes_eq, Bor, Some, None}
use Rattle.std.specs.Global.{Vec}
use Rattle.std.specs.BTreeMap.{BTreeMap, get_by}
use Rattle.std.specs.Option.{option_map_or}
use Rattle.std.specs.List.{slice_get}
use Rattle.std.specs.Ordering.{nat_cmp}
use Rattle.std.specs.Cmp.Lexicographic.{slice_cmp}
use Rattle.std.proofs.lemmas.Bool.{cases_eq}
use Rattle.std.proofs.lemmas.Slice.Eq.{bytes_eq-Decides}
use Rattle.std.proofs.lemmas.List.{append-nil, get_or_default}
use Rattle.std.proofs.lemmas.List.Elements.{Contains-get_or, Contains-append_left, Contains-push, Contains-push_cases}
use Rattle.eb_syntax.specs.declared.units.Context.{Context}
use Rattle.eb_syntax.specs.declared.units.EbUnit.{EbUnit}
use Rattle.eb_syntax.specs.declared.units.EbUnit.TheVariants as eb
use Rattle.eb_scoping.specs.Groups.{group, IsContextAt, IsIndex}
use Rattle.eb_scoping.specs.steps.Heads.{AreHeads, seen_heads, heads_of}
use Rattle.eb_scoping.proofs.ListLaws.{contains_none, contains_here, contains_map, map_contains, filter_keeps, filter_kept}

-- a context at a place has one name
pub one_name : (us : List EbUnit) (i : ℕ) (x : List ℕ) (a : IsContextAt us i x) → (c : Context) → eb.Context c ≡ get_or us i (eb.Context c) → c.name.name ≡ x
one_name us i x a c e = let same : eb.Context c ≡ eb.Context a.context = e ∙ (get_or_default us i (eb.Context c) (eb.Context a.context) a.inside ∙ sym a.is) in ap (λ z. z.name.name) (context_same c a.context same) ∙ a.named
  where
    context_same : (c d : Context) → eb.Context c ≡ eb.Context d → c ≡ d
    context_same c d h = cc

pub group_inside : (us : List EbUnit) (m : BTreeMap (Bor (List ℕ)) (Vec ℕ)) → IsIndex us m → (n : ℕ) → length us ≤ n → (q : List ℕ) → All (λ place. place < n) (group m q)
group_inside us m index n l q = λ k d h. let low = (index.sound q (get_or (group m q) k d) (Contains-get_or (group m q) k d h)).inside in omega (arith, low, l)

pub heads_none : (us : List EbUnit) → AreHeads us 0 []
heads_none us = record { sound = λ x i h. absurd (contains_none (x, i) h); full = λ x i l a. absurd (omega (arith, l)) }

module _ (us : List EbUnit) (i : ℕ) (heads : List (List ℕ × ℕ)) (old : AreHeads us i heads) where
  heads_other : (u : EbUnit) → u ≡ get_or us i u → ((c : Context) → u ≡ eb.Context c → ⊥) → AreHeads us (i + 1) (heads ++ [])
  heads_other u is none = subst (λ z. AreHeads us (i + 1) z) (sym (append-nil heads)) (record { sound = old.sound; full = λ x j l a. full x j a l (cases_eq j i) })
    where
      full : (x : List ℕ) (j : ℕ) → IsContextAt us j x → j < i + 1 → (j ≡ i) ⊎ (j ≡ i → ⊥) → Contains heads (x, j)
      full x j a l (inl e) = absurd (none a.context (is ∙ (ap (λ z. get_or us z u) (sym e) ∙ (get_or_default us j u (eb.Context a.context) a.inside ∙ sym a.is))))
      full x j a l (inr n) = old.full x j (omega (arith, l, n)) a

  heads_context : (c : Context) → i < length us → eb.Context c ≡ get_or us i (eb.Context c) → AreHeads us (i + 1) (heads ++ (c.name.name, i) ∷ [])
  heads_context c inside is = record {
    sound = λ x j h. sound x j (Contains-push_cases heads (c.name.name, i) (x, j) h);
    full = λ x j l a. full x j a l (cases_eq j i);
  }
    where
      sound : (x : List ℕ) (j : ℕ) → Contains heads (x, j) ⊎ (◌≡◌ {A = List ℕ × ℕ} (c.name.name, i) (x, j)) → IsContextAt us j x
      sound x j (inl h) = old.sound x j h
      sound x j (inr e) = subst (λ z. IsContextAt us z.1 z.0) e (record { context = c; inside = inside; is = is; named = refl })

      full : (x : List ℕ) (j : ℕ) → IsContextAt us j x → j < i + 1 → (j ≡ i) ⊎ (j ≡ i → ⊥) → Contains (heads ++ (c.name.name, i) ∷ []) (x, j)
      full x j a l (inl e) =
          let named : c.name.name ≡ x = one_name us i x (subst (λ z. IsContextAt us z x) e a) c is in
          subst (λ z. Contains (heads ++ (c.name.name, i) ∷ []) (x, z)) (sym e) (subst (λ z. Contains (heads ++ (c.name.name, i) ∷ []) (z, i)) named (Contains-push heads (c.name.name, i)))
      full x j a l (inr n) = Contains-append_left heads ((c.name.name, i) ∷ []) (x, j) (old.full x j (omega (arith, l, n)) a)

  pub heads_more : (u : EbUnit) (new : List (List ℕ × ℕ)) → i < length us → u ≡ get_or us i u → new ≡ heads ++ heads_of u i → AreHeads us (i + 1) new
  heads_more u new inside is e = subst (λ z. AreHeads us (i + 1) z) (sym e) (by_kind u is)
    where
      by_kind : (u : EbUnit) → u ≡ get_or us i u → AreHeads us (i + 1) (heads ++ heads_of u i)
      by_kind (eb.Context c) is = heads_context c inside is
      by_kind (eb.Machine m) is = heads_other (eb.Machine m) is (λ c h. absurd cc)
      by_kind (eb.Scope s) is = heads_other (eb.Scope s) is (λ c h. absurd cc)
      by_kind (eb.Queries qs) is = heads_other (eb.Queries qs) is (λ c h. absurd cc)

pub indexed : (us : List EbUnit) (heads : List (Bor (List ℕ) × ℕ)) (m : BTreeMap (Bor (List ℕ)) (Vec ℕ)) → AreHeads us (length us) (seen_heads heads)
    → ((q : List ℕ) → group m q ≡ map (λ p. p.1) (filter (λ p. bytes_eq q p.0.now) heads)) → IsIndex us m
indexed us heads m are by = record { sound = sound; full = full }
  where
    sound : (x : List ℕ) (i : ℕ) → Contains (group m x) i → IsContextAt us i x
    sound x i h =
        let r = contains_map (λ p. p.1) (filter (λ p. bytes_eq x p.0.now) heads) i (subst (λ z. Contains z i) (by x) h) in
        let k = filter_kept (λ p. bytes_eq x p.0.now) heads r.0 r.1 in
        let same : x ≡ r.0.0.now = (bytes_eq-Decides x r.0.0.now).0 k.1 in
        subst (λ z. IsContextAt us i z) (sym same) (subst (λ z. IsContextAt us z r.0.0.now) r.2 (are.sound r.0.0.now r.0.1 (map_contains (λ p. (p.0.now, p.1)) heads r.0 k.0)))

    full : (x : List ℕ) (i : ℕ) → IsContextAt us i x → Contains (group m x) i
    full x i a =
        let r = contains_map (λ p. (p.0.now, p.1)) heads (x, i) (are.full x i a.inside a) in
        let same : r.0.0.now ≡ x = ap (λ z. z.0) r.2 in
        let here : r.0.1 ≡ i = ap (λ z. z.1) r.2 in
        subst (λ z. Contains z i) (sym (by x)) (subst (λ z. Contains (map (λ p. p.1) (filter (λ p. bytes_eq x p.0.now) heads)) z) here
        (map_contains (λ p. p.1) (filter (λ p. bytes_eq x p.0.now) heads) r.0 (filter_keeps (λ p. bytes_eq x p.0.now) heads r.0 r.1 ((bytes_eq-Decides x r.0.0.now).1 (sym same)))))

pub group_some : (m : BTreeMap (Bor (List ℕ)) (Vec ℕ)) (name : List ℕ) (v : Vec ℕ) → Some v ≡ get_by (λ k. slice_cmp nat_cmp name k.now) m → group m name ≡ v.items
group_some m name v e = ap (λ o. option_map_or (λ g. g.items) o []) (sym e)

pub group_none : (m : BTreeMap (Bor (List ℕ)) (Vec ℕ)) (name : List ℕ) → None ≡ get_by (λ k. slice_cmp nat_cmp name k.now) m → group m name ≡ []
group_none m name e = ap (λ o. option_map_or (λ g. g.items) o []) (sym e)

some_same : (p x : ℕ) → Some p ≡ Some x → p ≡ x
some_same p x e = cc

pub first_in : (xs : List ℕ) (p : ℕ) → Some p ≡ slice_get xs 0 → Contains xs p
first_in [] p e = absurd cc
first_in (x ∷ xs) p e = subst (λ z. Contains (x ∷ xs) z) (sym (some_same p x e)) (contains_here x xs)
