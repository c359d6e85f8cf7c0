-- What stands in the rows of a problem's nodes: what each stands below, and where its nodes end.
use Rattle.std.proofs.Common.{◌≡◌, ◌∙◌, refl, sym, ap, subst, ℕ, zero, suc, ◌+◌, List, [], ◌∷◌, length, slice_get, Some, MatchOption, ◌⊎◌, inl, inr, arith}
use Rattle.std.specs.List.{flat_map, AllByRecursion}
use Rattle.eb_term.specs.declared.problem.Problem.{Problem}
use Rattle.eb_term.specs.declared.term.Term.{Term}
use Rattle.eb_term.specs.Nodes.{subterms, nodes_of}
use Rattle.problem_nodes.specs.declared.nodes.Above.{Above}
use Rattle.problem_nodes.specs.declared.nodes.Above.TheVariants as above
use Rattle.problem_nodes.specs.Places.{parts, size, starts, part_numbers, StandsBelow}
use Rattle.problem_nodes.specs.Aboves.{row, rows, aboves_of}
use Rattle.problem_nodes.specs.steps.Lists.{ends_from}
use Rattle.problem_nodes.proofs.PartLaws.{ind_parts, subterms_are, row_is, row-length, rows-length}
use Rattle.problem_nodes.proofs.PlaceLaws.{itself}
use Rattle.problem_nodes.proofs.Stretches.{Stands, stands_whole, stands_first, stands_right, stands_get, first_stands, second_stands, in_first, in_second, is_in}

-- the node is this part of one of the nodes
record IsPart (nodes : List Term) (k : ℕ) (b : Above) : Type 0 where
  pub number : ℕ
  pub place : ℕ
  pub node : Term
  pub is : b ≡ above.Part number place
  pub there : slice_get nodes number ≡ Some node
  pub part : slice_get (part_numbers number node) place ≡ Some k

-- it is one of terms that follow each other
record IsOneOf (made : ℕ → Above) (place k : ℕ) (ts : List Term) (at : ℕ) (b : Above) : Type 0 where
  pub nth : ℕ
  pub start : slice_get (starts k ts) nth ≡ Some at
  pub is : b ≡ made (place + nth)

abbrev Below : List Term → Term → Type 0
Below nodes t = (k : ℕ) (a : Above) → Stands nodes k (subterms t) → (j : ℕ) (b : Above) → slice_get (row t k a) j ≡ Some b
    → ((j ≡ 0) × (b ≡ a)) ⊎ IsPart nodes (k + j) b

below_among : (nodes : List Term) (made : ℕ → Above) (place k : ℕ) (ts : List Term) → AllByRecursion (Below nodes) ts → Stands nodes k (flat_map subterms ts)
    → (i : ℕ) (b : Above) → slice_get (rows made place k ts) i ≡ Some b → IsOneOf made place k ts (k + i) b ⊎ IsPart nodes (k + i) b
below_among nodes made place k [] all s i b e = absurd (cc)
below_among nodes made place k (t ∷ ts) all s i b e = elim (is_in (row t k (made place)) (rows made (suc place) (k + size t) ts) i b e) [
  | in_first l h ↦ elim (all.0 k (made place) (first_stands nodes (subterms t) (flat_map subterms ts) k s) i b h) [
    | inl w ↦ inl (record {
      nth = 0;
      start = ap Some (let q : k ≡ k + i = omega (arith, w.0) in q);
      is = w.1 ∙ ap made (let q : place ≡ place + 0 = omega arith in q);
    })
    | inr w ↦ inr w
  ]
  | in_second j q h ↦
      let there : (k + size t) + j ≡ k + i = omega (arith, q, row-length t k (made place)) in
      elim (below_among nodes made (suc place) (k + size t) ts all.1 (second_stands nodes (subterms t) (flat_map subterms ts) k (k + size t) s refl) j b h) [
        | inl w ↦ inl (record {
          nth = suc w.nth;
          start = w.start ∙ ap Some there;
          is = w.is ∙ ap made (let q : suc place + w.nth ≡ place + suc w.nth = omega arith in q);
        })
        | inr w ↦ inr (subst (λ n. IsPart nodes n b) there w)
      ]
]

below_step : (nodes : List Term) (t : Term) → AllByRecursion (Below nodes) (parts t) → Below nodes t
below_step nodes t all k a s zero b e = inl (refl, (let q : Some a ≡ Some b = ap (λ bs. slice_get bs 0) (sym (row_is t k a)) ∙ e in cc))
below_step nodes t all k a s (suc i) b e =
    let there : suc k + i ≡ k + suc i = omega arith in
    let here : k ≡ k + 0 = omega arith in
    let whole : Stands nodes k (t ∷ flat_map subterms (parts t)) = subst (Stands nodes k) (subterms_are t) s in
    elim (below_among nodes (above.Part k) 0 (suc k) (parts t) all (second_stands nodes (t ∷ []) (flat_map subterms (parts t)) k (suc k) whole (omega arith))
    i b (ap (λ bs. slice_get bs (suc i)) (sym (row_is t k a)) ∙ e)) [
      | inl w ↦ inr (record {
        number = k;
        place = w.nth;
        node = t;
        is = w.is ∙ ap (above.Part k) (let q : 0 + w.nth ≡ w.nth = omega arith in q);
        there = ap (slice_get nodes) here ∙ stands_get nodes (subterms t) k 0 t s (itself t);
        part = w.start ∙ ap Some there;
      })
      | inr w ↦ inr (subst (λ n. IsPart nodes n b) there w)
    ]

all_below : (nodes : List Term) (ts : List Term) → AllByRecursion (Below nodes) ts
all_below nodes [] = tt
all_below nodes (t ∷ ts) = (ind_parts (Below nodes) (below_step nodes) t, all_below nodes ts)

of_part : (p : Problem) (k n : ℕ) (b : Above) → n ≡ k → IsPart (nodes_of p) n b → StandsBelow p k b
of_part p k n b e w =
    subst (StandsBelow p k) (sym w.is) (subst (λ o. MatchOption o ⊥ (λ t. slice_get (part_numbers w.number t) w.place ≡ Some k)) (sym w.there) (w.part ∙ ap Some e))

-- each node stands below what its row says
pub row_stands : (p : Problem) (k : ℕ) (b : Above) → slice_get (aboves_of p) k ≡ Some b → StandsBelow p k b
row_stands p k b e =
    let ds = flat_map subterms p.definitions in
    let fs = flat_map subterms p.facts in
    let nodes = nodes_of p in
    elim (is_in (rows above.Definition 0 0 p.definitions) (rows above.Fact 0 (length ds) p.facts) k b e) [
      | in_first l h ↦
          let here : 0 + k ≡ k = omega arith in
          elim (below_among nodes above.Definition 0 0 p.definitions (all_below nodes p.definitions) (stands_first ds fs) k b h) [
            | inl w ↦ subst (StandsBelow p k) (sym (w.is ∙ ap above.Definition (let q : 0 + w.nth ≡ w.nth = omega arith in q))) (w.start ∙ ap Some here)
            | inr w ↦ of_part p k (0 + k) b here w
          ]
      | in_second j q h ↦
          let here : length ds + j ≡ k = omega (arith, q, rows-length above.Definition 0 0 p.definitions) in
          let within : Stands nodes (length ds) fs = stands_right ds fs fs 0 (length ds) (stands_whole fs) (omega arith) in
          elim (below_among nodes above.Fact 0 (length ds) p.facts (all_below nodes p.facts) within j b h) [
            | inl w ↦ subst (StandsBelow p k) (sym (w.is ∙ ap above.Fact (let q : 0 + w.nth ≡ w.nth = omega arith in q))) (w.start ∙ ap Some here)
            | inr w ↦ of_part p k (length ds + j) b here w
          ]
    ]

-- ---- ends

pub end_is : (k : ℕ) (ts : List Term) (j end : ℕ) (t : Term) → slice_get (ends_from k ts) j ≡ Some end → slice_get ts j ≡ Some t → end ≡ (k + j) + size t
end_is k [] j end t e f = absurd (cc)
end_is k (u ∷ ts) zero end t e f =
    let same : u ≡ t = cc in
    let q : k + size u ≡ end = cc in
    let s : k ≡ k + 0 = omega arith in
    sym q ∙ ap (λ v. k + size v) same ∙ ap (λ n. n + size t) s
end_is k (u ∷ ts) (suc j) end t e f = end_is (suc k) ts j end t e f ∙ ap (λ n. n + size t) (let q : suc k + j ≡ k + suc j = omega arith in q)
