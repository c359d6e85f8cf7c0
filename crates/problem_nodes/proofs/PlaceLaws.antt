-- The laws of the places of nodes: definitions, facts and parts stand at their numbers.
use Rattle.std.proofs.Common.{◌≡◌, ◌∙◌, refl, sym, ap, subst, ℕ, zero, suc, ◌+◌, List, [], ◌∷◌, ◌++◌, length, slice_get, Some, arith}
use Rattle.std.specs.List.{flat_map, AllByRecursion}
use Rattle.eb_term.specs.declared.problem.Problem.{Problem}
use Rattle.eb_term.specs.declared.term.Term.{Term}
use Rattle.eb_term.specs.Nodes.{subterms, nodes_of}
use Rattle.problem_nodes.specs.declared.nodes.Above.{Above}
use Rattle.problem_nodes.specs.declared.nodes.Above.TheVariants as above
use Rattle.problem_nodes.specs.Places.{parts, size, starts, part_numbers, definition_roots, fact_roots}
use Rattle.problem_nodes.specs.Aboves.{row, rows, aboves_of}
use Rattle.problem_nodes.proofs.PartLaws.{ind_parts, subterms_are, row_is, row-length, rows-length}
use Rattle.problem_nodes.proofs.Stretches.{Stands, stands_whole, stands_by, stands_first, stands_left, stands_right, stands_get, in_first, in_second, is_in}

-- ---- the numbers of terms that follow each other

-- a term's nodes stand from its number on
pub at_start : (ts : List Term) (b place k : ℕ) (t : Term) → slice_get ts place ≡ Some t → slice_get (starts b ts) place ≡ Some k
    → (j : ℕ) × ((k ≡ b + j) × Stands (flat_map subterms ts) j (subterms t))
at_start [] b place k t e f = absurd (cc)
at_start (u ∷ ts) b zero k t e f =
    let same : u ≡ t = cc in
    (0, (omega (arith, (let g : b ≡ k = cc in g)), subst (λ v. Stands (subterms u ++ flat_map subterms ts) 0 (subterms v)) same (stands_first (subterms u) (flat_map subterms ts))))
at_start (u ∷ ts) b (suc place) k t e f =
    let r = at_start ts (b + size u) place k t e f in
    (size u + r.0, (omega (arith, r.1.0), stands_right (subterms u) (flat_map subterms ts) (subterms t) r.0 (size u + r.0) r.1.1 refl))

pub itself : (t : Term) → slice_get (subterms t) 0 ≡ Some t
itself t = ap (λ ts. slice_get ts 0) (subterms_are t)

-- what stands from its number on has the term there
stands_there : (nodes : List Term) (j k : ℕ) (t : Term) → Stands nodes j (subterms t) → k ≡ j → slice_get nodes k ≡ Some t
stands_there nodes j k t s e =
    let f : k ≡ j + 0 = omega arith in
    ap (slice_get nodes) f ∙ stands_get nodes (subterms t) j 0 t s (itself t)

pub definition_stands : (p : Problem) (place k : ℕ) (t : Term) → slice_get p.definitions place ≡ Some t → slice_get (definition_roots p) place ≡ Some k → slice_get (nodes_of p) k ≡ Some t
definition_stands p place k t e f =
    let r = at_start p.definitions 0 place k t e f in
    stands_there (nodes_of p) r.0 k t (stands_left (flat_map subterms p.definitions) (flat_map subterms p.facts) (subterms t) r.0 r.1.1) (omega (arith, r.1.0))

pub fact_stands : (p : Problem) (place k : ℕ) (t : Term) → slice_get p.facts place ≡ Some t → slice_get (fact_roots p) place ≡ Some k → slice_get (nodes_of p) k ≡ Some t
fact_stands p place k t e f =
    let r = at_start p.facts (length (flat_map subterms p.definitions)) place k t e f in
    stands_there (nodes_of p) k k t (stands_right (flat_map subterms p.definitions) (flat_map subterms p.facts) (subterms t) r.0 k r.1.1 r.1.0) refl

-- ---- the nodes of a node stand from its number on, and so does what they stand below

pub record Occurs (ts : List Term) (bs : List Above) (k j : ℕ) (u : Term) : Type 0 where
  pub nodes : Stands ts j (subterms u)
  pub above : Above
  pub row : Stands bs j (row u (k + j) above)

abbrev Occurring : Term → Type 0
Occurring t = (k : ℕ) (a : Above) (j : ℕ) (u : Term) → slice_get (subterms t) j ≡ Some u → Occurs (subterms t) (row t k a) k j u

occurs_among : (made : ℕ → Above) (place k : ℕ) (ts : List Term) → AllByRecursion Occurring ts → (j : ℕ) (u : Term)
    → slice_get (flat_map subterms ts) j ≡ Some u → Occurs (flat_map subterms ts) (rows made place k ts) k j u
occurs_among made place k [] all j u e = absurd (cc)
occurs_among made place k (t ∷ ts) all j u e = elim (is_in (subterms t) (flat_map subterms ts) j u e) [
  | in_first l h ↦
      let o = all.0 k (made place) j u h in
      record {
        nodes = stands_left (subterms t) (flat_map subterms ts) (subterms u) j o.nodes;
        above = o.above;
        row = stands_left (row t k (made place)) (rows made (suc place) (k + size t) ts) (row u (k + j) o.above) j o.row;
      }
  | in_second i q h ↦
      let o = occurs_among made (suc place) (k + size t) ts all.1 i u h in
      let there : (k + size t) + i ≡ k + j = omega arith in
      record {
        nodes = stands_right (subterms t) (flat_map subterms ts) (subterms u) i j o.nodes q;
        above = o.above;
        row = stands_right (row t k (made place)) (rows made (suc place) (k + size t) ts) (row u (k + j) o.above) i j
            (subst (λ n. Stands (rows made (suc place) (k + size t) ts) i (row u n o.above)) there o.row)
            (q ∙ ap (λ n. n + i) (sym (row-length t k (made place))));
      }
]

occurs_step : (t : Term) → AllByRecursion Occurring (parts t) → Occurring t
occurs_step t all k a zero u e =
    let same : t ≡ u = (let f : Some t ≡ Some u = sym (itself t) ∙ e in cc) in
    let here : k ≡ k + 0 = omega arith in
    subst (λ v. Occurs (subterms t) (row t k a) k 0 v) same (record {
      nodes = stands_whole (subterms t);
      above = a;
      row = subst (λ n. Stands (row t k a) 0 (row t n a)) here (stands_whole (row t k a));
    })
occurs_step t all k a (suc i) u e =
    let o = occurs_among (above.Part k) 0 (suc k) (parts t) all i u (ap (λ ts. slice_get ts (suc i)) (sym (subterms_are t)) ∙ e) in
    let there : suc k + i ≡ k + suc i = omega arith in
    record {
      nodes = stands_by (subterms t) (t ∷ flat_map subterms (parts t)) (subterms u) (suc i) (subterms_are t)
          (stands_right (t ∷ []) (flat_map subterms (parts t)) (subterms u) i (suc i) o.nodes (omega arith));
      above = o.above;
      row = stands_by (row t k a) (a ∷ rows (above.Part k) 0 (suc k) (parts t)) (row u (k + suc i) o.above) (suc i) (row_is t k a)
          (stands_right (a ∷ []) (rows (above.Part k) 0 (suc k) (parts t)) (row u (k + suc i) o.above) i (suc i)
          (subst (λ n. Stands (rows (above.Part k) 0 (suc k) (parts t)) i (row u n o.above)) there o.row) (omega arith));
    }

occurring : (t : Term) → Occurring t
occurring = ind_parts Occurring occurs_step

all_occurring : (ts : List Term) → AllByRecursion Occurring ts
all_occurring [] = tt
all_occurring (t ∷ ts) = (occurring t, all_occurring ts)

pub occurs : (p : Problem) (j : ℕ) (u : Term) → slice_get (nodes_of p) j ≡ Some u → Occurs (nodes_of p) (aboves_of p) 0 j u
occurs p j u e =
    let ds = flat_map subterms p.definitions in
    let fs = flat_map subterms p.facts in
    let of_ds = rows above.Definition 0 0 p.definitions in
    let of_fs = rows above.Fact 0 (length ds) p.facts in
    elim (is_in ds fs j u e) [
      | in_first l h ↦
          let o = occurs_among above.Definition 0 0 p.definitions (all_occurring p.definitions) j u h in
          record {
            nodes = stands_left ds fs (subterms u) j o.nodes;
            above = o.above;
            row = stands_left of_ds of_fs (row u (0 + j) o.above) j o.row;
          }
      | in_second i q h ↦
          let o = occurs_among above.Fact 0 (length ds) p.facts (all_occurring p.facts) i u h in
          let there : length ds + i ≡ 0 + j = omega arith in
          record {
            nodes = stands_right ds fs (subterms u) i j o.nodes q;
            above = o.above;
            row = stands_right of_ds of_fs (row u (0 + j) o.above) i j (subst (λ n. Stands of_fs i (row u n o.above)) there o.row)
                (q ∙ ap (λ n. n + i) (sym (rows-length above.Definition 0 0 p.definitions)));
          }
    ]

-- ---- parts

pub part_stands : (p : Problem) (number place k : ℕ) (t part : Term) → slice_get (nodes_of p) number ≡ Some t → slice_get (parts t) place ≡ Some part
    → slice_get (part_numbers number t) place ≡ Some k → slice_get (nodes_of p) k ≡ Some part
part_stands p number place k t part e f g =
    let r = at_start (parts t) (suc number) place k part f g in
    let there : k ≡ number + suc r.0 = omega (arith, r.1.0) in
    let below = stands_right (t ∷ []) (flat_map subterms (parts t)) (subterms part) r.0 (suc r.0) r.1.1 (omega arith) in
    let within = stands_get (subterms t) (subterms part) (suc r.0) 0 part (stands_by (subterms t) (t ∷ flat_map subterms (parts t)) (subterms part) (suc r.0) (subterms_are t) below) (itself part) in
    let same : suc r.0 + 0 ≡ suc r.0 = omega arith in
    ap (slice_get (nodes_of p)) there
    ∙ stands_get (nodes_of p) (subterms t) number (suc r.0) part (occurs p number t e).nodes (ap (slice_get (subterms t)) (sym same) ∙ within)
