-- A node stands below one thing alone, and after the node of which it is a part.
use Rattle.std.proofs.Common.{◌≡◌, ◌∙◌, refl, sym, ap, ℕ, zero, suc, ◌+◌, ◌<◌, List, [], ◌∷◌, ◌++◌, length, slice_get, Option, Some, None, MatchOption, arith}
use Rattle.std.specs.List.{flat_map}
use Rattle.eb_term.specs.declared.problem.Problem.{Problem}
use Rattle.eb_term.specs.declared.term.Term.{Term}
use Rattle.eb_term.specs.Nodes.{subterms, nodes_of}
use Rattle.problem_nodes.specs.declared.nodes.Above.{Above}
use Rattle.problem_nodes.specs.declared.nodes.Above.TheVariants as above
use Rattle.problem_nodes.specs.Places.{parts, size, starts, part_numbers, StandsBelow}
use Rattle.problem_nodes.specs.Aboves.{row, rows, aboves_of}
use Rattle.problem_nodes.proofs.PartLaws.{row_is, row-length, rows-length}
use Rattle.problem_nodes.proofs.PlaceLaws.{occurs}
use Rattle.problem_nodes.proofs.Stretches.{stands_get, get-first, get-second}

-- where a term begins, its row says what it stands below
record Begins (made : ℕ → Above) (place b : ℕ) (ts : List Term) (k : ℕ) (a : Above) : Type 0 where
  pub after : ℕ
  pub at : k ≡ b + after
  pub there : slice_get (rows made place b ts) after ≡ Some a

row_first : (t : Term) (k : ℕ) (a : Above) → slice_get (row t k a) 0 ≡ Some a
row_first t k a = ap (λ r. slice_get r 0) (row_is t k a)

begins : (made : ℕ → Above) (place b : ℕ) (ts : List Term) (nth k : ℕ) → slice_get (starts b ts) nth ≡ Some k → Begins made place b ts k (made (place + nth))
begins made place b [] nth k e = absurd (cc)
begins made place b (t ∷ ts) zero k e =
    let same : b ≡ k = cc in
    record {
      after = 0;
      at = omega (arith, same);
      there = get-first (row t b (made place)) (rows made (suc place) (b + size t) ts) 0 (made place) (row_first t b (made place)) ∙ ap (λ n. Some (made n)) (let q : place ≡ place + 0 = omega arith in q);
    }
begins made place b (t ∷ ts) (suc nth) k e =
    let r = begins made (suc place) (b + size t) ts nth k e in
    record {
      after = size t + r.after;
      at = omega (arith, r.at);
      there = ap (λ n. slice_get (row t b (made place) ++ rows made (suc place) (b + size t) ts) (n + r.after)) (sym (row-length t b (made place)))
          ∙ get-second (row t b (made place)) (rows made (suc place) (b + size t) ts) r.after
          ∙ r.there ∙ ap (λ n. Some (made n)) (let q : suc place + nth ≡ place + suc nth = omega arith in q);
    }

part_row : (p : Problem) (k number place : ℕ) (t : Term) → slice_get (nodes_of p) number ≡ Some t → slice_get (part_numbers number t) place ≡ Some k
    → slice_get (aboves_of p) k ≡ Some (above.Part number place)
part_row p k number place t e f =
    let o = occurs p number t e in
    let r = begins (above.Part number) 0 (suc number) (parts t) place k f in
    let within : slice_get (row t (0 + number) o.above) (suc r.after) ≡ Some (above.Part number (0 + place)) =
    ap (λ n. slice_get (row t n o.above) (suc r.after)) (let q : 0 + number ≡ number = omega arith in q) ∙ ap (λ bs. slice_get bs (suc r.after)) (row_is t number o.above) ∙ r.there in
    ap (slice_get (aboves_of p)) (let q : k ≡ number + suc r.after = omega (arith, r.at) in q)
    ∙ stands_get (aboves_of p) (row t (0 + number) o.above) number (suc r.after) (above.Part number (0 + place)) o.row within
    ∙ ap (λ n. Some (above.Part number n)) (let q : 0 + place ≡ place = omega arith in q)

-- what a node stands below is what its row says
pub below_row : (p : Problem) (k : ℕ) (a : Above) → StandsBelow p k a → slice_get (aboves_of p) k ≡ Some a
below_row p k (above.Definition place) h =
    let r = begins above.Definition 0 0 p.definitions place k h in
    ap (slice_get (aboves_of p)) (let q : k ≡ r.after = omega (arith, r.at) in q)
    ∙ get-first (rows above.Definition 0 0 p.definitions) (rows above.Fact 0 (length (flat_map subterms p.definitions)) p.facts) r.after (above.Definition (0 + place)) r.there
    ∙ ap (λ n. Some (above.Definition n)) (let q : 0 + place ≡ place = omega arith in q)
below_row p k (above.Fact place) h =
    let ds = rows above.Definition 0 0 p.definitions in
    let fs = rows above.Fact 0 (length (flat_map subterms p.definitions)) p.facts in
    let r = begins above.Fact 0 (length (flat_map subterms p.definitions)) p.facts place k h in
    ap (slice_get (aboves_of p)) (r.at ∙ ap (λ n. n + r.after) (sym (rows-length above.Definition 0 0 p.definitions)))
    ∙ get-second ds fs r.after ∙ r.there ∙ ap (λ n. Some (above.Fact n)) (let q : 0 + place ≡ place = omega arith in q)
below_row p k (above.Part number place) h = at (slice_get (nodes_of p) number) refl h where
  at : (o : Option Term) → slice_get (nodes_of p) number ≡ o → MatchOption o ⊥ (λ t. slice_get (part_numbers number t) place ≡ Some k) → slice_get (aboves_of p) k ≡ Some (above.Part number place)
  at None e g = absurd g
  at (Some t) e g = part_row p k number place t e g

pub once : (p : Problem) (k : ℕ) (a b : Above) → StandsBelow p k a → StandsBelow p k b → a ≡ b
once p k a b h g = same a b (sym (below_row p k a h) ∙ below_row p k b g) where
  same : (x y : Above) → Some x ≡ Some y → x ≡ y
  same x y e = cc

-- a part begins after its node
later : (b : ℕ) (ts : List Term) (nth k : ℕ) → slice_get (starts (suc b) ts) nth ≡ Some k → b < k
later b ts nth k e = let r = begins above.Fact 0 (suc b) ts nth k e in omega (arith, r.at)

pub below : (p : Problem) (k number place : ℕ) → StandsBelow p k (above.Part number place) → number < k
below p k number place h = at (slice_get (nodes_of p) number) h where
  at : (o : Option Term) → MatchOption o ⊥ (λ t. slice_get (part_numbers number t) place ≡ Some k) → number < k
  at None g = absurd g
  at (Some t) g = later number (parts t) place k g
