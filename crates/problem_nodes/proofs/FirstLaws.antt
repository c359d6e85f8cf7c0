-- The first parts of a node stand right behind it.
use Rattle.std.proofs.Common.{◌≡◌, ◌∙◌, refl, sym, ap, ℕ, zero, suc, ◌+◌, ◌<◌, ◌≤◌, List, [], ◌∷◌, length, slice_get, Option, Some, None, MatchOption, arith}
use Rattle.eb_term.specs.declared.problem.Problem.{Problem}
use Rattle.eb_term.specs.declared.term.Term.{Term}
use Rattle.eb_term.specs.Nodes.{nodes_of}
use Rattle.problem_nodes.specs.declared.nodes.Above.TheVariants as above
use Rattle.problem_nodes.specs.Places.{parts, size, starts, part_numbers, StandsBelow, IsEnd, HasParts}
use Rattle.problem_nodes.proofs.PlaceLaws.{part_stands}

first_start : (k : ℕ) (ts : List Term) → 1 ≤ length ts → slice_get (starts (suc k) ts) 0 ≡ Some (k + 1)
first_start k [] h = absurd (omega (arith, h))
first_start k (t ∷ ts) h = ap Some (let q : suc k ≡ k + 1 = omega arith in q)

second_start : (k : ℕ) (ts : List Term) (t : Term) (end : ℕ) → 2 ≤ length ts → slice_get ts 0 ≡ Some t → end ≡ (k + 1) + size t → slice_get (starts (suc k) ts) 1 ≡ Some end
second_start k [] t end h e f = absurd (omega (arith, h))
second_start k (a ∷ []) t end h e f = absurd (omega (arith, h))
second_start k (a ∷ b ∷ ts) t end h e f =
    let same : a ≡ t = cc in
    ap Some ((let q : suc k + size a ≡ (k + 1) + size a = omega arith in q) ∙ ap (λ u. (k + 1) + size u) same ∙ sym f)

pub fewer : (p : Problem) (k : ℕ) → HasParts p k 2 → HasParts p k 1
fewer p k h = at (slice_get (nodes_of p) k) h where
  at : (o : Option Term) → MatchOption o ⊥ (λ t. 2 ≤ length (parts t)) → MatchOption o ⊥ (λ t. 1 ≤ length (parts t))
  at None g = g
  at (Some t) g = omega (arith, g)

pub first_below : (p : Problem) (k : ℕ) → HasParts p k 1 → StandsBelow p (k + 1) (above.Part k 0)
first_below p k h = at (slice_get (nodes_of p) k) h where
  at : (o : Option Term) → MatchOption o ⊥ (λ t. 1 ≤ length (parts t)) → MatchOption o ⊥ (λ t. slice_get (part_numbers k t) 0 ≡ Some (k + 1))
  at None g = g
  at (Some t) g = first_start k (parts t) g

-- a part is a node
first_of : (ts : List Term) → 1 ≤ length ts → (t : Term) × (slice_get ts 0 ≡ Some t)
first_of [] h = absurd (omega (arith, h))
first_of (t ∷ ts) h = (t, refl)

there : (nodes : List Term) (k : ℕ) (t : Term) → slice_get nodes k ≡ Some t → k < length nodes
there [] k t e = absurd (cc)
there (u ∷ nodes) zero t e = omega arith
there (u ∷ nodes) (suc k) t e = let h = there nodes k t e in omega (arith, h)

module _ (p : Problem) (k : ℕ) where
  first_node : (first : ℕ) (o : Option Term) → slice_get (nodes_of p) k ≡ o → MatchOption o ⊥ (λ t. 1 ≤ length (parts t)) → MatchOption o ⊥ (λ t. slice_get (part_numbers k t) 0 ≡ Some first) → first < length (nodes_of p)
  first_node first None e g s = absurd g
  first_node first (Some t) e g s = let a = first_of (parts t) g in there (nodes_of p) first a.0 (part_stands p k 0 first t a.0 e a.1 s)

  pub first_within : (first : ℕ) → HasParts p k 1 → StandsBelow p first (above.Part k 0) → first < length (nodes_of p)
  first_within first g s = first_node first (slice_get (nodes_of p) k) refl g s

  second_at : (first end : ℕ) (o : Option Term) → slice_get (nodes_of p) k ≡ o → MatchOption o ⊥ (λ t. 2 ≤ length (parts t)) → MatchOption o ⊥ (λ t. slice_get (part_numbers k t) 0 ≡ Some first)
      → IsEnd p first end → MatchOption o ⊥ (λ t. slice_get (part_numbers k t) 1 ≡ Some end)
  second_at first end None e g s h = g
  second_at first end (Some t) e g s h =
      let a = first_of (parts t) (omega (arith, g)) in
      let node = part_stands p k 0 first t a.0 e a.1 s in
      let start : first ≡ k + 1 = some_is first (k + 1) (sym s ∙ first_start k (parts t) (omega (arith, g))) in
      second_start k (parts t) a.0 end g a.1 (end_of (slice_get (nodes_of p) first) a.0 node h ∙ ap (λ n. n + size a.0) start)
    where
      some_is : (x y : ℕ) → Some x ≡ Some y → x ≡ y
      some_is x y e = cc

      end_of : (o : Option Term) (u : Term) → o ≡ Some u → MatchOption o ⊥ (λ v. end ≡ first + size v) → end ≡ first + size u
      end_of None u e h = absurd h
      end_of (Some v) u e h = let same : v ≡ u = cc in h ∙ ap (λ w. first + size w) same

  pub second_below : (first end : ℕ) → HasParts p k 2 → StandsBelow p first (above.Part k 0) → IsEnd p first end → StandsBelow p end (above.Part k 1)
  second_below first end g s h = second_at first end (slice_get (nodes_of p) k) refl g s h
