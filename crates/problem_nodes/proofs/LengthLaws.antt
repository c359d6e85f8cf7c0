-- There is one entry for each node, definition and fact, and what stands at a place of the lists is what is asked for.
use Rattle.std.proofs.Common.{◌≡◌, ◌∙◌, ℕ, zero, suc, ◌+◌, ◌<◌, List, [], ◌∷◌, length, slice_get, Option, Some, None, refl, sym, ap, ap₂, subst, arith}
use Rattle.std.proofs.lemmas.List.{length-append}
use Rattle.std.specs.List.{flat_map}
use Rattle.eb_term.specs.declared.problem.Problem.{Problem}
use Rattle.eb_term.specs.declared.term.Term.{Term}
use Rattle.eb_term.specs.Nodes.{subterms, nodes_of}
use Rattle.problem_nodes.specs.declared.nodes.Above.TheVariants as above
use Rattle.problem_nodes.specs.Places.{size, starts, IsEnd}
use Rattle.problem_nodes.specs.Aboves.{rows, aboves_of}
use Rattle.problem_nodes.specs.steps.Lists.{ends_from}
use Rattle.problem_nodes.proofs.PartLaws.{rows-length}
use Rattle.problem_nodes.proofs.AboveLaws.{end_is}

pub ends-length : (k : ℕ) (ts : List Term) → length (ends_from k ts) ≡ length ts
ends-length k [] = refl
ends-length k (t ∷ ts) = ap suc (ends-length (suc k) ts)

pub starts-length : (k : ℕ) (ts : List Term) → length (starts k ts) ≡ length ts
starts-length k [] = refl
starts-length k (t ∷ ts) = ap suc (starts-length (k + size t) ts)

pub aboves-length : (p : Problem) → length (aboves_of p) ≡ length (nodes_of p)
aboves-length p =
    let ds = flat_map subterms p.definitions in
    let fs = flat_map subterms p.facts in
    length-append (rows above.Definition 0 0 p.definitions) (rows above.Fact 0 (length ds) p.facts)
    ∙ ap₂ (λ m n. m + n) (rows-length above.Definition 0 0 p.definitions) (rows-length above.Fact 0 (length ds) p.facts)
    ∙ sym (length-append ds fs)

pub within : {A : Type 0} (items xs : List A) (k n : ℕ) → items ≡ xs → length xs ≡ n → k < n → k < length items
within items xs k n e f h = subst (λ ys. k < length ys) (sym e) (subst (λ m. k < m) (sym f) h)

no_end : (k : ℕ) (ts : List Term) (j end : ℕ) → slice_get (ends_from k ts) j ≡ Some end → slice_get ts j ≡ None → ⊥
no_end k [] j end e f = absurd (cc)
no_end k (t ∷ ts) zero end e f = absurd (cc)
no_end k (t ∷ ts) (suc j) end e f = no_end (suc k) ts j end e f

pub ends_there : (p : Problem) (k end : ℕ) → slice_get (ends_from 0 (nodes_of p)) k ≡ Some end → IsEnd p k end
ends_there p k end e = at (slice_get (nodes_of p) k) refl where
  at : (o : Option Term) → slice_get (nodes_of p) k ≡ o → IsEnd p k end
  at None f = rw f (no_end 0 (nodes_of p) k end e f)
  at (Some t) f = rw f (end_is 0 (nodes_of p) k end t e f ∙ ap (λ n. n + size t) (let q : 0 + k ≡ k = omega arith in q))
