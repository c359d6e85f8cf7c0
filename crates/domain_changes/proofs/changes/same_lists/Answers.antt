use Rattle.std.proofs.Common.{arith, ◌≡◌, ◌∙◌, sym, ℕ, ◌+◌, ◌≤◌, nat_eq, List, [], ◌∷◌, drop, length}
use Rattle.std.proofs.lemmas.List.{at_drop_all, length-drop}
use Rattle.std.proofs.lemmas.Bool.Decides.{nat_tests}
use Rattle.eb_value.specs.declared.value.Value.{Value}
use Rattle.domain_changes.specs.steps.SameDomains as spec
use Rattle.domain_changes.proofs.changes.same_lists.Goals as goal

-- a list that is passed whole equals another that has nothing left
at_end : (m n : ℕ) (ys : List Value) → n ≡ m + length ys → spec.same_lists [] ys ≡ nat_eq m n
at_end m n [] h = grind (arith, nat_tests)
at_end m n (y ∷ ys) h = grind (arith, nat_tests)

passed : (xs ys : List Value) (i : ℕ) → length xs ≤ i → i ≤ length xs → i ≤ length ys → spec.same_lists (drop i xs) (drop i ys) ≡ nat_eq (length xs) (length ys)
passed xs ys i h k l = at_drop_all (λ rest. spec.same_lists rest (drop i ys)) xs i h ∙ at_end (length xs) (length ys) (drop i ys) (omega (arith, length-drop i ys))

pub returns : goal.returns
returns c = sym (c.loop-i.invariant.1 ∙ passed c.args.xs.now c.args.ys.now c.loop-i.i (omega arith) (omega arith) (omega arith))
