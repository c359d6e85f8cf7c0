use Rattle.std.proofs.Common.{arith, ◌≡◌, ◌∙◌, sym, ℕ, ◌≤◌, ◌<◌, List, [], ◌∷◌, drop, length, refl}
use Rattle.std.proofs.lemmas.List.{drop_all, length-drop}
use Rattle.std.specs.declared.cmp.Ordering.TheVariants.{Less}
use Rattle.eb_value.specs.declared.value.Value.{Value}
use Rattle.eb_value.specs.Values.{compare_all}
use Rattle.domain_store.proofs.search.order_of.Goals as goal

-- the empty list stands before any other
shorter : (ys : List Value) → 0 < length ys → compare_all [] ys ≡ Less
shorter [] h = absurd (omega arith)
shorter (y ∷ ys) h = refl

-- a list that is passed whole stands before one that isn't
passed : (xs ys : List Value) (i : ℕ) → length xs ≤ i → i < length ys → compare_all (drop i xs) (drop i ys) ≡ Less
passed xs ys i h lt = rw drop_all (shorter (drop i ys) (omega (arith, length-drop i ys)))

pub returns-then-a-b : goal.returns-then-a-b
returns-then-a-b c = sym (c.loop-i.invariant.1 ∙ passed c.args.a.now c.args.b.now c.loop-i.i (omega arith) (omega arith))
