-- Solutions by stores in which each number has its type.
use Rattle.std.proofs.Common.{◌≡◌, ◌∙◌, ℕ, zero, suc, ◌<◌, ◌≤◌, List, [], ◌∷◌, ◌++◌, length, refl, sym, ap, ap₂, subst, arith, length-append, ◌⊎◌, inl, inr}
use Rattle.std.specs.Prelude.{Some, None, slice_get}
use Rattle.std.proofs.lemmas.Bool.{cases_eq}
use Rattle.eb_value.specs.declared.types.EbType.{EbType}
use Rattle.eb_value.specs.Types.{integer, boolean}
use Rattle.type_equations.specs.declared.equation.Equation.{Equation}
use Rattle.type_equations.specs.declared.marks.Mark.{Mark}
use Rattle.type_equations.specs.declared.store.Entry.{Entry}
use Rattle.type_equations.specs.steps.Sizes.{weight}
use Rattle.type_equations.specs.Equations.{types_below, IsOnlySolution, HaveNone, HaveSeveral}
use Rattle.type_equations.specs.Stores.{SaysTheSame}
use Rattle.type_equations.specs.Solutions.{type_at, solution_of}
use Rattle.type_equations.specs.steps.Merging.{Says}
use Rattle.type_equations.specs.steps.Settling.{AreSettled, AreFixed, IsLoose, Circular}
use Rattle.type_equations.proofs.WrittenLaws.{solved_agrees}

-- A part of a number of a solution is there, and weighs less.
pub record IsBehind (es : List Entry) (k p : ℕ) : Type 0 where
  pub there : p < length es
  pub lighter : weight (type_at integer es) (length es) p < weight (type_at integer es) (length es) k

pub types_count : (n : ℕ) (σ : ℕ → EbType) → length (types_below n σ) ≡ n
types_count zero σ = refl
types_count (suc n) σ = let one = length-append (types_below n σ) (σ n ∷ []) in let before = types_count n σ in omega (arith, one, before)

get_last : (xs : List EbType) (x : EbType) (n : ℕ) → length xs ≡ n → slice_get (xs ++ (x ∷ [])) n ≡ Some x
get_last [] x zero e = refl
get_last [] x (suc n) e = absurd (omega (arith, e))
get_last (y ∷ xs) x zero e = absurd (omega (arith, e))
get_last (y ∷ xs) x (suc n) e = get_last xs x n (omega (arith, e))

get_before : (xs : List EbType) (x : EbType) (k : ℕ) → k < length xs → slice_get (xs ++ (x ∷ [])) k ≡ slice_get xs k
get_before [] x k h = absurd (omega (arith, h))
get_before (y ∷ xs) x zero h = refl
get_before (y ∷ xs) x (suc k) h = get_before xs x k (omega (arith, h))

get_type : (n k : ℕ) (σ : ℕ → EbType) → (k ≡ n) ⊎ (k ≡ n → ⊥) → k < suc n → ((k < n) → slice_get (types_below n σ) k ≡ Some (σ k)) → slice_get (types_below (suc n) σ) k ≡ Some (σ k)
get_type n k σ (inl e) h before = subst (λ z. slice_get (types_below (suc n) σ) z ≡ Some (σ z)) (sym e) (get_last (types_below n σ) (σ n) n (types_count n σ))
get_type n k σ (inr ne) h before =
    let less : k < n = omega (arith, h, ne) in
    get_before (types_below n σ) (σ n) k (omega (arith, less, types_count n σ)) ∙ before less

pub type_below : (n k : ℕ) (σ : ℕ → EbType) → k < n → slice_get (types_below n σ) k ≡ Some (σ k)
type_below zero k σ h = absurd (omega (arith, h))
type_below (suc n) k σ h = get_type n k σ (cases_eq k n) h (type_below n k σ)

get_past : (xs : List EbType) (k : ℕ) → length xs ≤ k → slice_get xs k ≡ None
get_past [] k h = refl
get_past (x ∷ xs) zero h = absurd (omega (arith, h))
get_past (x ∷ xs) (suc k) h = get_past xs k (omega (arith, h))

pub type_past : (n k : ℕ) (σ : ℕ → EbType) → n ≤ k → slice_get (types_below n σ) k ≡ None
type_past n k σ h = get_past (types_below n σ) k (omega (arith, h, types_count n σ))

-- the same types below a number, and the same lists
pub same_below : (n : ℕ) (σ τ : ℕ → EbType) → ((k : ℕ) → k < n → σ k ≡ τ k) → types_below n σ ≡ types_below n τ
same_below zero σ τ h = refl
same_below (suc n) σ τ h = ap₂ (λ xs x. xs ++ (x ∷ [])) (same_below n σ τ (λ k less. h k (omega (arith, less)))) (h n (omega arith))

pub below_same : (n k : ℕ) (σ τ : ℕ → EbType) → k < n → types_below n σ ≡ types_below n τ → σ k ≡ τ k
below_same n k σ τ h e = let both : Some (σ k) ≡ Some (τ k) = sym (type_below n k σ h) ∙ ap (λ xs. slice_get xs k) e ∙ type_below n k τ h in cc

pub says_same : (total : ℕ) (xs : List Equation) (es fs : List Entry) → Says total xs es → SaysTheSame es fs → Says total xs fs
says_same total xs es fs s t = record {
  count = t.count ∙ s.count;
  placed = t.placed;
  to = λ σ h. t.to σ (s.to σ h);
  back = λ σ h. s.back σ (t.back σ h);
}

pub only_solution : (total asked : ℕ) (xs : List Equation) (es : List Entry) (ms : List Mark) → Says total xs es → AreSettled es ms → AreFixed asked ms → IsOnlySolution asked xs (solution_of es asked)
only_solution total asked xs es ms s a f = record {
  solves = (type_at integer es, s.back (type_at integer es) (solved_agrees integer es (a.solved integer)), refl);
  only = λ σ all. same_below asked σ (type_at integer es) (λ k h. a.knows.fixed k (f k h) σ (s.to σ all));
}

pub several_solutions : (total asked k : ℕ) (xs : List Equation) (es : List Entry) (ms : List Mark) → Says total xs es → AreSettled es ms → asked ≤ total → IsLoose asked ms k → HaveSeveral asked xs
several_solutions total asked k xs es ms s a h l = record {
  first = type_at integer es;
  second = type_at boolean es;
  first_solves = s.back (type_at integer es) (solved_agrees integer es (a.solved integer));
  second_solves = s.back (type_at boolean es) (solved_agrees boolean es (a.solved boolean));
  differ = λ same. a.knows.loose k (a.each k (omega (arith, l.below, h, s.count)) l.loose) (below_same asked k (type_at integer es) (type_at boolean es) l.below same);
}

pub circular_none : (total : ℕ) (xs : List Equation) (es : List Entry) → Says total xs es → Circular es → HaveNone xs
circular_none total xs es s c = λ σ all. c σ (s.to σ all)
