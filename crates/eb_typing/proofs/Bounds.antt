-- Which numbers equations speak of.
use Rattle.std.proofs.Common.{ℕ, ◌+◌, ◌<◌, ◌≤◌, List, [], ◌∷◌, ◌++◌, length, take, get_or, arith, add-one}
use Rattle.std.proofs.Math.Seq.{take-suc}
use Rattle.type_equations.specs.declared.equation.Equation.{Equation}
use Rattle.type_equations.specs.declared.equation.Equation.TheVariants as eq
use Rattle.type_equations.specs.Equations.{IsBelow, AreBelow}

pub below_up : (m n : ℕ) (e : Equation) → m ≤ n → IsBelow m e → IsBelow n e
below_up m n (eq.Same i j) l b = (omega (arith, b.0), omega (arith, b.1))
below_up m n (eq.Integer i) l b = omega arith
below_up m n (eq.Boolean i) l b = omega arith
below_up m n (eq.Carrier i s) l b = omega arith
below_up m n (eq.Product i j k) l b = (omega (arith, b.0), omega (arith, b.1), omega (arith, b.2))
below_up m n (eq.Power i j) l b = (omega (arith, b.0), omega (arith, b.1))

all_up : (m n : ℕ) (es : List Equation) (e : Equation) → m ≤ n → AreBelow m es → IsBelow n e → AreBelow n (es ++ e ∷ [])
all_up m n [] e l b c = (c, tt)
all_up m n (f ∷ es) e l b c = (below_up m n f l b.0, all_up m n es e l b.1 c)

pub below_more : (m n : ℕ) (es : List Equation) (i : ℕ) (d : Equation) → i < length es → m ≤ n → AreBelow m (take i es) → IsBelow n (get_or es i d) → AreBelow n (take (i + 1) es)
below_more m n es i d h l b c = rw (add-one, take-suc es i d h) (all_up m n (take i es) (get_or es i d) l b c)
