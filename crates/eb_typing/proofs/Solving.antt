-- What solves equations that were made one by one.
use Rattle.std.proofs.Common.{◌≡◌, ◌∙◌, ℕ, zero, suc, ◌<◌, ◌≤◌, Bool, true, false, List, [], ◌∷◌, ◌++◌, length, refl, sym, ap, subst, arith, rules, ltb}
use Rattle.std.proofs.lemmas.Bool.{ltb-true, ltb-false}
use Rattle.std.specs.Prelude.{Some, slice_get}
use Rattle.eb_value.specs.declared.types.EbType.{EbType, out-EbType, the_lemmas}
use Rattle.eb_value.specs.declared.types.Shape.{Shape, Shape-F, out-Shape}
use Rattle.eb_value.specs.declared.types.Shape.TheOpen as ty
use Rattle.eb_value.specs.Types.{integer, boolean}
use Rattle.type_equations.specs.declared.equation.Equation.{Equation}
use Rattle.type_equations.specs.declared.equation.Equation.TheVariants as eq
use Rattle.type_equations.specs.Equations.{Holds, Solves, types_below}
use Rattle.eb_typing.specs.declared.generated.Generated.{Generated}
use Rattle.eb_typing.specs.steps.Generating.{put, contradict}

abbrev shape_of : EbType → Shape-F Shape EbType
shape_of t = out-Shape (out-EbType t).shape

is_integer : Shape-F Shape EbType → Bool
is_integer ty.Integer = true
is_integer _ = false

shape-integer : shape_of integer ≡ ty.Integer
shape-integer = search (rules, the_lemmas)

shape-boolean : shape_of boolean ≡ ty.Bool
shape-boolean = search (rules, the_lemmas)

pub integer≢boolean : integer ≡ boolean → ⊥
unfolding is_integer
integer≢boolean e =
    let f : true ≡ false = ap is_integer (sym shape-integer) ∙ (ap (λ t. is_integer (shape_of t)) e ∙ ap is_integer shape-boolean) in
    absurd cc

pub snoc_solves : (σ : ℕ → EbType) (es : List Equation) (e : Equation) → Solves σ es → Holds σ e → Solves σ (es ++ e ∷ [])
snoc_solves σ [] e s h = (h, tt)
snoc_solves σ (f ∷ es) e s h = (s.0, snoc_solves σ es e s.1 h)

pub solves_snoc : (σ : ℕ → EbType) (es : List Equation) (e : Equation) → Solves σ (es ++ e ∷ []) → Solves σ es × Holds σ e
solves_snoc σ [] e s = (tt, s.0)
solves_snoc σ (f ∷ es) e s = let t = solves_snoc σ es e s.1 in ((s.0, t.0), t.1)

-- the types solve the equations that were made
abbrev pub Fit : (ℕ → EbType) → Generated → Type 0
Fit σ g = Solves σ g.equations

pub fits_put : (σ : ℕ → EbType) (e : Equation) (g : Generated) → Fit σ (put e g) → Fit σ g × Holds σ e
fits_put σ e g s = solves_snoc σ g.equations e s

pub put_fits : (σ : ℕ → EbType) (e : Equation) (g : Generated) → Fit σ g → Holds σ e → Fit σ (put e g)
put_fits σ e g s h = snoc_solves σ g.equations e s h

pub fits_contradict : (σ : ℕ → EbType) (n : ℕ) (g : Generated) → Fit σ (contradict n g) → ⊥
fits_contradict σ n g s =
    let b = fits_put σ (eq.Boolean n) (put (eq.Integer n) g) s in
    let i = fits_put σ (eq.Integer n) g b.0 in
    integer≢boolean (sym i.1 ∙ b.1)

pub length-types_below : (σ : ℕ → EbType) (n : ℕ) → length (types_below n σ) ≡ n
length-types_below σ zero = refl
length-types_below σ (suc n) = grow (types_below n σ) n (length-types_below σ n)
  where
    grow : (xs : List EbType) (m : ℕ) → length xs ≡ m → length (xs ++ σ n ∷ []) ≡ suc m
    grow [] m e = ap suc e
    grow (x ∷ xs) zero e = absurd (omega (arith, e))
    grow (x ∷ xs) (suc m) e = ap suc (grow xs m (omega (arith, e)))

slice_get-front : (xs : List EbType) (y : EbType) (k : ℕ) → k < length xs → slice_get (xs ++ y ∷ []) k ≡ slice_get xs k
slice_get-front [] y k h = absurd (omega (arith, h))
slice_get-front (x ∷ xs) y zero h = refl
slice_get-front (x ∷ xs) y (suc k) h = slice_get-front xs y k (omega (arith, h))

slice_get-last : (xs : List EbType) (y : EbType) → slice_get (xs ++ y ∷ []) (length xs) ≡ Some y
slice_get-last [] y = refl
slice_get-last (x ∷ xs) y = slice_get-last xs y

below_or_last : (σ : ℕ → EbType) (n k : ℕ) (b : Bool) → ltb k n ≡ b → k < suc n → (k < n → slice_get (types_below n σ) k ≡ Some (σ k)) → slice_get (types_below n σ ++ σ n ∷ []) k ≡ Some (σ k)
below_or_last σ n k true e h before =
    let l : k < n = ltb-true k n e in
    let m = length-types_below σ n in
    slice_get-front (types_below n σ) (σ n) k (omega arith) ∙ before l
below_or_last σ n k false e h before =
    let l : n ≤ k = ltb-false k n e in
    let f : k ≡ n = omega arith in
    rw f (subst (λ m. slice_get (types_below n σ ++ σ n ∷ []) m ≡ Some (σ n)) (length-types_below σ n) (slice_get-last (types_below n σ) (σ n)))

pub slice_get-types_below : (σ : ℕ → EbType) (n k : ℕ) → k < n → slice_get (types_below n σ) k ≡ Some (σ k)
slice_get-types_below σ zero k h = absurd (omega arith)
slice_get-types_below σ (suc n) k h = below_or_last σ n k (ltb k n) refl h (λ l. slice_get-types_below σ n k l)
