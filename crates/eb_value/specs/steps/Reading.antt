-- Reading a value of a type from the front of a text. It takes more texts than are printed, and is a means
-- of proof: what `read_value` answers, its contract says.
use Rattle.std.specs.Prelude.{◌≡◌, ℕ, ◌+◌, ◌-◌, ◌*◌, ◌^◌, min, Bool, true, false, ◌&&◌, ◌==◌, nat_eq, nat_le, if◌then◌else◌, ℤ, pos, neg_ℤ, List, [], ◌∷◌, ◌++◌, Option, Some, None, option_and_then, Result, Ok, Err, codes}
use Rattle.std.specs.Char.{is_ascii_digit}
use Rattle.std.specs.Cmp.Lexicographic.{pointwise}
use Rattle.eb_value.specs.declared.read.ValueFault.{ValueFault}
use Rattle.eb_value.specs.declared.read.ValueFault.TheVariants as fault
use Rattle.eb_value.specs.declared.scope.Scope.{Scope}
use Rattle.eb_value.specs.declared.types.EbType.{EbType, fold-EbType}
use Rattle.eb_value.specs.declared.types.Shape.{Shape-F}
use Rattle.eb_value.specs.declared.types.Shape.TheOpen as ty
use Rattle.eb_value.specs.declared.value.Value.{Value}
use Rattle.eb_value.specs.Values.{int, truth, atom, pair, set}
use Rattle.eb_value.specs.Typing.{size_of, has_type}
use Rattle.eb_value.specs.Texts.{name_at, value_text}

infixl 10 ◌>>=◌
abbrev pub ◌>>=◌ : {A B : Type 0} → Option A → (A → Option B) → Option B
o >>= f = option_and_then f o

-- What a function returned, seen by view, is what was read, unless memory ran out.
abbrev pub Fails : {Y : Type 0} → ValueFault → Option Y → Type 0
Fails fault.Memory read = Unit {0}
Fails fault.Form read = read ≡ None

abbrev pub Gives : {X Y : Type 0} → (X → Y) → Result X ValueFault → Option Y → Type 0
Gives view (Ok x) read = read ≡ Some (view x)
Gives view (Err e) read = Fails e read

-- a value and the text behind it
abbrev pub Reading : Type 0
Reading = Option (Value × List ℕ)

abbrev pub after : List ℕ → List ℕ → Option (List ℕ)
after [] s = Some s
after (x ∷ xs) [] = None
after (x ∷ xs) (y ∷ ys) = if y == x then after xs ys else None

-- a number with one more digit, at most 2^64 - 1
abbrev pub with_digit : ℕ → ℕ → ℕ
with_digit n d = min (min (n * 10) (2 ^ 64 - 1) + (d - 48)) (2 ^ 64 - 1)

-- the number of the digits at the front, after a number so far, and what is behind them
abbrev pub digits_at : ℕ → List ℕ → ℕ × List ℕ
digits_at n [] = (n, [])
digits_at n (d ∷ ds) = if is_ascii_digit d then digits_at (with_digit n d) ds else (n, d ∷ ds)

abbrev pub capped : ℕ → ℤ
capped n = pos (min n (2 ^ 63 - 1))

abbrev pub integer_at : List ℕ → Reading
integer_at [] = Some (int (capped (digits_at 0 []).0), (digits_at 0 []).1)
integer_at (c ∷ cs) = if c == 45 then Some (int (neg_ℤ (capped (digits_at 0 cs).0)), (digits_at 0 cs).1) else Some (int (capped (digits_at 0 (c ∷ cs)).0), (digits_at 0 (c ∷ cs)).1)

abbrev pub truth_behind : Option (List ℕ) → Option (List ℕ) → Reading
truth_behind (Some rest) o = Some (truth true, rest)
truth_behind None (Some rest) = Some (truth false, rest)
truth_behind None None = None

abbrev pub truth_at : List ℕ → Reading
truth_at s = truth_behind (after (codes "TRUE") s) (after (codes "FALSE") s)

abbrev pub atom_at : List (List ℕ) → List ℕ → ℕ → List ℕ → Reading
atom_at names sizes place s = do
  a ← after (name_at names place) s
  b ← after (codes "#") a
  if nat_le (digits_at 0 b).0 (size_of sizes place) then Some (atom place (digits_at 0 b).0, (digits_at 0 b).1) else None

-- a value behind `(` and before `|->`
abbrev pub opened_at : (List ℕ → Reading) → List ℕ → Reading
opened_at f s = do
  a ← after (codes "(") s
  x ← f a
  b ← after (codes "|->") x.1
  Some (x.0, b)

-- a value before `)`
abbrev pub closed_at : (List ℕ → Reading) → List ℕ → Reading
closed_at g s = do
  y ← g s
  c ← after (codes ")") y.1
  Some (y.0, c)

abbrev pub pair_at : (List ℕ → Reading) → (List ℕ → Reading) → List ℕ → Reading
pair_at f g s = do
  x ← opened_at f s
  y ← closed_at g x.1
  Some (pair x.0 y.0, y.1)

-- behind a member, whether the set goes on, and the text behind the comma or the brace
abbrev pub behind : List ℕ → Option (Bool × List ℕ)
behind [] = None
behind (c ∷ cs) = if c == 44 then Some (true, cs) else (if c == 125 then Some (false, cs) else None)

-- members up to the brace, at most as many as the first list is long, after those read so far
abbrev pub members_at : (List ℕ → Reading) → List ℕ → List Value → List ℕ → Reading
members_at f [] front s = None
members_at f (t ∷ ts) front s = f s >>= (λ x. behind x.1 >>= (λ b. if b.0 then members_at f ts (front ++ x.0 ∷ []) b.1 else Some (set (front ++ x.0 ∷ []), b.1)))

abbrev pub set_behind : (List ℕ → Reading) → Option (List ℕ) → List ℕ → Reading
set_behind f (Some rest) s = Some (set [], rest)
set_behind f None s = members_at f s [] s

abbrev pub set_at : (List ℕ → Reading) → List ℕ → Reading
set_at f s = after (codes "{") s >>= (λ a. set_behind f (after (codes "}") a) a)

abbrev pub read_step : List (List ℕ) → List ℕ → Shape-F (List ℕ → Reading) (List ℕ → Reading) → List ℕ → Reading
read_step names sizes ty.Integer s = integer_at s
read_step names sizes ty.Bool s = truth_at s
read_step names sizes (ty.Carrier place) s = atom_at names sizes place s
read_step names sizes (ty.Product f g) s = pair_at f g s
read_step names sizes (ty.Power f) s = set_at f s

abbrev pub value_at : List (List ℕ) → List ℕ → EbType → List ℕ → Reading
value_at names sizes = fold-EbType (List ℕ → Reading) (List ℕ → Reading) (read_step names sizes) (λ t. t.shape)

abbrev pub is_nil : List ℕ → Bool
is_nil [] = true
is_nil (c ∷ cs) = false

-- a value that is read whole, of the type, and prints as it was read
abbrev pub whole_value : List (List ℕ) → Scope → EbType → List ℕ → Option Value
whole_value names scope t s = value_at names scope.sizes t s >>= (λ x. if is_nil x.1 && has_type scope x.0 t && pointwise nat_eq (value_text names x.0) s then Some x.0 else None)
