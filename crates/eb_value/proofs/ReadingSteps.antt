-- One step of reading the members of a set, and of an expected text.
use Rattle.std.proofs.Common.{◌≡◌, ◌∙◌, ℕ, ◌+◌, ◌<◌, Bool, true, false, ◌&&◌, nat_eq, if◌then◌else◌, List, [], ◌∷◌, ◌++◌, drop, length, Option, Some, None, refl, sym, ap, arith, drop-cons, length-drop, add-one}
use Rattle.eb_value.specs.declared.read.ValueFault.{ValueFault}
use Rattle.eb_value.specs.declared.read.ValueFault.TheVariants as fault
use Rattle.eb_value.specs.declared.value.Value.{Value}
use Rattle.eb_value.specs.Values.{set}
use Rattle.eb_value.specs.declared.scope.Scope.{Scope}
use Rattle.eb_value.specs.declared.types.EbType.{EbType}
use Rattle.eb_value.specs.Texts.{value_text}
use Rattle.eb_value.specs.Typing.{has_type}
use Rattle.std.specs.Cmp.Lexicographic.{pointwise}
use Rattle.eb_value.specs.steps.Reading.{◌>>=◌, Fails, Reading, after, behind, members_at, value_at, whole_value, is_nil}

after_nothing : (xs : List ℕ) → 0 < length xs → after xs [] ≡ None
after_nothing [] h = absurd (omega arith)
after_nothing (x ∷ xs) h = refl

-- a text that has ended has nothing more of an expected text
pub after_short : (front rest : List ℕ) (i : ℕ) → i < length front → length rest < 1 → after (drop i front) rest ≡ None
after_short front [] i h l = after_nothing (drop i front) (omega (arith, length-drop i front))
after_short front (c ∷ cs) i h l = absurd (omega arith)

abbrev Next : (List ℕ → Reading) → List ℕ → List Value → Value × List ℕ → Reading
Next f ts front x = behind x.1 >>= (λ b. if b.0 then members_at f ts (front ++ x.0 ∷ []) b.1 else Some (set (front ++ x.0 ∷ []), b.1))

pub members_more : (f : List ℕ → Reading) (text : List ℕ) (i : ℕ) (front : List Value) (s : List ℕ) → i < length text → members_at f (drop i text) front s ≡ f s >>= Next f (drop (i + 1) text) front
members_more f text i front s h = rw (add-one, drop-cons text i 0) refl

-- a fault in a member is the set's
pub member_fails : (e : ValueFault) (f : List ℕ → Reading) (text : List ℕ) (i : ℕ) (front : List Value) (s : List ℕ) (whole : Reading) → members_at f (drop i text) front s ≡ whole → i < length text → Fails e (f s) → Fails e whole
member_fails fault.Memory f text i front s whole h l e = tt
member_fails fault.Form f text i front s whole h l e = sym h ∙ members_more f text i front s l ∙ ap (λ o. o >>= Next f (drop (i + 1) text) front) e

module _ (f : List ℕ → Reading) (text : List ℕ) (i : ℕ) (front : List Value) (s : List ℕ) (whole : Reading) (h : members_at f (drop i text) front s ≡ whole) (l : i < length text) (member : Value) (next : List ℕ) (read : f s ≡ Some (member, next)) where
  -- what is behind a member settles how the set goes on
  pub member_then : (o : Option (Bool × List ℕ)) → behind next ≡ o → whole ≡ o >>= (λ b. if b.0 then members_at f (drop (i + 1) text) (front ++ member ∷ []) b.1 else Some (set (front ++ member ∷ []), b.1))
  member_then o e = sym h ∙ members_more f text i front s l ∙ ap (λ r. r >>= Next f (drop (i + 1) text) front) read ∙ ap (λ r. r >>= (λ b. if b.0 then members_at f (drop (i + 1) text) (front ++ member ∷ []) b.1 else Some (set (front ++ member ∷ []), b.1))) e

false_behind : (b c d : Bool) → d ≡ false → (b && c && d) ≡ false
false_behind true c d h = and_so c d h where
  and_so : (c d : Bool) → d ≡ false → (c && d) ≡ false
  and_so true d k = k
  and_so false d k = refl
false_behind false c d h = refl

-- a value that prints otherwise is not taken
pub not_printed : (names : List (List ℕ)) (scope : Scope) (t : EbType) (s : List ℕ) (v : Value) (rest : List ℕ) → value_at names scope.sizes t s ≡ Some (v, rest) → pointwise nat_eq (value_text names v) s ≡ false → whole_value names scope t s ≡ None
not_printed names scope t s v rest e h =
    ap (λ o. o >>= (λ x. if is_nil x.1 && has_type scope x.0 t && pointwise nat_eq (value_text names x.0) s then Some x.0 else None)) e
    ∙ rw (false_behind (is_nil rest) (has_type scope v t) (pointwise nat_eq (value_text names v) s) h) refl
