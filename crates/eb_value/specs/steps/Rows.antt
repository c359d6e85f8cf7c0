-- Reading a row of values of given types from the front of a text: a means of proof, as reading one value is.
use Rattle.std.specs.Prelude.{ℕ, ◌&&◌, nat_eq, if◌then◌else◌, List, [], ◌∷◌, ◌++◌, Option, Some, None, codes}
use Rattle.std.specs.Cmp.Lexicographic.{pointwise}
use Rattle.eb_value.specs.declared.scope.Scope.{Scope}
use Rattle.eb_value.specs.declared.types.EbType.{EbType}
use Rattle.eb_value.specs.declared.value.Value.{Value}
use Rattle.eb_value.specs.Typing.{has_type}
use Rattle.eb_value.specs.Texts.{values_text}
use Rattle.eb_value.specs.steps.Reading.{◌>>=◌, Reading, after, value_at, is_nil}

-- what is behind the comma that comes after other values
abbrev pub separated : List Value → List ℕ → Option (List ℕ)
separated [] s = Some s
separated (v ∷ vs) s = after (codes ",") s

-- a value that has the type
abbrev pub typed_at : List (List ℕ) → Scope → EbType → List ℕ → Reading
typed_at names scope t s = value_at names scope.sizes t s >>= (λ x. if has_type scope x.0 t then Some x else None)

-- the next value of a row, after those read so far
abbrev pub next_at : List (List ℕ) → Scope → List Value → EbType → List ℕ → Reading
next_at names scope front t s = separated front s >>= typed_at names scope t

-- values of the types after those read so far, and the text behind them
abbrev pub row_at : List (List ℕ) → Scope → List EbType → List Value → List ℕ → Option (List Value × List ℕ)
row_at names scope [] front s = Some (front, s)
row_at names scope (t ∷ ts) front s = next_at names scope front t s >>= (λ x. row_at names scope ts (front ++ x.0 ∷ []) x.1)

-- values that are read whole, of the types, and print as they were read
abbrev pub whole_row : List (List ℕ) → Scope → List EbType → List ℕ → Option (List Value)
whole_row names scope ts s = row_at names scope ts [] s >>= (λ x. if is_nil x.1 && pointwise nat_eq (values_text names x.0) s then Some x.0 else None)
