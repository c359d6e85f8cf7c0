-- Two things that may be missing.
use Rattle.std.specs.Prelude.{Option, Some, None}

-- both, where there are both
abbrev pub both : {A B : Type 0} → Option A → Option B → Option (A × B)
both None b = None
both (Some a) None = None
both (Some a) (Some b) = Some (a, b)
