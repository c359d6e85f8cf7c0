-- Terms under more binders in the steps of the code.
use Rattle.std.specs.Prelude.{ℕ, ◌+◌, nat_lt, if◌then◌else◌}

-- the number of a binder of a term that is put under more
abbrev pub number_under : ℕ → ℕ → ℕ → ℕ
number_under k from by = if nat_lt k from then k else k + by
