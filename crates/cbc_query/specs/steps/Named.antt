-- The name of a number, entry by entry.
use Rattle.std.specs.Prelude.{ℕ, ◌==◌, if◌then◌else◌, List, fold, Option, Some, None}
use Rattle.std.specs.Option.{option_or}
use Rattle.numbered_names.specs.declared.entries.Entry.{Entry}

-- one more entry, where an older one counts
abbrev pub or_name : ℕ → Option (List ℕ) → Entry → Option (List ℕ)
or_name k found x = option_or found (if x.number == k then Some x.name else None)

abbrev pub first_name : ℕ → List Entry → Option (List ℕ)
first_name k xs = fold (or_name k) None xs
