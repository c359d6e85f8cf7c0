-- The depths of the types of settled numbers.
use Rattle.std.specs.Prelude.{◌≡◌, ℕ, ◌+◌, ◌<◌, ◌≤◌, max, min, true, List, length, get_or}
use Rattle.eb_value.specs.Types.{integer}
use Rattle.type_equations.specs.declared.store.Entry.{Entry}
use Rattle.type_equations.specs.declared.store.Entry.TheVariants as entry
use Rattle.type_equations.specs.declared.marks.Mark.{Mark}
use Rattle.type_equations.specs.Depths.{depth}
use Rattle.type_equations.specs.Solutions.{type_at}
use Rattle.type_equations.specs.steps.Settling.{mark_at, is_settled}

-- depths above 1,000 count as 1,001
abbrev pub capped : ℕ → ℕ
capped n = min n 1001

-- the number's depth
abbrev pub depth_at : List ℕ → ℕ → ℕ
depth_at ds number = get_or ds number 0

-- the depth of a type with the entry, by those of its parts
abbrev pub depth_by : List ℕ → Entry → ℕ
depth_by ds (entry.Link other) = depth_at ds other
depth_by ds (entry.Product first second) = capped (max (depth_at ds first) (depth_at ds second) + 1)
depth_by ds (entry.Power members) = capped (depth_at ds members + 1)
depth_by ds _ = 0

-- each settled number has the depth of its type
pub record AreDeep (entries : List Entry) (marks : List Mark) (depths : List ℕ) : Type 0 where
  pub count : length depths ≡ length entries
  pub depth : (number : ℕ) → is_settled (mark_at marks number) ≡ true → depth_at depths number ≡ capped (depth (type_at integer entries number))

-- the numbers below that many have depths up to 1,000
abbrev pub AreLow : ℕ → List ℕ → Type 0
AreLow asked depths = (number : ℕ) → number < asked → depth_at depths number ≤ 1000
