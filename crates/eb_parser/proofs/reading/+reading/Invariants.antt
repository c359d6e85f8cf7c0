use Rattle.std.proofs.Common.{◌≡◌, ◌+◌, ◌*◌, ◌-◌, ◌≤◌, length}
use Rattle.eb_parser.specs.steps.Climbing.{climb, read, row_after}
use Rattle.eb_parser.proofs.Equations.{row_state}
use Rattle.eb_parser.proofs.reading.+reading.Given as goal

abbrev pub decreases-read : goal.decreases-read
decreases-read l = 8 * l.depth

abbrev pub decreases-primary : goal.decreases-primary
decreases-primary l = 8 * l.depth + 7

abbrev pub decreases-primary_by : goal.decreases-primary_by
decreases-primary_by l = 8 * l.depth + 6

abbrev pub decreases-begun_by : goal.decreases-begun_by
decreases-begun_by l = 8 * l.depth + 5

abbrev pub decreases-prefix_at : goal.decreases-prefix_at
decreases-prefix_at l = 8 * l.depth + 4

abbrev pub decreases-quantifier_at : goal.decreases-quantifier_at
decreases-quantifier_at l = 8 * l.depth + 4

abbrev pub decreases-call_at : goal.decreases-call_at
decreases-call_at l = 8 * l.depth + 4

abbrev pub decreases-parentheses_at : goal.decreases-parentheses_at
decreases-parentheses_at l = 8 * l.depth + 4

abbrev pub decreases-partition_at : goal.decreases-partition_at
decreases-partition_at l = 8 * l.depth + 4

abbrev pub decreases-binder_at : goal.decreases-binder_at
decreases-binder_at l = 8 * l.depth + 4

abbrev pub decreases-brace_at : goal.decreases-brace_at
decreases-brace_at l = 8 * l.depth + 4

abbrev pub decreases-comprehension_at : goal.decreases-comprehension_at
decreases-comprehension_at l = 8 * l.depth + 3

abbrev pub decreases-members_at : goal.decreases-members_at
decreases-members_at l = 8 * l.depth + 3

abbrev pub decreases-builder_at : goal.decreases-builder_at
decreases-builder_at l = 8 * l.depth + 2

abbrev pub decreases-extension_at : goal.decreases-extension_at
decreases-extension_at l = 8 * l.depth + 2

abbrev pub decreases-body : goal.decreases-body
decreases-body l = 8 * l.depth + 2

abbrev pub decreases-predicate : goal.decreases-predicate
decreases-predicate l = 8 * l.depth + 1

abbrev pub decreases-row : goal.decreases-row
decreases-row l = 8 * l.depth + 1

abbrev pub decreases-operand_at : goal.decreases-operand_at
decreases-operand_at l = 8 * l.depth + 1

abbrev pub decreases-turn : goal.decreases-turn
decreases-turn l = 8 * l.depth + 2

abbrev pub decreases-climb : goal.decreases-climb
decreases-climb l = 8 * l.depth + 7

abbrev pub invariant-climb-loop-turns : goal.invariant-climb-loop-turns
invariant-climb-loop-turns l = (l.part.height ≤ l.depth)
    × (climb (read l.depth) l.depth l.least (l.depth - l.turns) l.part l.rest ≡ climb (read l.depth) l.depth l.least l.depth l.fn.part l.tokens)

abbrev pub invariant-row-loop : goal.invariant-row-loop
invariant-row-loop l = (l.height ≤ l.depth - 1)
    × (row_state (read l.depth) (length l.tokens - l.counter) l.members l.height l.rest ≡ row_after (read l.depth) (length l.tokens) l.fn.first l.tokens)
