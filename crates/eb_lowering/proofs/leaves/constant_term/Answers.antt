use Rattle.std.specs.Prelude.{true, false}
use Rattle.eb_value.specs.Canonical.{truth}
use Rattle.eb_lowering.proofs.leaves.constant_term.Goals as goal

pub literal-requires : goal.literal-requires
literal-requires c = rw c.truth-in-TrueValue.ensures (truth true)

pub literal-requires-in-FalseValue : goal.literal-requires-in-FalseValue
literal-requires-in-FalseValue c = rw c.truth-in-FalseValue.ensures (truth false)
