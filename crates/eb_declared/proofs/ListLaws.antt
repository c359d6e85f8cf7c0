-- Members of lists.
use Rattle.std.proofs.Common.{[], Contains, arith}

pub contains_none : {A : Type 0} (v : A) → Contains [] v → ⊥
contains_none v h = omega (arith, h.1)
