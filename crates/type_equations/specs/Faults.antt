-- What faults say.
use Rattle.std.specs.Prelude.{⊤}
use Rattle.type_equations.specs.declared.fault.SolveFault.{SolveFault}
use Rattle.type_equations.specs.declared.fault.SolveFault.TheVariants.{Clash, Open, Memory}

-- what a fault says: one fact at Clash, another at Open, nothing at Memory
abbrev pub OnFault : SolveFault → Type 0 → Type 0 → Type 0
OnFault Clash clash several = clash
OnFault Open clash several = several
OnFault Memory clash several = ⊤
