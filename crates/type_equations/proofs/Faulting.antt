-- What a fault says, and what follows from it.
use Rattle.type_equations.specs.Faults.{OnFault}
use Rattle.type_equations.specs.declared.fault.SolveFault.{SolveFault}
use Rattle.type_equations.specs.declared.fault.SolveFault.TheVariants.{Clash, Open, Memory}

pub refused : (fault : SolveFault) (A B C : Type 0) → (A → B) → OnFault fault A ⊥ → OnFault fault B C
refused Clash A B C f h = f h
refused Open A B C f h = absurd h
refused Memory A B C f h = tt
