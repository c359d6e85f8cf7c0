-- Which fault of names a fault of declarations is.
use Rattle.eb_declared.specs.declared.fault.RepeatFault.{RepeatFault}
use Rattle.eb_declared.specs.declared.fault.RepeatFault.TheVariants as repeated
use Rattle.eb_lower.specs.declared.fault.NameFault.{NameFault}
use Rattle.eb_lower.specs.declared.fault.NameFault.TheVariants as fault

abbrev pub naming_fault : RepeatFault → NameFault
naming_fault (repeated.Repeated name) = fault.DuplicateName name
naming_fault repeated.Memory = fault.Memory
