-- How a fault of a text ends a run. No public clause names this.
use Rattle.model_text.specs.declared.fault.TextFault.{TextFault}
use Rattle.model_text.specs.declared.fault.TextFault.TheVariants as fault
use Rattle.cbc_top.specs.declared.stop.Stop.{Stop}
use Rattle.cbc_top.specs.declared.stop.Stop.TheVariants as stop

abbrev pub text_stop : TextFault → Stop
text_stop (fault.Refused refusal) = stop.Refused refusal
text_stop fault.Memory = stop.Memory
