-- Which fault of a text a fault of one of its parts is. No public clause names this.
use Rattle.eb_lexer.specs.declared.token.LexFault.{LexFault}
use Rattle.eb_lexer.specs.declared.token.LexFault.TheVariants as lexing
use Rattle.eb_parser.specs.declared.fault.ParseFault.{ParseFault}
use Rattle.eb_parser.specs.declared.fault.ParseFault.TheVariants as parsing
use Rattle.eb_lower.specs.declared.fault.NameFault.{NameFault}
use Rattle.eb_lower.specs.declared.fault.NameFault.TheVariants as naming
use Rattle.eb_infer.specs.declared.fault.TypeFault.{TypeFault}
use Rattle.eb_infer.specs.declared.fault.TypeFault.TheVariants as typing
use Rattle.scope_settings.specs.declared.fault.ScopeFault.{ScopeFault}
use Rattle.scope_settings.specs.declared.fault.ScopeFault.TheVariants as scoping
use Rattle.cbc_query.specs.declared.fault.QueryFault.{QueryFault}
use Rattle.cbc_query.specs.declared.fault.QueryFault.TheVariants as asking
use Rattle.model_text.specs.declared.refusal.Refusal.TheVariants as refusal
use Rattle.model_text.specs.declared.fault.TextFault.{TextFault}
use Rattle.model_text.specs.declared.fault.TextFault.TheVariants as fault

abbrev pub lexing_fault : LexFault → TextFault
lexing_fault lexing.NotUtf8 = fault.Refused refusal.NotUtf8
lexing_fault (lexing.BadToken place) = fault.Refused (refusal.BadToken place)
lexing_fault lexing.Memory = fault.Memory

abbrev pub parsing_fault : ParseFault → TextFault
parsing_fault (parsing.Syntax place) = fault.Refused (refusal.Syntax place)
parsing_fault parsing.TooDeep = fault.Refused refusal.TooDeep
parsing_fault parsing.Memory = fault.Memory

abbrev pub naming_fault : NameFault → TextFault
naming_fault (naming.Unsupported place) = fault.Refused (refusal.Unsupported place)
naming_fault (naming.DuplicateName name) = fault.Refused (refusal.DuplicateName name)
naming_fault (naming.UnknownName name) = fault.Refused (refusal.UnknownName name)
naming_fault naming.Memory = fault.Memory

abbrev pub typing_fault : TypeFault → TextFault
typing_fault typing.Clash = fault.Refused refusal.TypeClash
typing_fault typing.Open = fault.Refused refusal.TypeOpen
typing_fault typing.Memory = fault.Memory

abbrev pub scope_fault : ScopeFault → TextFault
scope_fault (scoping.Limit l) = fault.Refused (refusal.ScopeBad l)
scope_fault scoping.Memory = fault.Memory

abbrev pub query_fault : QueryFault → TextFault
query_fault (asking.Limit l) = fault.Refused (refusal.ScopeBad l)
query_fault asking.Memory = fault.Memory
