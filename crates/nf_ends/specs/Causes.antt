-- The ends that faults are.
use Rattle.nf_host.specs.declared.host.HostRefusal.{HostRefusal}
use Rattle.nf_host.specs.declared.host.HostRefusal.TheVariants as host
use Rattle.nf_lexer.specs.declared.fault.LexFault.{LexFault}
use Rattle.nf_lexer.specs.declared.fault.LexFault.TheVariants as lex
use Rattle.nf_exprs.specs.declared.fault.ParseFault.{ParseFault}
use Rattle.nf_exprs.specs.declared.fault.ParseFault.TheVariants as parse
use Rattle.nf_command.specs.declared.fault.UsageFault.{UsageFault}
use Rattle.nf_command.specs.declared.fault.UsageFault.TheVariants as usage
use Rattle.nf_meaning.specs.declared.fault.LowerFault.{LowerFault}
use Rattle.nf_meaning.specs.declared.fault.LowerFault.TheVariants as lower
use Rattle.nf_params.specs.declared.fault.ParamsFault.{ParamsFault}
use Rattle.nf_params.specs.declared.fault.ParamsFault.TheVariants as params
use Rattle.nf_publish.specs.declared.fault.PublishFault.{PublishFault}
use Rattle.nf_publish.specs.declared.fault.PublishFault.TheVariants as publish
use Rattle.nf_publish.specs.declared.fault.CopyRefusal.{CopyRefusal}
use Rattle.nf_publish.specs.declared.fault.CopyRefusal.TheVariants as copy
use Rattle.nf_ends.specs.declared.end.End.{End}
use Rattle.nf_ends.specs.declared.end.End.TheVariants as end

abbrev pub end_of_usage : UsageFault → End
end_of_usage usage.Mem = end.Mem
end_of_usage f = end.Usage f

abbrev pub end_of_lex : LexFault → End
end_of_lex lex.Mem = end.Mem
end_of_lex f = end.Lex f

abbrev pub end_of_parse : ParseFault → End
end_of_parse parse.Mem = end.Mem
end_of_parse f = end.Parse f

abbrev pub end_of_lower : LowerFault → End
end_of_lower lower.Mem = end.Mem
end_of_lower f = end.Lower f

abbrev pub end_of_params : ParamsFault → End
end_of_params (params.BadParams pointer) = end.BadParams pointer
end_of_params params.Mem = end.Mem

abbrev pub end_of_host : HostRefusal → End
end_of_host host.Failed = end.HostFault
end_of_host host.Mem = end.Mem

abbrev pub end_of_publishing : PublishFault → End
end_of_publishing (publish.Clash c) = end.PublishClash c
end_of_publishing publish.Mem = end.Mem

abbrev pub end_of_copy : CopyRefusal → End
end_of_copy (copy.Host f) = end_of_host f
end_of_copy (copy.Damaged due found) = end.Damaged due found
