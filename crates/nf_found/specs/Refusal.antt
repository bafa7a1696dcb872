-- Why the files of a script's sources aren't had.
use Rattle.std.specs.Prelude.{Result, Ok, Err}
use Rattle.nf_host.specs.declared.host.HostRefusal.TheVariants as host
use Rattle.nf_sources.specs.Sources.{OnHostFailed}
use Rattle.nf_sources.specs.declared.fault.SourceRefusal.TheVariants.{Host}
use Rattle.nf_found.specs.declared.refusal.FoundRefusal.{FoundRefusal}
use Rattle.nf_found.specs.declared.refusal.FoundRefusal.TheVariants.{NoFile, Source}

-- there was no memory
abbrev pub no_memory : FoundRefusal
no_memory = Source (Host host.Mem)

-- P, if the host failed
abbrev pub OnFailed : {T : Type 0} → Result T FoundRefusal → Type 0 → Type 0
OnFailed (Ok x) P = Unit {0}
OnFailed (Err (NoFile path)) P = Unit {0}
OnFailed {T = T} (Err (Source r)) P = OnHostFailed {T = T} (Err r) P
