-- The clause of a failed call, and what a host's refusal is for a keeper.
use Rattle.std.specs.Prelude.{Result, Ok, Err}
use Rattle.nf_host.specs.declared.host.HostRefusal.{HostRefusal}
use Rattle.nf_host.specs.declared.host.HostRefusal.TheVariants as host
use Rattle.nf_keeper.specs.declared.refusal.KeeperRefusal.{KeeperRefusal}
use Rattle.nf_keeper.specs.declared.refusal.KeeperRefusal.TheVariants.{Failed, Mem}

-- P, if the answer is Failed
abbrev pub OnFailed : {T : Type 0} → Result T KeeperRefusal → Type 0 → Type 0
OnFailed (Ok x) P = Unit {0}
OnFailed (Err Failed) P = P
OnFailed (Err Mem) P = Unit {0}

-- a keeper's refusal, where its host refused
abbrev pub refusal_of : HostRefusal → KeeperRefusal
refusal_of host.Failed = Failed
refusal_of host.Mem = Mem
