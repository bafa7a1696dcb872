-- The clause of a failed run, and a lane's refusal for its host's.
use Rattle.std.specs.Prelude.{Result, Ok, Err}
use Rattle.nf_host.specs.declared.host.HostRefusal.{HostRefusal}
use Rattle.nf_host.specs.declared.host.HostRefusal.TheVariants as host
use Rattle.nf_lane.specs.declared.refusal.LaneRefusal.{LaneRefusal}
use Rattle.nf_lane.specs.declared.refusal.LaneRefusal.TheVariants.{Failed, Mem}

-- P, if the answer is Failed
abbrev pub OnFailed : {T : Type 0} → Result T LaneRefusal → Type 0 → Type 0
OnFailed (Ok x) P = Unit {0}
OnFailed (Err Failed) P = P
OnFailed (Err Mem) P = Unit {0}

-- what a lane refuses if its host does
abbrev pub refusal_of : HostRefusal → LaneRefusal
refusal_of host.Failed = Failed
refusal_of host.Mem = Mem
