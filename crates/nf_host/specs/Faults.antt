-- The counts of faults, and the clause of a failed read.
use Rattle.std.specs.Prelude.{ℕ, ◌+◌, ◌-◌, ◌^◌, ◌≤◌, min, Result, Ok, Err}
use Rattle.nf_host.specs.declared.host.HostRefusal.{HostRefusal}
use Rattle.nf_host.specs.declared.host.HostRefusal.TheVariants.{Failed, Mem}

-- the count rose, or stopped at 2^64 - 1
abbrev pub Rose : ℕ → ℕ → Type 0
Rose before now = min (before + 1) (2 ^ 64 - 1) ≤ now

-- P, if the answer is Failed
abbrev pub OnFailed : {T : Type 0} → Result T HostRefusal → Type 0 → Type 0
OnFailed (Ok x) P = Unit {0}
OnFailed (Err Failed) P = P
OnFailed (Err Mem) P = Unit {0}
