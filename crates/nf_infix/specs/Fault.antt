-- Why a call has no value.
use Rattle.std.specs.Prelude.{◌≡◌, Err}
use Rattle.nf_texts.specs.Outcome.{Outcome}
use Rattle.nf_texts.specs.declared.fault.CallFault.{CallFault}
use Rattle.nf_texts.specs.declared.fault.CallFault.TheVariants as fault

-- the call has this fault; want of memory is free
abbrev pub IsFaultOf : Outcome → CallFault → Type 0
IsFaultOf o (fault.Kind k) = o ≡ Err k
IsFaultOf o fault.Mem = Unit {0}
