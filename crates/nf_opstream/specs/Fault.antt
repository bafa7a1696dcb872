-- The faults of operators, by plain values.
use Rattle.std.specs.Prelude.{ℤ, Option, Some, None}
use Rattle.nf_value.specs.Plain.{Plain}
use Rattle.nf_value.specs.View.{plain_of}
use Rattle.nf_bag.specs.declared.fault.OpFault.{OpFault}
use Rattle.nf_bag.specs.declared.fault.OpFault.TheVariants as f

pub data Fault : Type 0 where
  duplicate_key : Plain → Fault
  not_a_tuple : Plain → Fault
  not_a_number : Plain → Fault
  overflow : ℤ → Fault
  too_deep : Plain → Fault

-- the code's fault; want of memory is none
abbrev pub fault_of : OpFault → Option Fault
fault_of (f.DuplicateKey k) = Some (duplicate_key (plain_of k))
fault_of (f.NotATuple x) = Some (not_a_tuple (plain_of x))
fault_of (f.NotANumber x) = Some (not_a_number (plain_of x))
fault_of (f.Overflow t) = Some (overflow t)
fault_of (f.TooDeep x) = Some (too_deep (plain_of x))
fault_of f.Mem = None
