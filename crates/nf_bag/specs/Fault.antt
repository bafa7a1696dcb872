-- The text of an operator's fault.
use Rattle.std.specs.Prelude.{ℕ, List, codes}
use Rattle.nf_bag.specs.declared.fault.OpFault.{OpFault}
use Rattle.nf_bag.specs.declared.fault.OpFault.TheVariants.{DuplicateKey, NotATuple, NotANumber, Overflow, TooDeep, Mem}

abbrev pub fault_name : OpFault → List ℕ
fault_name (DuplicateKey k) = codes "DuplicateKey"
fault_name (NotATuple x) = codes "NotATuple"
fault_name (NotANumber x) = codes "NotANumber"
fault_name (Overflow t) = codes "Overflow"
fault_name (TooDeep x) = codes "TooDeep"
fault_name Mem = codes "Mem"
