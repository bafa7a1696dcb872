-- What a refusal says.
use Rattle.std.specs.Prelude.{ℕ, List, ◌++◌, codes}
use Rattle.nf_value.specs.Place.{place_text}
use Rattle.nf_kinds.specs.declared.fault.Broken.{Broken}
use Rattle.nf_kinds.specs.Fault.{breaks}
use Rattle.nf_kinds.specs.Texts.{rule_text}
use Rattle.nf_order.specs.declared.fault.OrderFault.{OrderFault}
use Rattle.nf_order.specs.declared.fault.OrderFault.TheVariants as fault

-- if a rule is said to be broken
abbrev pub IfRule : OrderFault → (Broken → Type 0) → Type 0
IfRule (fault.Rule r p) P = P (breaks r p)
IfRule fault.Mem P = Unit {0}

abbrev pub fault_text : OrderFault → List ℕ
fault_text (fault.Rule r p) = place_text p.line p.col ++ codes ": " ++ rule_text r
fault_text fault.Mem = codes "Mem"
