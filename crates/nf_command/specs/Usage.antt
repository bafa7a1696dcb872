-- The text of a usage fault.
use Rattle.std.specs.Prelude.{ℕ, List, ◌++◌, codes, decimal}
use Rattle.nf_command.specs.declared.fault.UsageFault.{UsageFault}
use Rattle.nf_command.specs.declared.fault.UsageFault.TheVariants.{NoCommand, UnknownWord, NoValue, BadNumber, Twice, Mem}

abbrev pub usage_text : UsageFault → List ℕ
usage_text NoCommand = codes "NoCommand"
usage_text (UnknownWord at) = codes "UnknownWord at word " ++ decimal at
usage_text (NoValue at) = codes "NoValue at word " ++ decimal at
usage_text (BadNumber at) = codes "BadNumber at word " ++ decimal at
usage_text (Twice at) = codes "Twice at word " ++ decimal at
usage_text Mem = codes "Mem"
