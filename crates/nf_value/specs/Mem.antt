-- Want of memory as a value.
use Rattle.nf_value.specs.declared.mem.Mem.{Mem}

abbrev pub mem : Mem
mem = record {}
