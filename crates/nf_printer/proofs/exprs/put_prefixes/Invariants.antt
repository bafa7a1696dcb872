use Rattle.std.proofs.Common.{◌≡◌, ◌++◌, drop}
use Rattle.nf_writer.specs.Ink.{inked}
use Rattle.nf_printer.specs.Chains.{prefixes_inks}
use Rattle.nf_printer.proofs.exprs.put_prefixes.Given as goal

abbrev pub invariant-loop-prefix : goal.invariant-loop-prefix
invariant-loop-prefix l = l.out ++ inked (prefixes_inks (drop l.prefix-index l.prefixes)) ≡ l.initial.out ++ inked (prefixes_inks l.prefixes)
