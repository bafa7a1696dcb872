use Rattle.std.proofs.Common.{◌≡◌, ◌++◌, ◌-◌}
use Rattle.nf_writer.specs.Ink.{inked}
use Rattle.nf_printer.specs.Chains.{colons}
use Rattle.nf_printer.proofs.branches.put_colons.Given as goal

abbrev pub invariant-loop-colon : goal.invariant-loop-colon
invariant-loop-colon l = l.out ++ inked (colons (l.asked - l.colon)) ≡ l.initial.out ++ inked (colons l.asked)
