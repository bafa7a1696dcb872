use Rattle.nf_takes.proofs.Binding.{IsBinding}
use Rattle.nf_takes.proofs.tables.bound.Given as goal

abbrev pub invariant-loop-at : goal.invariant-loop-at
invariant-loop-at l = IsBinding l.names l.ports l.at l.table.entries
