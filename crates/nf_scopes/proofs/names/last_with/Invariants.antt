use Rattle.std.proofs.Common.{◌≤◌, map, length, drop}
use Rattle.nf_scopes.specs.Tables.{NoneHas}
use Rattle.nf_scopes.proofs.Places.{entries_of}
use Rattle.nf_scopes.proofs.names.last_with.Given as goal

abbrev pub invariant-loop-end : goal.invariant-loop-end
invariant-loop-end l = record { within : l.end ≤ length l.tables; none : NoneHas l.name (drop l.end (map entries_of l.tables)) }

abbrev pub decreases-loop-end : goal.decreases-loop-end
decreases-loop-end l = l.end
