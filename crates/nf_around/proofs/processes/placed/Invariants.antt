use Rattle.std.proofs.Common.{◌≡◌, take}
use Rattle.nf_around.specs.Processes.{placed_at}
use Rattle.nf_around.proofs.processes.placed.Given as goal

abbrev pub invariant-loop-name : goal.invariant-loop-name
invariant-loop-name l = l.params.items ≡ placed_at l.place (take l.name-index l.names)
