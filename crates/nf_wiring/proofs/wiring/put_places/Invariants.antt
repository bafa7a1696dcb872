use Rattle.std.proofs.Common.{◌≡◌, ◌++◌}
use Rattle.nf_wiring.specs.Places.{row}
use Rattle.nf_wiring.proofs.wiring.put_places.Given as goal

abbrev pub invariant-loop-port : goal.invariant-loop-port
invariant-loop-port l = l.places.items ≡ l.initial.places.items ++ row l.node 0 l.port
