use Rattle.std.proofs.Common.{◌≡◌, ◌++◌, drop}
use Rattle.nf_wiring.specs.Places.{places_from}
use Rattle.nf_wiring.proofs.wiring.places_of.Given as goal

abbrev pub invariant-loop-at : goal.invariant-loop-at
invariant-loop-at l = l.places.items ++ places_from l.at (drop l.at l.nodes) ≡ places_from 0 l.nodes
