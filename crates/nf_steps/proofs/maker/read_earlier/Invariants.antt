use Rattle.std.proofs.Common.{ℕ, ◌<◌, length}
use Rattle.nf_graph.specs.Node.{port_in}
use Rattle.nf_graph.specs.WellMade.{ReadsEarlier}
use Rattle.nf_steps.proofs.maker.read_earlier.Given as goal

abbrev pub invariant-loop-at : goal.invariant-loop-at
invariant-loop-at l = (k : ℕ) → k < l.at → ReadsEarlier l.nodes (length l.nodes) (port_in l.ports k)
