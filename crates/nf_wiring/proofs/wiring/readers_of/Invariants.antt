use Rattle.nf_wiring.specs.Places.{AreReaders}
use Rattle.nf_wiring.proofs.wiring.readers_of.Given as goal

abbrev pub invariant-loop-number : goal.invariant-loop-number
invariant-loop-number l = AreReaders l.nodes l.number l.readers.items
