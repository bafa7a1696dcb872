use Rattle.nf_pairs.proofs.Putting.{PutsAfter}
use Rattle.nf_pairs.proofs.put.place_of.Given as goal

abbrev pub invariant-loop-i : goal.invariant-loop-i
invariant-loop-i l = PutsAfter l.key l.pairs l.i
