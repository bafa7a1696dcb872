use Rattle.nf_infix.proofs.Putting.{PutsAfter}
use Rattle.nf_infix.proofs.pairs.place_of.Given as goal

abbrev pub invariant-loop-i : goal.invariant-loop-i
invariant-loop-i l = PutsAfter l.key l.pairs l.i
