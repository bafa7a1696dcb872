use Rattle.nf_tops.proofs.Tops.{NoneSoFar}
use Rattle.nf_tops.proofs.entry.entry_of.Given as goal

abbrev pub invariant-loop-top : goal.invariant-loop-top
invariant-loop-top l = NoneSoFar l.tops l.top-index
