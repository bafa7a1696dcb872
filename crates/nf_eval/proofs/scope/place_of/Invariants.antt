use Rattle.nf_eval.proofs.Names.{IsSought}
use Rattle.nf_eval.proofs.scope.place_of.Given as goal

abbrev pub invariant-loop-end : goal.invariant-loop-end
invariant-loop-end l = IsSought l.name l.names l.end

abbrev pub decreases-loop-end : goal.decreases-loop-end
decreases-loop-end l = l.end
