use Rattle.nf_takes.proofs.Taken.{IsTaking}
use Rattle.nf_takes.proofs.takes.check_taken.Given as goal

abbrev pub invariant-loop-at : goal.invariant-loop-at
invariant-loop-at l = IsTaking l.names l.at
