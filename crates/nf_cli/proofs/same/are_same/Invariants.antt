use Rattle.nf_plan.specs.Plans.{want_of}
use Rattle.nf_cli.proofs.Alike.{SameTo}
use Rattle.nf_cli.proofs.same.are_same.Given as goal

abbrev pub invariant-loop-at : goal.invariant-loop-at
invariant-loop-at l = SameTo want_of l.wants l.others l.at
