use Rattle.nf_walked.specs.Around.{Knows}
use Rattle.nf_walked.proofs.Binding.{AreNew}
use Rattle.nf_walked.proofs.walker.Walker.check_new.Given as goal

abbrev pub invariant-loop-at : goal.invariant-loop-at
invariant-loop-at g l = AreNew (Knows g.N.Natives.titles g.N.Natives.answer l.self) l.names l.at l.state
