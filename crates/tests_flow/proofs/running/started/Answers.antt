use Rattle.std.proofs.Common.{subst, sym}
use Rattle.nf_flow.specs.Questions.{IsFlying}
use Rattle.tests_flow.proofs.running.started.Goals as goal

pub returns-in-Some-clause-flying : goal.returns-in-Some-clause-flying
returns-in-Some-clause-flying c = subst (IsFlying c.start.new.flow) (sym c.in-Some.ensures.starts.0) c.in-Some.ensures.starts.2
