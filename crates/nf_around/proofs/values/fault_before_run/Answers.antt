use Rattle.std.proofs.Common.{Err, subst}
use Rattle.nf_placed.specs.Placed.{Evaluates}
use Rattle.nf_around.proofs.Evaluated.{known_fault}
use Rattle.nf_around.proofs.values.fault_before_run.Goals as goal

pub returns-in-Fault : goal.returns-in-Fault
returns-in-Fault c due h = known_fault due c.in-Fault.fault (subst (λ e. Evaluates due (Err e)) c.in-Fault.is h)
