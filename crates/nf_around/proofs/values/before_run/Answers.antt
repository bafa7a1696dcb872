use Rattle.std.proofs.Common.{subst}
use Rattle.nf_placed.specs.Placed.{Evaluates}
use Rattle.nf_around.proofs.Evaluated.{known_value}
use Rattle.nf_around.proofs.values.before_run.Goals as goal

pub returns-in-Ok : goal.returns-in-Ok
returns-in-Ok c due h = known_value due c.in-Ok.value (subst (λ r. Evaluates due r) c.in-Ok.is h)

pub returns-in-Err : goal.returns-in-Err
returns-in-Err c due h = c.fault_before_run.ensures due (subst (λ r. Evaluates due r) c.in-Err.is h)
