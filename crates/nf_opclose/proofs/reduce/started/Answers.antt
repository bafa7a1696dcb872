use Rattle.std.proofs.Common.{[], subst}
use Rattle.nf_opclose.specs.Running.{IsRunning}
use Rattle.nf_opclose.proofs.Reductions.{start_listed}
use Rattle.nf_opclose.proofs.reduce.started.Goals as goal

pub returns-in_ok-copy-in-Some-clause-running : goal.returns-in_ok-copy-in-Some-clause-running
returns-in_ok-copy-in-Some-clause-running c = λ h. subst (λ vs. IsRunning vs c.with.result) (start_listed c.args.start.now c.in-Some.value c.in_ok-copy-in-Some.field-0 c.in-Some.is c.in_ok-copy-in-Some.ensures) (c.with.ensures.running [] h)
