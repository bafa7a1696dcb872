use Rattle.nf_machine.proofs.Refused.{fails_its_run}
use Rattle.nf_machine.proofs.laws.attempt_without_a_job.Goals as goal

pub returns : goal.returns
returns c = fails_its_run
