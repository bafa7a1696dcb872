use Rattle.nf_stored.specs.Attempts.{IsJobOf}
use Rattle.nf_core.specs.Told.{attempt_by}
use Rattle.tests_core.proofs.Trying.{task_at, under}
use Rattle.tests_core.proofs.Calling.{starts_so}
use Rattle.nf_machine.specs.declared.event.Cause.TheVariants.{NotAsked}
use Rattle.tests_core.proofs.calls.start_once.Goals as goal

pub start-requires-clause-task : goal.start-requires-clause-task
start-requires-clause-task g c = task_at g.J.Fixed.facts c.args.run.now c.args.ticket c.requires.tried c.holds.ensures.graph c.in_ok-job.ensures.node

pub start-requires-clause-job : goal.start-requires-clause-job
start-requires-clause-job g c = under g.J.Fixed.facts (λ R. IsJobOf R (attempt_by c.args.ticket) c.in_ok-job.job) c.requires.tried c.in_ok-job.ensures.job

pub returns-in-Some : goal.returns-in-Some
returns-in-Some g c =
    starts_so c.started_stays.ensures g.J.Fixed.facts c.args.run.now c.start.new.self c.args.ticket c.in-Some.started NotAsked c.start.result c.holds.ensures.lawful c.requires.ticket c.start.ensures c.in-Some.is
