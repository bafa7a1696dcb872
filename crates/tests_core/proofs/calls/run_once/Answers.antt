use Rattle.std.proofs.Common.{sym}
use Rattle.tests_core.proofs.Trying.{task_at, under}
use Rattle.tests_core.proofs.Calling.{entered, runs}
use Rattle.nf_stored.specs.Attempts.{IsJobOf}
use Rattle.nf_core.specs.Told.{attempt_by}
use Rattle.tests_core.proofs.calls.run_once.Goals as goal

pub begin-requires-clause-task : goal.begin-requires-clause-task
begin-requires-clause-task g c = task_at g.J.Fixed.facts c.args.run.now c.args.ticket c.requires.tried c.holds.ensures.graph c.in_ok-job.ensures.node

pub begin-requires-clause-job : goal.begin-requires-clause-job
begin-requires-clause-job g c = under g.J.Fixed.facts (λ R. IsJobOf R (attempt_by c.args.ticket) c.in_ok-job.job) c.requires.tried c.in_ok-job.ensures.job

pub finish-requires-clause-rules : goal.finish-requires-clause-rules
finish-requires-clause-rules g c = sym c.requires.tried.rules

pub finish-requires-clause-ticket : goal.finish-requires-clause-ticket
finish-requires-clause-ticket g c =
    (runs c.started_stays.ensures g.J.Fixed.facts c.args.run.now c.begin.new.self c.args.ticket c.in-Run.ticket c.in_ok-job.job c.begin.result c.requires.tried c.holds.ensures.graph c.holds.ensures.lawful c.requires.ticket
    c.in_ok-job.ensures.node c.in_ok-job.ensures.job c.begin.ensures c.in-Run.is).flying

pub finish-requires-clause-task : goal.finish-requires-clause-task
finish-requires-clause-task g c =
    (runs c.started_stays.ensures g.J.Fixed.facts c.args.run.now c.begin.new.self c.args.ticket c.in-Run.ticket c.in_ok-job.job c.begin.result c.requires.tried c.holds.ensures.graph c.holds.ensures.lawful c.requires.ticket
    c.in_ok-job.ensures.node c.in_ok-job.ensures.job c.begin.ensures c.in-Run.is).task

pub finish-requires-clause-job : goal.finish-requires-clause-job
finish-requires-clause-job g c =
    (runs c.started_stays.ensures g.J.Fixed.facts c.args.run.now c.begin.new.self c.args.ticket c.in-Run.ticket c.in_ok-job.job c.begin.result c.requires.tried c.holds.ensures.graph c.holds.ensures.lawful c.requires.ticket
    c.in_ok-job.ensures.node c.in_ok-job.ensures.job c.begin.ensures c.in-Run.is).of

pub finish-requires-clause-ran : goal.finish-requires-clause-ran
finish-requires-clause-ran g c =
    entered g.J.Fixed.facts g.L.Done.Finished.genuine g.L.Done.Finished.job g.L.Done.Finished.told c.in-Run.ticket c.in_ok-job.job c.in-Ok.done c.in_ok-ran.ran (g.L.Lane.world c.args.lane.now) (g.L.Lane.store c.args.lane.now)
    c.requires.tried c.requires.lane c.in-Ok.ensures.told c.in-Ok.ensures.genuine c.in-Ok.ensures.of_the_job c.in_ok-ran.ensures
