use Rattle.std.proofs.Common.{sym}
use Rattle.nf_stored.specs.Attempts.{IsJobOf}
use Rattle.nf_core.specs.Told.{attempt_by}
use Rattle.tests_core.proofs.Trying.{task_at, under}
use Rattle.tests_core.proofs.Calling.{looks}
use Rattle.tests_core.proofs.calls.reuse_once.Goals as goal

pub begin-requires-clause-task : goal.begin-requires-clause-task
begin-requires-clause-task g c = task_at g.J.Fixed.facts c.args.run.now c.args.ticket c.requires.tried c.holds.ensures.graph c.in_ok-job.ensures.node

pub begin-requires-clause-job : goal.begin-requires-clause-job
begin-requires-clause-job g c = under g.J.Fixed.facts (λ R. IsJobOf R (attempt_by c.args.ticket) c.in_ok-job.job) c.requires.tried c.in_ok-job.ensures.job

pub reuse-requires-clause-rules : goal.reuse-requires-clause-rules
reuse-requires-clause-rules g c = sym c.requires.tried.rules

pub reuse-requires-clause-ticket : goal.reuse-requires-clause-ticket
reuse-requires-clause-ticket g c =
    (looks g.J.Fixed.facts c.args.run.now c.begin.new.self c.args.ticket c.in-Look.ticket c.in_ok-job.job c.in-Look.report c.begin.result c.requires.tried c.holds.ensures.graph c.requires.ticket
    c.in_ok-job.ensures.node c.in_ok-job.ensures.job c.begin.ensures c.in-Look.is).has.flying

pub reuse-requires-clause-task : goal.reuse-requires-clause-task
reuse-requires-clause-task g c =
    (looks g.J.Fixed.facts c.args.run.now c.begin.new.self c.args.ticket c.in-Look.ticket c.in_ok-job.job c.in-Look.report c.begin.result c.requires.tried c.holds.ensures.graph c.requires.ticket
    c.in_ok-job.ensures.node c.in_ok-job.ensures.job c.begin.ensures c.in-Look.is).has.task

pub reuse-requires-clause-job : goal.reuse-requires-clause-job
reuse-requires-clause-job g c =
    (looks g.J.Fixed.facts c.args.run.now c.begin.new.self c.args.ticket c.in-Look.ticket c.in_ok-job.job c.in-Look.report c.begin.result c.requires.tried c.holds.ensures.graph c.requires.ticket
    c.in_ok-job.ensures.node c.in_ok-job.ensures.job c.begin.ensures c.in-Look.is).has.of

pub reuse-requires-clause-left : goal.reuse-requires-clause-left
reuse-requires-clause-left g c =
    (looks g.J.Fixed.facts c.args.run.now c.begin.new.self c.args.ticket c.in-Look.ticket c.in_ok-job.job c.in-Look.report c.begin.result c.requires.tried c.holds.ensures.graph c.requires.ticket
    c.in_ok-job.ensures.node c.in_ok-job.ensures.job c.begin.ensures c.in-Look.is).left
