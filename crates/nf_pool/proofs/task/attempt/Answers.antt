use Rattle.nf_pool.proofs.Works.{begun_left, owed_for_look, owed_one, owed_when_over, works_owed, works_run, works_still, works_then}
use Rattle.nf_pool.proofs.task.attempt.Goals as goal

pub returns-in-Err-clause-works : goal.returns-in-Err-clause-works
returns-in-Err-clause-works g c = works_still _ c.requires.few

pub look-requires-clause-left : goal.look-requires-clause-left
look-requires-clause-left g c = begun_left g.J.Fixed.facts c.in-Ok.job c.begin.result c.in-Look.report c.in-Look.is c.begin.ensures.next

pub returns-in-Run-clause-works : goal.returns-in-Run-clause-works
returns-in-Run-clause-works g c = works_run c.run_job.ensures.later c.args.owed.now.amount c.args.lost.now.amount c.begin.new.owed.amount c.run_job.new.lost.amount (owed_one c.begin.result c.begin.new.owed.amount c.args.owed.now.amount c.in-Run.is c.begin.ensures.owed) c.begin.ensures.few c.run_job.ensures.once c.run_job.ensures.more c.run_job.ensures.rose

pub returns-in-Look-clause-works : goal.returns-in-Look-clause-works
returns-in-Look-clause-works g c = works_then (works_owed _ c.args.owed.now.amount c.begin.new.owed.amount c.args.lost.now.amount (owed_for_look c.begin.result c.in-Look.report c.begin.new.owed.amount c.args.owed.now.amount c.in-Look.is c.begin.ensures.owed) c.begin.ensures.few) c.look.ensures.works

pub returns-clause-works : goal.returns-clause-works
returns-clause-works g c = works_owed _ c.args.owed.now.amount c.begin.new.owed.amount c.args.lost.now.amount (owed_when_over c.begin.result c.begin.new.owed.amount c.args.owed.now.amount c.in-Over.is c.begin.ensures.owed) c.begin.ensures.few
