use Rattle.std.proofs.Common.{◌≡◌, false, rules, true}
use Rattle.nf_pool.proofs.Works.{owed_not, owed_so, works_owed, works_run}
use Rattle.nf_pool.proofs.task.run_anew.Goals as goal

pub returns-then-start_gone-clause-works : goal.returns-then-start_gone-clause-works
returns-then-start_gone-clause-works g c =
    let yes : c.start_gone.result ≡ true = search rules in
    works_run c.run_job.ensures.later c.args.owed.now.amount c.args.lost.now.amount c.start_gone.new.owed.amount c.run_job.new.lost.amount (owed_so c.start_gone.result c.start_gone.new.owed.amount c.args.owed.now.amount yes c.start_gone.ensures.owed) c.start_gone.ensures.few c.run_job.ensures.once c.run_job.ensures.more c.run_job.ensures.rose

pub returns-clause-works : goal.returns-clause-works
returns-clause-works g c =
    let no : c.start_gone.result ≡ false = search rules in
    works_owed _ c.args.owed.now.amount c.start_gone.new.owed.amount c.args.lost.now.amount (owed_not c.start_gone.result c.start_gone.new.owed.amount c.args.owed.now.amount no c.start_gone.ensures.owed) c.start_gone.ensures.few
