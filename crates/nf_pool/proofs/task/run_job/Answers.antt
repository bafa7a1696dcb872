use Rattle.nf_pool.proofs.Works.{is_lane, stop_rose}
use Rattle.nf_pool.proofs.task.run_job.Goals as goal

pub ran_by-requires-clause-told : goal.ran_by-requires-clause-told
ran_by-requires-clause-told g c = is_lane c.requires.lane

pub returns-in-Err-clause-rose : goal.returns-in-Err-clause-rose
returns-in-Err-clause-rose g c = λ more. stop_rose (g.L.Lane.faults c.args.lane.now) (g.L.Lane.faults c.ran_by.new.lane) c.in-Err.stop c.in-Err.ensures.ran (c.lose.ensures.blamed more)
