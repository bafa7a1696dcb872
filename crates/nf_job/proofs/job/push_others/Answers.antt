use Rattle.nf_job.specs.JobText.{five_items}
use Rattle.nf_job.proofs.Pushes.{five_pushed}
use Rattle.nf_job.proofs.job.push_others.Goals as goal

pub returns-clause-items : goal.returns-clause-items
unfolding five_items
returns-clause-items c = five_pushed _ _ _ _ _ _ _ _ _ _ _ _ _ _ c.in_ok-push.ensures c.in_ok-push-2.ensures c.in_ok-push-3.ensures c.in_ok-push-4.ensures c.in_ok-push_number.ensures.items c.in_ok-stdin_value.ensures c.in_ok-files_value.ensures c.in_ok-texts_value.ensures
