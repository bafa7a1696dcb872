use Rattle.nf_plan.proofs.Named.{jobs_named}
use Rattle.nf_plan.proofs.laws.jobs_are_named.Goals as goal

pub returns : goal.returns
returns c n b plan = jobs_named n b plan
