use Rattle.nf_agreed.proofs.Outputs.{one_queue}
use Rattle.nf_agreed.proofs.laws.one_queue.Goals as goal

pub returns : goal.returns
returns c gs cs h none = one_queue gs cs h none
