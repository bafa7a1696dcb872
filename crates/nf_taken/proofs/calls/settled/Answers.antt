use Rattle.nf_taken.proofs.Settling.{settled}
use Rattle.nf_taken.proofs.calls.settled.Goals as goal

pub returns : goal.returns
returns c = settled c.args.opts c.args.start c.args.outs c.args.operator c.key.result c.beginning.result c.key.ensures c.beginning.ensures
