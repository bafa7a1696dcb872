use Rattle.nf_operator.proofs.Emptiness.{begun_empty}
use Rattle.nf_operator.proofs.gathers.Gathers.if_empty.Goals as goal

pub returns : goal.returns
returns c = begun_empty c.args.opts.now.start c.in_ok-begin.field-0 c.requires c.in_ok-begin.ensures
