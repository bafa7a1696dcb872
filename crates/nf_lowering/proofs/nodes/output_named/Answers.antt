use Rattle.std.proofs.Common.{ap}
use Rattle.nf_lowering.specs.Nodes.{named_at}
use Rattle.nf_lowering.proofs.nodes.output_named.Goals as goal

pub returns : goal.returns
returns c = ap (named_at c.args.first c.args.out) c.in_ok-label.ensures
