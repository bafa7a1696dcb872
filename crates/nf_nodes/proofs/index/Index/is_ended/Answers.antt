use Rattle.std.proofs.Common.{rules}
use Rattle.nf_nodes.proofs.Sets.{none_in}
use Rattle.nf_nodes.proofs.index.Index.is_ended.Goals as goal

pub returns : goal.returns
returns c = none_in c.args.self.now.live.items c.args.node c.index.result.now c.any.result c.is_none.result c.requires (search rules) c.is_none.ensures c.any.ensures
