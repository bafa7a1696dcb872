use Rattle.nf_spot.proofs.Takes.{spent_once}
use Rattle.nf_spot.proofs.node_state.NodeState.is_spent.Goals as goal

pub returns-in-None : goal.returns-in-None
returns-in-None c sp h = spent_once c.args.node.now sp c.args.self.now _ c.taken.result c.in-Process.is c.in-None.is h c.if-not-is_full.ensures c.taken.ensures
