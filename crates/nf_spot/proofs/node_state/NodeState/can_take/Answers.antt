use Rattle.nf_spot.proofs.Takes.{takes_new, takes_old}
use Rattle.nf_spot.proofs.node_state.NodeState.can_take.Goals as goal

pub returns-then-taken-eq0 : goal.returns-then-taken-eq0
returns-then-taken-eq0 c sp h = takes_new c.args.node.now sp c.args.self.now _ c.taken.result c.in-Process.is c.in-None.is h c.if-not-is_full.ensures c.taken.ensures c.if-taken-eq0.true

pub returns-else-taken-eq0 : goal.returns-else-taken-eq0
returns-else-taken-eq0 c sp h = takes_old c.args.node.now sp c.args.self.now _ c.taken.result c.in-Process.is c.in-None.is h c.if-not-is_full.ensures c.taken.ensures c.if-taken-eq0.false
