use Rattle.nf_locked.proofs.Working.{item_taken, task_taken, taken_within}
use Rattle.nf_locked.proofs.moves.work_of.Goals as goal

pub bounds-nodes-node : goal.bounds-nodes-node
bounds-nodes-node g c = taken_within g.J.Fixed.facts c.args.run.now c.flow.result.now c.graph.result.now c.nodes-nodes.result.now c.node-node.result c.args.ticket c.holds.ensures.graph c.flow.ensures c.graph.ensures c.nodes-nodes.ensures.nodes c.node-node.ensures c.requires

pub returns-then-is_operator-clause-work : goal.returns-then-is_operator-clause-work
returns-then-is_operator-clause-work g c = item_taken g.J.Fixed.facts c.args.run.now c.flow.result.now c.graph.result.now c.nodes-nodes.result.now c.node-node.result c.args.ticket c.holds.ensures.graph c.flow.ensures c.graph.ensures c.nodes-nodes.ensures.nodes c.node-node.ensures c.requires c.index-nodes-node.result c.index-nodes-node.is c.if-is_operator.ensures

pub returns-clause-work : goal.returns-clause-work
returns-clause-work g c = task_taken g.J.Fixed.facts c.args.run.now c.flow.result.now c.graph.result.now c.nodes-nodes.result.now c.node-node.result c.args.ticket c.holds.ensures.graph c.flow.ensures c.graph.ensures c.nodes-nodes.ensures.nodes c.node-node.ensures c.requires c.index-nodes-node.result c.index-nodes-node.is c.if-is_operator.ensures
