use Rattle.nf_serial.proofs.Going.{serves_alone}
use Rattle.nf_serial.proofs.Turns.{index_there, item_of_operator, node_there, task_of_process}
use Rattle.nf_serial.proofs.one_lane.serve.Goals as goal

pub bounds-nodes-node : goal.bounds-nodes-node
bounds-nodes-node g c =
    index_there c.args.run.now c.flow.result.now c.args.ticket c.graph.result.now c.nodes-nodes.result.now c.node-node.result c.flow.ensures c.graph.ensures c.nodes-nodes.ensures.nodes c.node-node.ensures c.requires.ticket

pub answer-requires-clause-ticket : goal.answer-requires-clause-ticket
answer-requires-clause-ticket g c =
    item_of_operator c.args.run.now c.args.ticket c.index-nodes-node.result c.requires.ticket
    (node_there c.args.run.now c.flow.result.now c.args.ticket c.graph.result.now c.nodes-nodes.result.now c.node-node.result c.index-nodes-node.result c.flow.ensures c.graph.ensures c.nodes-nodes.ensures.nodes c.node-node.ensures c.index-nodes-node.is)
    c.if-is_operator.ensures

pub returns-then-is_operator-clause-idle : goal.returns-then-is_operator-clause-idle
returns-then-is_operator-clause-idle g c = c.answer.ensures.idle

pub returns-then-is_operator-clause-serves : goal.returns-then-is_operator-clause-serves
returns-then-is_operator-clause-serves g c = serves_alone _ c.answer.ensures.goes c.requires.lane.told

pub task-requires-clause-ticket : goal.task-requires-clause-ticket
task-requires-clause-ticket g c =
    task_of_process c.args.run.now c.args.ticket c.index-nodes-node.result c.requires.ticket
    (node_there c.args.run.now c.flow.result.now c.args.ticket c.graph.result.now c.nodes-nodes.result.now c.node-node.result c.index-nodes-node.result c.flow.ensures c.graph.ensures c.nodes-nodes.ensures.nodes c.node-node.ensures c.index-nodes-node.is)
    c.if-is_operator.ensures
