use Rattle.std.proofs.Common.{arith}
use Rattle.nf_nodes.specs.Marks.{all, below}
use Rattle.nf_nodes.proofs.Opened.{none_below, node_more, nodes_done}
use Rattle.nf_nodes.proofs.nodes.Nodes.note_nodes.Goals as goal

pub loop-node-init : goal.loop-node-init
loop-node-init c s h f = none_below c.args.nodes.now s all c.args.self.now h

pub note_node-requires-clause-node : goal.note_node-requires-clause-node
note_node-requires-clause-node c = record {
  state = c.requires.state;
  shows = (c.loop-node.invariant c.requires.state c.requires.marks c.requires.flying).shows;
  below = (let t = c.loop-node-test.true in omega arith);
}

pub note_node-requires-clause-flights : goal.note_node-requires-clause-flights
note_node-requires-clause-flights c = let t = c.loop-node-test.true in let e = c.requires.flying.nodes_are in omega arith

pub loop-node-preserved : goal.loop-node-preserved
loop-node-preserved c s h f =
    node_more c.args.nodes.now s all c.loop-node.node c.note_node.new.self (c.note_node.ensures.marks s (below c.loop-node.node) (c.loop-node.invariant s h f) f)

pub returns : goal.returns
returns c s h f = nodes_done c.args.nodes.now s c.loop-node.node c.loop-node.self (let t = c.loop-node-test.false in omega arith) (c.loop-node.invariant s h f)
