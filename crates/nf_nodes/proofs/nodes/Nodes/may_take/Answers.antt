use Rattle.std.proofs.Common.{rules}
use Rattle.nf_nodes.proofs.Readying.{no_node_takes, take_legal}
use Rattle.nf_nodes.proofs.Showing.{fits_there}
use Rattle.nf_nodes.proofs.nodes.Nodes.may_take.Goals as goal

pub returns-then-at-nodes : goal.returns-then-at-nodes
returns-then-at-nodes c s h = no_node_takes c.args.nodes.now s c.args.node c.args.port c.args.place c.if-at-nodes.true

pub may_take-requires : goal.may_take-requires
may_take-requires c = fits_there c.args.nodes.now c.requires.state c.args.self.now c.requires.shows c.args.node c.index-nodes-at.result c.if-at-nodes.false c.index-nodes-at.is

pub returns : goal.returns
returns c s h =
    take_legal c.args.nodes.now s c.args.self.now h c.args.node c.args.port c.args.place c.index-nodes-at.result c.index.result.now c.may_take.result c.if-at-nodes.false c.index-nodes-at.is (search rules) c.may_take.ensures
