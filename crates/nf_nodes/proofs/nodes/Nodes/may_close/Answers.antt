use Rattle.std.proofs.Common.{arith}
use Rattle.nf_nodes.proofs.Readying.{close_told, no_node_closes}
use Rattle.nf_nodes.proofs.nodes.Nodes.may_close.Goals as goal

pub returns-then-at-nodes : goal.returns-then-at-nodes
returns-then-at-nodes c s h = no_node_closes c.args.nodes.now s c.args.node c.if-at-nodes.true

pub contains-requires : goal.contains-requires
contains-requires c = let e = c.requires.shows.sized.closable in let t = c.if-at-nodes.false in omega (arith, e, t)

pub returns : goal.returns
returns c s h = close_told c.args.nodes.now s c.args.self.now h c.args.node c.contains.result c.if-at-nodes.false c.contains.ensures
