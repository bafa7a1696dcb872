use Rattle.std.proofs.Common.{rules, arith}
use Rattle.nf_nodes.proofs.Showing.{fits_there}
use Rattle.nf_nodes.proofs.Deciding.{none_closed, none_ended, none_quiet, close_told}
use Rattle.nf_nodes.proofs.nodes.Nodes.can_close.Goals as goal

pub returns-then-index : goal.returns-then-index
returns-then-index c s q h f = none_closed c.args.nodes.now s q c.args.self.now h c.args.node c.requires.node.below c.index.result.now (search rules) (search rules)

pub returns-then-not-is_ended : goal.returns-then-not-is_ended
returns-then-not-is_ended c s q h f = none_ended c.args.nodes.now s q c.args.self.now h c.args.node c.requires.node.below (c.numbers.ensures.each c.args.nodes.now) c.is_ended.result (search rules) c.is_ended.ensures

pub returns-then-of_node-ne0 : goal.returns-then-of_node-ne0
returns-then-of_node-ne0 c s q h f = none_quiet c.args.nodes.now s q c.args.self.now h c.args.node c.requires.node.below c.of_node.result (search rules) (c.of_node.ensures s.next s.tickets f.shows)

pub is_spent-requires : goal.is_spent-requires
is_spent-requires c = fits_there c.args.nodes.now c.requires.node.state c.args.self.now c.requires.node.shows c.args.node c.index-nodes-at.result c.requires.node.below c.index-nodes-at.is

pub returns : goal.returns
returns c s q h f =
    close_told c.args.nodes.now s q c.args.self.now h c.args.node c.requires.node.below (c.numbers.ensures.each c.args.nodes.now) c.index-nodes-at.result c.index-2.result.now c.index.result.now c.is_ended.result c.of_node.result c.is_spent.result
    c.index-nodes-at.is (search rules) (search rules) (search rules) (search rules) c.is_ended.ensures (search rules) (c.of_node.ensures s.next s.tickets f.shows) c.is_spent.ensures
