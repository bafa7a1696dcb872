use Rattle.nf_nodes.specs.Marks.{all}
use Rattle.nf_nodes.proofs.Noting.{noted_node, kept_rest}
use Rattle.nf_nodes.proofs.nodes.Nodes.note_node.Goals as goal

pub returns-clause-marks : goal.returns-clause-marks
returns-clause-marks c s q h flying =
    noted_node c.args.nodes.now s all q c.args.self.now c.set_node.new.self c.args.node c.can_take-can_take.result c.can_close-can_close.result h (c.can_take-can_take.ensures s h.shows)
    (c.can_close-can_close.ensures s q h flying) c.set_node.ensures.takes c.set_node.ensures.closes c.set_node.ensures.ports.0 c.set_node.ensures.ports.1 (c.set_node.ensures.sized c.args.nodes.now h.shows.sized)

pub returns-clause-rest : goal.returns-clause-rest
returns-clause-rest c = kept_rest c.args.nodes.now c.args.self.now c.set_node.new.self c.set_node.ensures.sized
