use Rattle.nf_spot.proofs.Takes.{no_source, op_ready, op_taken_if, op_after_if}
use Rattle.nf_spot.proofs.node_state.NodeState.take.Goals as goal

pub unreachable-requires : goal.unreachable-requires
unreachable-requires c = no_source c.args.node.now _ c.args.self.now c.args.port c.args.place c.in-Source.is c.requires.may

pub take_item-requires : goal.take_item-requires
take_item-requires c = op_ready c.args.node.now _ _ c.args.self.now c.args.port c.args.place c.in-Op.is c.requires.may

pub take_instance-requires-clause-kind : goal.take_instance-requires-clause-kind
take_instance-requires-clause-kind c = c.in-Process.is

pub returns-in-Op-clause-taken : goal.returns-in-Op-clause-taken
returns-in-Op-clause-taken c sp h = op_taken_if c.args.node.now _ _ c.args.self.now c.args.port c.args.place c.in-Op.is c.requires.may c.take_item.result sp h c.take_item.ensures.inputs c.take_item.ensures.n

pub returns-in-Op-clause-after : goal.returns-in-Op-clause-after
returns-in-Op-clause-after c sp h = op_after_if c.args.node.now _ _ c.args.self.now c.args.port c.args.place c.in-Op.is c.requires.may c.take_item.result sp c.take_item.new.self (c.take_item.ensures.after c.args.node.now sp h)

pub returns-in-Process-clause-taken : goal.returns-in-Process-clause-taken
returns-in-Process-clause-taken c = c.take_instance.ensures.taken

pub returns-in-Process-clause-after : goal.returns-in-Process-clause-after
returns-in-Process-clause-after c = c.take_instance.ensures.after
