use Rattle.std.proofs.Common.{refl}
use Rattle.nf_spot.proofs.Takes.{process_ready, process_room, process_taken_at, process_after_at}
use Rattle.nf_spot.proofs.node_state.NodeState.take_instance.Goals as goal

pub take_inputs-requires : goal.take_inputs-requires
take_inputs-requires c = process_ready c.args.node.now c.args.queue c.args.self.now c.args.port c.args.place c.requires.kind c.requires.fits c.requires.may

pub count-requires : goal.count-requires
count-requires c =
    process_room c.args.node.now c.args.queue c.args.self.now c.args.port c.args.place c.requires.kind c.requires.fits c.requires.may _ c.in_ok-inputs.ensures.kept c.requires.room

pub returns-clause-taken : goal.returns-clause-taken
returns-clause-taken c sp h =
    process_taken_at c.args.node.now c.args.queue c.args.self.now c.args.port c.args.place c.requires.kind c.requires.fits c.requires.may sp h _ _ _ c.in_ok-inputs.ensures.kept c.in_ok-inputs.ensures.inputs c.in_ok-n.ensures.number

pub returns-clause-after : goal.returns-clause-after
returns-clause-after c sp h =
    process_after_at c.args.node.now c.args.queue c.args.self.now c.args.port c.args.place c.requires.kind c.requires.fits c.requires.may sp h _ c.take_inputs.new.self _ c.in_ok-inputs.ensures.inputs
    (c.in_ok-inputs.ensures.after c.args.node.now sp h) refl refl refl c.in_ok-n.ensures.after
