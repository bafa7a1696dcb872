use Rattle.std.proofs.Common.{refl}
use Rattle.nf_nodes.specs.Steps.{taken}
use Rattle.nf_nodes.proofs.Deciding.{is_read, after_take, take_noted}
use Rattle.nf_nodes.proofs.nodes.Nodes.take.Goals as goal

pub can_take-can_take-requires : goal.can_take-can_take-requires
can_take-can_take-requires c =
    let s = c.requires.state in let h = c.requires.shows in
    let r = is_read c.args.nodes.now s c.args.self.now h c.args.node c.args.port c.args.place c.requires.below c.index-nodes-at.result c.index_mut.result.now c.index-nodes-at.is c.index_mut.ensures.value in
    let d = after_take c.args.nodes.now s c.args.self.now h c.args.node c.args.port c.args.place c.requires.below c.index-nodes-at.result c.index_mut.result.now c.index-nodes-at.is c.index_mut.ensures.value _ c.take.new.self
    (c.in_ok-taken.ensures.after (s.spots c.args.node) r) refl refl refl refl in
    record { state = taken c.args.nodes.now s c.args.node c.args.port c.args.place; shows = d.shows; below = c.requires.below }

pub returns-clause-after : goal.returns-clause-after
returns-clause-after c s h may =
    let r = is_read c.args.nodes.now s c.args.self.now h c.args.node c.args.port c.args.place c.requires.below c.index-nodes-at.result c.index_mut.result.now c.index-nodes-at.is c.index_mut.ensures.value in
    let d = after_take c.args.nodes.now s c.args.self.now h c.args.node c.args.port c.args.place c.requires.below c.index-nodes-at.result c.index_mut.result.now c.index-nodes-at.is c.index_mut.ensures.value _ c.take.new.self
    (c.in_ok-taken.ensures.after (s.spots c.args.node) r) refl refl refl refl in
    take_noted c.args.nodes.now s _ c.set_node.new.self c.args.node c.args.port c.args.place c.can_take-can_take.result d
    (c.can_take-can_take.ensures (taken c.args.nodes.now s c.args.node c.args.port c.args.place) d.shows) c.set_node.ensures.takes c.set_node.ensures.closes c.set_node.ensures.ports.0 c.set_node.ensures.ports.1
    (c.set_node.ensures.sized c.args.nodes.now h.shows.sized)
