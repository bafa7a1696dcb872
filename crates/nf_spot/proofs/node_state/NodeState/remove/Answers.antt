use Rattle.std.proofs.Common.{refl, arith}
use Rattle.nf_spot.proofs.Waiting.{within}
use Rattle.nf_spot.proofs.Ports.{left_at}
use Rattle.nf_spot.proofs.node_state.NodeState.remove.Goals as goal

pub set-requires : goal.set-requires
set-requires c = let l = within c.args.self.now.inlets.items c.args.port c.args.place c.requires in let e = c.args.self.now.sized in omega arith

pub returns-clause-after : goal.returns-clause-after
returns-clause-after c node sp h =
    left_at node sp c.args.self.now _ c.args.port c.index_mut-inlet.result.now c.remove-item.new.self h refl refl refl c.index_mut-inlet.ensures.value (within c.args.self.now.inlets.items c.args.port c.args.place c.requires) c.set.ensures.limit
    c.args.place c.waits-is_filled.result c.remove-item.ensures.left c.waits-is_filled.ensures c.set.ensures.set
