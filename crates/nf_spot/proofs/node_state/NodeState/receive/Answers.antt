use Rattle.std.proofs.Common.{refl}
use Rattle.nf_value.specs.View.{plain_of}
use Rattle.nf_spot.proofs.Ports.{received_at}
use Rattle.nf_spot.proofs.node_state.NodeState.receive.Goals as goal

pub returns : goal.returns
returns c node sp h = received_at node sp c.args.self.now _ c.args.port c.index_mut.result.now c.receive.new.self h refl refl refl c.index_mut.ensures.value c.requires.port c.set.ensures.limit (plain_of c.args.item) c.in_ok-receive.ensures c.set.ensures.set
