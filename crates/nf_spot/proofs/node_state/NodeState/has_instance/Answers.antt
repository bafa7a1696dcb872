use Rattle.nf_spot.proofs.Takes.{only_taken, only_told}
use Rattle.nf_spot.proofs.node_state.NodeState.has_instance.Goals as goal

pub returns-in-None : goal.returns-in-None
returns-in-None c node sp h is fits =
    let taken = only_taken node c.args.queue sp c.args.self.now c.args.port c.args.place h is c.in-None.is c.if-not-is_full.ensures c.taken-taken.result c.taken-taken.ensures in
    only_told node c.args.queue sp c.args.self.now c.args.port c.args.place h is c.in-None.is c.if-not-is_full.ensures c.taken-taken.result taken c.is_only_take.result c.is_only_take.ensures
