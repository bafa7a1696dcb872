use Rattle.nf_serial.proofs.Whole.{only_lane, only_world}
use Rattle.nf_serial.proofs.whole_run.run_alone.Goals as goal

pub run_as-requires-clause-lane : goal.run_as-requires-clause-lane
run_as-requires-clause-lane g c = only_lane (record { world = g.L.Lane.world c.args.lane.now; store = g.L.Lane.store c.args.lane.now }) c.args.flow.graph (g.R.Rules.meaning c.args.rules.now) c.args.resume (g.K.Keeper.held c.args.keeper) (g.K.Keeper.faults c.args.keeper)

pub returns-clause-world : goal.returns-clause-world
returns-clause-world g c = only_world (record { world = g.L.Lane.world c.args.lane.now; store = g.L.Lane.store c.args.lane.now }) c.args.flow.graph (g.R.Rules.meaning c.args.rules.now) c.args.resume (g.K.Keeper.held c.args.keeper) (g.K.Keeper.faults c.args.keeper) (g.L.Lane.world c.run_as.new.lane) (g.L.Lane.store c.run_as.new.lane) c.run_as.ensures.lane
