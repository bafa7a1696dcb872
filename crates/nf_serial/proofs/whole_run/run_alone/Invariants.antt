use Rattle.std.proofs.Common.{[], ◌∷◌}
use Rattle.nf_serial.proofs.whole_run.run_alone.Given as goal

abbrev pub ghosts-run_as : goal.ghosts-run_as
ghosts-run_as g a = record {
  facts = record {
    graph = a.flow.graph;
    rules = g.R.Rules.meaning a.rules.now;
    resumed = a.resume;
    held = g.K.Keeper.held a.keeper;
    faults = g.K.Keeper.faults a.keeper;
    lanes = record { world = g.L.Lane.world a.lane.now; store = g.L.Lane.store a.lane.now } ∷ [];
  };
}
