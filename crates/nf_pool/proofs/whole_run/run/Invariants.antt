use Rattle.std.proofs.Common.{map}
use Rattle.nf_pool.specs.Pool.{opening_of, told}
use Rattle.nf_pool.proofs.whole_run.run.Given as goal

abbrev pub ghosts-run_as-J-Fixed : goal.ghosts-run_as-J-Fixed
ghosts-run_as-J-Fixed g a = record { facts = opening_of a.flow.graph (g.R.Rules.meaning a.rules.now) a.resume (g.K.Keeper.held a.keeper) (g.K.Keeper.faults a.keeper) (map (λ l. told (g.L.Lane.world l) (g.L.Lane.store l)) a.lanes.items) }

abbrev pub ghosts-run_as-B-Ledger : goal.ghosts-run_as-B-Ledger
ghosts-run_as-B-Ledger g a = record { name = a.begun.name; parts = a.begun.parts }

abbrev pub ghosts-run_as-F-Ledger : goal.ghosts-run_as-F-Ledger
ghosts-run_as-F-Ledger g a = record { name = a.failed.name; parts = a.failed.parts }
