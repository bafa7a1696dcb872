use Rattle.std.proofs.Common.{◌≡◌, ◌<◌, ◌≤◌, ◌^◌, All, length}
use Rattle.nf_lane.specs.TableLane.{runs_of}
use Rattle.cases_scripts.proofs.table.table_lanes.Given as goal

abbrev pub invariant-loop : goal.invariant-loop
invariant-loop l = (length l.lanes.items ≡ l.counter) × (l.counter ≤ 16) × All (λ x. runs_of x < 2 ^ 62) l.lanes.items
