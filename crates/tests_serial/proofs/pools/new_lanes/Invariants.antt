use Rattle.std.proofs.Common.{◌≡◌, ◌<◌, ◌^◌, vec_len}
use Rattle.std.specs.List.{All}
use Rattle.nf_lane.specs.TableLane.{runs_of}
use Rattle.tests_serial.proofs.pools.new_lanes.Given as goal

abbrev pub invariant-loop : goal.invariant-loop
invariant-loop l = (vec_len l.lanes ≡ l.counter) × All (λ x. runs_of x < 2 ^ 62) l.lanes.items
