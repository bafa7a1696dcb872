use Rattle.std.proofs.Common.{◌≡◌, ◌≤◌, ◌+◌, length, rules}
use Rattle.nf_shell.specs.ShellLane.{runs_of}
use Rattle.cases_scripts.proofs.Rooms.{room_more}
use Rattle.cases_scripts.proofs.lanes.lanes.Goals as goal

pub loop-preserved : goal.loop-preserved
loop-preserved g c =
    let longer : length c.push.new.self.items ≡ c.loop.counter + 1 = search rules in
    let within : c.loop.counter + 1 ≤ 16 = search rules in (
      longer,
      within,
      room_more runs_of c.loop.lanes.items c.push.new.self.items c.in_ok-lane.field-0 c.in_ok-push.ensures.items c.in_ok-lane.ensures c.loop.invariant.2,
    )
