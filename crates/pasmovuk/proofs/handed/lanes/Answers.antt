use Rattle.std.proofs.Common.{◌≡◌, ◌≤◌, ◌+◌, length, rules}
use Rattle.pasmovuk.proofs.Rooms.{room_more}
use Rattle.pasmovuk.proofs.handed.lanes.Goals as goal

pub loop-preserved : goal.loop-preserved
loop-preserved g c =
    let longer : length c.push.new.self.items ≡ c.loop.counter + 1 = search rules in
    let within : c.loop.counter + 1 ≤ 16 = search rules in (
      longer,
      within,
      room_more c.loop.lanes.items c.push.new.self.items c.new.result c.new-lane.result c.in_ok-push.ensures.items c.new.ensures c.new-lane.ensures.runs c.loop.invariant.2,
    )
