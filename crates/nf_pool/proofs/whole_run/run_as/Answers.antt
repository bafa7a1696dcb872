use Rattle.std.proofs.Common.{◌<◌, length, arith, refl, subst, sym}
use Rattle.nf_core.specs.Opening.{IsLane}
use Rattle.nf_serial.specs.Serial.{IsIdle, lane_now}
use Rattle.nf_serial.proofs.Whole.{over_there}
use Rattle.nf_pool.proofs.Ends.{ended_later, ended_rose, ended_runs, few_of_first, lane_of_first, still_lanes}
use Rattle.nf_pool.proofs.Wholes.{failures_there, kept_there, promised_there, starts_there}
use Rattle.nf_pool.proofs.whole_run.run_as.Goals as goal

pub serial-requires-clause-idle : goal.serial-requires-clause-idle
serial-requires-clause-idle g c = c.on_all-run.ensures.idle

pub serial-requires-clause-lane : goal.serial-requires-clause-lane
serial-requires-clause-lane g c =
    let some : 0 < length c.on_all-run.result.1.items = omega (arith, c.requires.some, c.on_all-run.ensures.room.0) in
    lane_of_first (λ l. IsLane g.J.Fixed.facts (g.L.Lane.world l) (g.L.Lane.store l)) c.on_all-run.result.1.items c.index_mut-first.result.now
    (still_lanes g.J.Fixed.facts g.L.Lane.world g.L.Lane.store g.L.Lane.runs g.L.Lane.faults c.args.lanes.items c.on_all-run.result.1.items c.requires.lanes c.on_all-run.ensures.worked) some c.index_mut-first.ensures.value

pub serial-requires-clause-runs : goal.serial-requires-clause-runs
serial-requires-clause-runs g c =
    let some : 0 < length c.on_all-run.result.1.items = omega (arith, c.requires.some, c.on_all-run.ensures.room.0) in
    few_of_first g.L.Lane.runs g.L.Lane.faults g.L.Lane.world g.L.Lane.store c.args.lanes.items c.on_all-run.result.1.items c.index_mut-first.result.now c.requires.runs c.on_all-run.ensures.worked some c.index_mut-first.ensures.value

pub returns-clause-over : goal.returns-clause-over
returns-clause-over g c = over_there c.serial.new.run c.into_parts-flow.result.0 c.into_parts-flow.ensures.flow c.serial.ensures.over

pub returns-clause-idle : goal.returns-clause-idle
returns-clause-idle g c = subst IsIdle (sym c.into_parts-flow.ensures.flow) c.serial.ensures.idle

pub returns-clause-runs : goal.returns-clause-runs
returns-clause-runs g c =
    let some : 0 < length c.on_all-run.result.1.items = omega (arith, c.requires.some, c.on_all-run.ensures.room.0) in
    starts_there c.serial.new.run c.into_parts-flow.result.0 c.into_parts-flow.ensures.flow _ _ (ended_runs g.L.Lane.runs c.args.lanes.items c.on_all-run.result.1.items c.index_mut-first.result.now c.serial.new.lane c.on_all-run.result.0 c.serial.new.run _ _ some c.index_mut-first.ensures.value refl refl c.serial.ensures.goes c.on_all-run.ensures.runs)

pub returns-clause-rose : goal.returns-clause-rose
returns-clause-rose g c =
    let some : 0 < length c.on_all-run.result.1.items = omega (arith, c.requires.some, c.on_all-run.ensures.room.0) in
    failures_there c.serial.new.run c.into_parts-flow.result.0 c.into_parts-flow.ensures.flow (ended_rose g.L.Lane.runs g.L.Lane.faults g.L.Lane.world g.L.Lane.store c.args.lanes.items c.on_all-run.result.1.items c.index_mut-first.result.now c.serial.new.lane c.on_all-run.result.0 c.serial.new.run _ _
    c.on_all-run.ensures.worked some c.index_mut-first.ensures.value refl refl c.serial.ensures.goes c.on_all-run.ensures.rose)

pub returns-clause-later : goal.returns-clause-later
returns-clause-later g c =
    ended_later (λ l. lane_now (g.L.Lane.runs l) (g.L.Lane.faults l) (g.L.Lane.world l) (g.L.Lane.store l)) c.args.lanes.items c.on_all-run.result.1.items c.index_mut-first.result.now c.serial.new.lane
    c.on_all-run.ensures.worked c.index_mut-first.ensures.value c.serial.ensures.later

pub returns-clause-promises : goal.returns-clause-promises
returns-clause-promises g c = promised_there g.J.Fixed.facts c.serial.new.run c.into_parts-flow.result.0 c.into_parts-flow.ensures.flow c.holds.ensures.promises

pub returns-clause-keeps : goal.returns-clause-keeps
returns-clause-keeps g c = kept_there g.J.Fixed.facts (g.K.Keeper.held c.into_parts-flow.result.2) c.serial.new.run c.into_parts-flow.result.0 c.into_parts-flow.ensures.flow c.into_parts-flow.ensures.keeps
