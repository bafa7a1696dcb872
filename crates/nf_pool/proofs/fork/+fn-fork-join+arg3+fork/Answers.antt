use Rattle.std.proofs.Common.{◌≡◌, ◌+◌, ◌<◌, rules, length, vec_len, map, arith}
use Rattle.std.specs.List.{sum_by}
use Rattle.nf_serial.specs.Serial.{lane_now}
use Rattle.nf_pool.specs.Pool.{AnyRose, HaveWorked, WorksOn, lanes_now, worker_now}
use Rattle.nf_pool.proofs.Lanes.{any_lane_rose, lane_runs}
use Rattle.nf_pool.proofs.Ends.{lane_worked, none_left_worked, worked_so}
use Rattle.nf_pool.proofs.Crosses.{locked, worker}
use denote.Param.{param}
use denote.Exit.{no}
use denote.Param.Send.{IsSend, IsSync, arg_send, param_send}
use Rattle.std.proofs.sync.Mutex.TheSendSync as mutex
use Rattle.nf_pool.proofs.fork.+fn-fork-join+arg3+fork.Goals as goal

-- a worker's closure may go to another thread, by the bounds of its parameters
pub join-lane-requires-send-F : goal.join-lane-requires-send-F
join-lane-requires-send-F g t c κs within =
    let lane : IsSend (param 0 g.row.L) = c.requires-raw.1.1.1.1.1.1.1.1.1.1.0 in
    let keeper : IsSend (param 1 g.row.K) = c.requires-raw.1.1.1.1.1.1.1.1.1.1.1.0 in
    let done : IsSend (param 7 g.row.L-Done) = c.requires-raw.1.1.1.1.1.1.1.1.1.1.1.1.1.1.1.0 in
    let seen : IsSend (param 8 g.row.L-Seen) = c.requires-raw.1.1.1.1.1.1.1.1.1.1.1.1.1.1.1.1.0 in
    let rules : IsSync (param 5 g.row.R) = c.requires-raw.1.1.1.1.1.1.1.1.1.1.1.1.1.1.1.1.1.1.1.1.0 in
    let threads : IsSync (param 6 g.row.T) = c.requires-raw.1.1.1.1.1.1.1.1.1.1.1.1.1.1.1.1.1.1.1.1.1.0 in
    let lock = mutex.the_sync _ (locked (param 0 g.row.L) (param 1 g.row.K) (param 2 g.row.J) (param 7 g.row.L-Done) (param 8 g.row.L-Seen) g.L.Lane g.L.Done.Finished g.L.Seen.Present g.K.Keeper g.J.Fixed (param 3 g.row.B) (param 4 g.row.F) g.B.Ledger g.F.Ledger keeper done seen) in
    param_send 1 _ (arg_send _ no _ (worker _ _ _ _ _ (param 6 g.row.T) _ (param 5 g.row.R) (param 3 g.row.B) (param 4 g.row.F) (param 0 g.row.L) g.B.Ledger g.F.Ledger threads lock rules lane))

pub returns-clause-rose : goal.returns-clause-rose
returns-clause-rose g t c =
    let r = c.join-lane.result in
    let items = rw c.in-Some.is at c.pop_lane.ensures.items in
    let f = g.L.Lane.faults in
    let w : WorksOn (worker_now (lane_now (g.L.Lane.runs c.in-Some.lane) (g.L.Lane.faults c.in-Some.lane) (g.L.Lane.world c.in-Some.lane) (g.L.Lane.store c.in-Some.lane)) 0 0)
    (worker_now (lane_now (g.L.Lane.runs r.0.0) (g.L.Lane.faults r.0.0) (g.L.Lane.world r.0.0) (g.L.Lane.store r.0.0)) r.0.1.amount r.0.2.amount) = search rules in
    let others : 0 < r.1.2.amount → AnyRose (map f c.pop_lane.new.lanes.items) (map f r.1.0.items) = search rules in
    let same : vec_len r.1.0 ≡ vec_len c.pop_lane.new.lanes = search rules in
    let len : length c.pop_lane.new.lanes.items ≡ length r.1.0.items = search (rules, same) in
    any_lane_rose f c.args.lanes.items c.push_reserved.new.self.items c.pop_lane.new.lanes.items r.1.0.items c.in-Some.lane r.0.0 r.0.2.amount r.1.2.amount c.merge-2.new.self.amount
    items c.push_reserved.ensures.items len w.rose others c.merge-2.ensures.amount

pub returns-clause-runs : goal.returns-clause-runs
returns-clause-runs g t c =
    let r = c.join-lane.result in
    let items = rw c.in-Some.is at c.pop_lane.ensures.items in
    let f = g.L.Lane.runs in
    let w : WorksOn (worker_now (lane_now (g.L.Lane.runs c.in-Some.lane) (g.L.Lane.faults c.in-Some.lane) (g.L.Lane.world c.in-Some.lane) (g.L.Lane.store c.in-Some.lane)) 0 0)
    (worker_now (lane_now (g.L.Lane.runs r.0.0) (g.L.Lane.faults r.0.0) (g.L.Lane.world r.0.0) (g.L.Lane.store r.0.0)) r.0.1.amount r.0.2.amount) = search rules in
    let others : sum_by f r.1.0.items ≡ sum_by f c.pop_lane.new.lanes.items + r.1.1.amount = search rules in
    lane_runs f c.args.lanes.items c.push_reserved.new.self.items c.pop_lane.new.lanes.items r.1.0.items c.in-Some.lane r.0.0 r.0.1.amount r.1.1.amount c.merge.new.self.amount
    items c.push_reserved.ensures.items (let x = w.runs in omega (arith, x)) others c.merge.ensures.amount

pub returns-clause-worked : goal.returns-clause-worked
returns-clause-worked g t c =
    let r = c.join-lane.result in
    let items = rw c.in-Some.is at c.pop_lane.ensures.items in
    let w : WorksOn (worker_now (lane_now (g.L.Lane.runs c.in-Some.lane) (g.L.Lane.faults c.in-Some.lane) (g.L.Lane.world c.in-Some.lane) (g.L.Lane.store c.in-Some.lane)) 0 0)
    (worker_now (lane_now (g.L.Lane.runs r.0.0) (g.L.Lane.faults r.0.0) (g.L.Lane.world r.0.0) (g.L.Lane.store r.0.0)) r.0.1.amount r.0.2.amount) = search rules in
    let others : HaveWorked (lanes_now g.L.Lane.runs g.L.Lane.faults g.L.Lane.world g.L.Lane.store c.pop_lane.new.lanes.items) (lanes_now g.L.Lane.runs g.L.Lane.faults g.L.Lane.world g.L.Lane.store r.1.0.items) = search rules in
    lane_worked (λ l. lane_now (g.L.Lane.runs l) (g.L.Lane.faults l) (g.L.Lane.world l) (g.L.Lane.store l)) c.args.lanes.items c.push_reserved.new.self.items c.pop_lane.new.lanes.items r.1.0.items c.in-Some.lane r.0.0 items c.push_reserved.ensures.items others (worked_so _ _ _ _ w)

pub returns-in_default-clause-worked : goal.returns-in_default-clause-worked
returns-in_default-clause-worked g t c =
    none_left_worked (λ l. lane_now (g.L.Lane.runs l) (g.L.Lane.faults l) (g.L.Lane.world l) (g.L.Lane.store l)) c.args.lanes.items c.pop_lane.new.lanes.items c.in_default.ensures.none.0 c.in_default.ensures.none.1
