-- What lies under a run's lock may go to another thread: none of it belongs to one thread alone. A line for each type that holds a value.
use Rattle.std.specs.Prelude.{List, [], ◌∷◌}
use mir.Syntax.{Sym}
use denote.RattleType.{RattleType}
use denote.Builtin.{usize}
use denote.Ref.{NamedLft, ShrRef}
use denote.Param.Send.{IsSend, IsSync, plain_send, recorded_send, sendable, shr_send, struct_send, view_send}
use denote.Struct.Tuple.{TupleAt, field_at, type_at}
use denote.Struct.Declared.{shape}
use Rattle.std.proofs.Crossing.{Vec-send, crosses}
use Rattle.std.proofs.alloc.Global.TheSendSync as heap
use Rattle.std.proofs.marker.PhantomData.TheSendSync as phantom
use Rattle.std.proofs.sync.Condvar.TheSendSync as condvar
use Rattle.std.proofs.sync.ledger.Book.TheSendSync as book
use Rattle.std.proofs.sync.ledger.Share.TheSendSync as share
use Rattle.std.specs.contracts.sync.Condvar as Condvar
use Rattle.std.specs.contracts.sync.ledger.Share as Share
use Rattle.std.specs.declared.sync.ledger.Ledger as ledger
use Rattle.std.proofs.MapsCrossing as maps
use Rattle.std.specs.contracts.vec.Vec as Vec
use Rattle.std.specs.contracts.alloc.Global as Heap
use Rattle.std.specs.contracts.impls.GlobalAllocator.TheImpl.{ghosts}
use Rattle.nf_value.specs.contracts.list.Vals as Vals
use Rattle.nf_value.specs.contracts.map.Pairs as Pairs
use Rattle.nf_value.specs.contracts.value.Value as Value
use Rattle.nf_value.proofs.list.Vals.TheLaws.TheKnot as knot
use Rattle.nf_value.proofs.text.Txt.TheSendSync as text
use Rattle.nf_value.proofs.fault.EvalFault.TheSendSync as eval
use Rattle.nf_bag.proofs.rows.Row.TheSendSync as row
use Rattle.nf_bag.specs.contracts.fault.OpFault as OpFault
use Rattle.nf_bag.specs.contracts.options.OpOpts as OpOpts
use Rattle.nf_job.specs.contracts.emitted.Emitted as Emitted
use Rattle.nf_job.specs.contracts.emitted.Outputs as Outputs
use Rattle.nf_job.proofs.report.Report.TheSendSync as report
use Rattle.nf_job.proofs.fault.TaskFault.TheSendSync as fault
use Rattle.nf_graph.specs.contracts.node.NodeKind as NodeKind
use Rattle.nf_graph.specs.contracts.node.Node as Node
use Rattle.nf_graph.specs.contracts.graph.Graph as Graph
use Rattle.nf_machine.specs.contracts.stop.Stop as Stop
use Rattle.nf_machine.specs.contracts.event.Event as Event
use Rattle.nf_machine.proofs.event.Cause.TheSendSync as cause
use Rattle.nf_flight.specs.contracts.ticket.Ticket as Ticket
use Rattle.nf_flight.specs.contracts.inputs.KeptInputs as KeptInputs
use Rattle.nf_opstream.specs.contracts.unique.UniqueState as UniqueState
use Rattle.nf_opclose.specs.contracts.collect.CollectState as CollectState
use Rattle.nf_opclose.specs.contracts.if_empty.IfEmptyState as IfEmptyState
use Rattle.nf_opclose.specs.contracts.max.MaxState as MaxState
use Rattle.nf_opclose.specs.contracts.min.MinState as MinState
use Rattle.nf_opclose.specs.contracts.reduce.ReduceState as ReduceState
use Rattle.nf_opclose.specs.contracts.to_list.ToListState as ToListState
use Rattle.nf_opjoin.specs.contracts.combine.CombineState as CombineState
use Rattle.nf_opjoin.specs.contracts.group.GroupState as GroupState
use Rattle.nf_opjoin.specs.contracts.join.JoinState as JoinState
use Rattle.nf_operator.specs.contracts.by_item.ByItem as ByItem
use Rattle.nf_operator.specs.contracts.gathers.Gathers as Gathers
use Rattle.nf_operator.specs.contracts.joins.Joins as Joins
use Rattle.nf_operator.specs.contracts.totals.Totals as Totals
use Rattle.nf_operator.specs.contracts.state.OpState as OpState
use Rattle.nf_spot.specs.contracts.counts.Counts as Counts
use Rattle.nf_spot.specs.contracts.inlet.Inlet as Inlet
use Rattle.nf_spot.specs.contracts.outlet.Outlet as Outlet
use Rattle.nf_spot.specs.contracts.node_state.NodeState as NodeState
use Rattle.nf_spot.proofs.numbers.NumberSet.TheSendSync as numbers
use Rattle.nf_nodes.specs.contracts.nodes.Nodes as Nodes
use Rattle.nf_nodes.proofs.index.Index.TheSendSync as index
use Rattle.nf_wiring.proofs.wiring.Wiring.TheSendSync as wiring
use Rattle.nf_flow.specs.contracts.stopped.Stopped as Stopped
use Rattle.nf_flow.specs.contracts.log.Log as Log
use Rattle.nf_flow.specs.contracts.parts.Parts as Parts
use Rattle.nf_flow.specs.contracts.flow.Flow as Flow
use Rattle.nf_flight.proofs.flights.Flights.TheSendSync as flights
use Rattle.nf_lane.proofs.lane.Kept.TheSendSync as kept
use Rattle.nf_lane.specs.declared.lane.Lane as lane
use Rattle.nf_lane.specs.declared.lane.Finished as finished
use Rattle.nf_lane.specs.declared.lane.Present as present
use Rattle.nf_keeper.specs.declared.keeper.Keeper as keeper
use Rattle.nf_core.specs.declared.fixed.Fixed as fixed
use Rattle.nf_core.specs.contracts.run_state.RunState as RunState
use Rattle.nf_core.specs.contracts.run_state.RunState.TheInside as run
use Rattle.nf_locked.specs.contracts.locked.Locked as Locked
use Rattle.nf_locked.specs.contracts.locked.Locked.TheInside as inside

-- ---- values

vals : IsSend Vals.the_row
vals = search (sendable, crosses, knot.send-Vals) depth 40

pairs : IsSend Pairs.the_row
pairs = search (sendable, crosses, knot.send-Pairs) depth 40

value_field : IsSend (Value.the_field).row
value_field = knot.send-Value (search sendable depth 40) (search sendable depth 40) (search (sendable, crosses, text.the_send) depth 40) (search (sendable, crosses, text.the_send) depth 40) vals pairs

value : IsSend Value.the_row
value = search (value_field, sendable) depth 40

-- ---- graphs, tickets and events

op_fault : IsSend (OpFault.the_field).row
op_fault = search (value_field, sendable) depth 40

op_opts : IsSend (OpOpts.the_field).row
op_opts = search (value, sendable) depth 40

kind : IsSend (NodeKind.the_field).row
kind = search (vals, op_opts, row.the_field_send, sendable) depth 40

node : IsSend (Node.the_field).row
node = search (kind, sendable, crosses) depth 40

graph : IsSend Graph.the_row
graph = search (node, crosses, sendable) depth 40

emitted : IsSend Emitted.the_row
emitted = search (value, crosses, sendable) depth 40

outputs : IsSend (Outputs.the_field).row
outputs = search (emitted, fault.the_field_send, sendable) depth 40

stop : IsSend (Stop.the_field).row
stop = search (value_field, vals, op_fault, fault.the_field_send, sendable) depth 40

answer_row : IsSend Outputs.the_row
answer_row = search (outputs, sendable) depth 40

stop_row : IsSend Stop.the_row
stop_row = search (stop, sendable) depth 40

event : IsSend (Event.the_field).row
event = search (value, answer_row, stop_row, cause.the_field_send, report.the_field_send, eval.the_send, fault.the_send, sendable) depth 40 fits 4000

ticket : IsSend (Ticket.the_field).row
ticket = search (vals, sendable) depth 40

-- the tickets of one lane
tickets : IsSend (Vec.the_row Ticket.the_row Heap.the_row ghosts)
tickets = search (ticket, crosses, sendable) depth 40

inputs : IsSend KeptInputs.the_row
inputs = search (vals, crosses, sendable) depth 40

-- ---- operators

unique : IsSend (UniqueState.the_field).row
unique = search (value, maps.crosses, crosses, sendable) depth 40

by_item : IsSend (ByItem.the_field).row
by_item = search (unique, crosses, sendable) depth 40

collect : IsSend (CollectState.the_field).row
collect = search (value, crosses, sendable) depth 40

if_empty : IsSend (IfEmptyState.the_field).row
if_empty = search (value_field, crosses, sendable) depth 40

to_list : IsSend (ToListState.the_field).row
to_list = search (value, crosses, sendable) depth 40

gathers : IsSend (Gathers.the_field).row
gathers = search (collect, if_empty, to_list, crosses, sendable) depth 40

greatest : IsSend (MaxState.the_field).row
greatest = search (value, crosses, sendable) depth 40

least : IsSend (MinState.the_field).row
least = search (value, crosses, sendable) depth 40

reduce : IsSend (ReduceState.the_field).row
reduce = search (value, crosses, sendable) depth 40

totals : IsSend (Totals.the_field).row
totals = search (greatest, least, reduce, crosses, sendable) depth 40

combine : IsSend (CombineState.the_field).row
combine = search (value, vals, maps.crosses, crosses, sendable) depth 40

group : IsSend (GroupState.the_field).row
group = search (value, vals, maps.crosses, crosses, sendable) depth 40

join : IsSend (JoinState.the_field).row
join = search (value, vals, maps.crosses, crosses, sendable) depth 40

joins : IsSend (Joins.the_field).row
joins = search (combine, group, join, sendable) depth 40

state : IsSend (OpState.the_field).row
state = search (by_item, gathers, totals, joins, crosses, sendable) depth 40

-- ---- a run

counts : IsSend (Counts.the_field).row
counts = search (value, maps.crosses, crosses, sendable) depth 40

inlet : IsSend Inlet.the_row
inlet = search (value, crosses, sendable) depth 40

outlet : IsSend Outlet.the_row
outlet = search (value, crosses, sendable) depth 40

spot : IsSend (NodeState.the_field).row
spot = search (state, counts, inlet, outlet, numbers.the_field_send, crosses, sendable) depth 40

nodes : IsSend (Nodes.the_field).row
nodes = search (spot, index.the_field_send, wiring.the_field_send, crosses, sendable) depth 40

parts : IsSend (Parts.the_field).row
parts = search (nodes, flights.the_field_send, sendable) depth 40

stopped : IsSend (Stopped.the_field).row
stopped = search (stop, sendable) depth 40

log : IsSend (Log.the_field).row
log = search (event, inputs, stopped, crosses, sendable) depth 40

flow : IsSend Flow.the_row
flow = search (graph, parts, log, crosses, sendable) depth 40

-- ---- what lies under the lock

module _ (L K J D S : RattleType) (gl : lane.Ghosts L.Denot D.Denot S.Denot) (gd : finished.Ghosts D.Denot) (gs : present.Ghosts S.Denot)
    (gk : keeper.Ghosts K.Denot) (gj : fixed.Ghosts J.Denot) where
  run_state : IsSend K → IsSend D → IsSend S → IsSend (RunState.the_row L K J D S gl gd gs gk gj)
  run_state k d s =
      view_send (run.the_row L K J D S gl gd gs gk gj) _ _ _ _
      (recorded_send (run.the_field L K J D S gl gd gs gk gj).row _ _ (run.the_type L K J D S gl gd gs gk gj).to_one
      (struct_send (shape (run.the_type L K J D S gl gd gs gk gj))
      (heap.the_field_send, (flow, (kept.the_field_send L D S d s, (k, (plain_send _ _ _ _ _, (phantom.the_field_send J, tt))))))))

  module _ (B F : RattleType) (gb : ledger.Ghosts B.Denot) (gf : ledger.Ghosts F.Denot) where
    pub locked : IsSend K → IsSend D → IsSend S → IsSend (Locked.the_row L K J B F D S gl gd gs gk gj gb gf)
    locked k d s =
        view_send (inside.the_row L K J B F D S gl gd gs gk gj gb gf) _ _ _ _
        (recorded_send (inside.the_field L K J B F D S gl gd gs gk gj gb gf).row _ _ (inside.the_type L K J B F D S gl gd gs gk gj gb gf).to_one
        (struct_send (shape (inside.the_type L K J B F D S gl gd gs gk gj gb gf))
        (run_state k d s, (Vec-send _ tickets, (book.the_send B gb, (book.the_send F gf, tt))))))

-- what the closure of a worker holds: the runtime, the heap, the lock, the condition, the rules, its place, its shares and its lane
abbrev held_by : (a b c d : NamedLft) (T M R B F L : RattleType) → ledger.Ghosts B.Denot → ledger.Ghosts F.Denot → List RattleType
held_by a b c d T M R B F L gb gf = ShrRef a.mir a.lft T ∷ Heap.the_row ∷ ShrRef b.mir b.lft M ∷ ShrRef c.mir c.lft Condvar.the_row ∷ ShrRef d.mir d.lft R
    ∷ usize ∷ Share.the_row B gb ∷ Share.the_row F gf ∷ L ∷ []

pub worker : (ν : Sym) (a b c d : NamedLft) (T M R B F L : RattleType) (gb : ledger.Ghosts B.Denot) (gf : ledger.Ghosts F.Denot)
    → IsSync T → IsSync M → IsSync R → IsSend L → IsSend (TupleAt ν (held_by a b c d T M R B F L gb gf))
worker ν a b c d T M R B F L gb gf t m r l =
    recorded_send (field_at ν (held_by a b c d T M R B F L gb gf)).row _ _ (type_at ν (held_by a b c d T M R B F L gb gf)).to_one
    (struct_send (shape (type_at ν (held_by a b c d T M R B F L gb gf))) (
      shr_send _ _ T t,
      (
        heap.the_send,
        (
          shr_send _ _ M m,
          (
            shr_send _ _ Condvar.the_row condvar.the_sync,
            (
              shr_send _ _ R r,
              (plain_send _ _ _ _ _, (share.the_send B gb, (share.the_send F gf, (l, tt)))),
            ),
          ),
        ),
      ),
    ))
