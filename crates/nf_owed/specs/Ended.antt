-- What a run owes whose history is known: a row for each end.
use Rattle.std.specs.Prelude.{◌≡◌, ◌<◌, ◌≤◌, List, [], map, true}
use Rattle.std.specs.declared.option.Option.TheVariants.{Some}
use Rattle.std.specs.List.{Contains}
use Rattle.nf_value.specs.View.{plain_of}
use Rattle.nf_opstream.specs.Fault as operators
use Rattle.nf_graph.specs.Faults as graph_fault
use Rattle.nf_machine.specs.declared.event.Event.{Event}
use Rattle.nf_machine.specs.declared.stop.Outside.TheVariants.{Lane, Keeper}
use Rattle.nf_machine.specs.Event.{PlainEvent, PlainStop, fault_stop, charge_stop, outside_stop, memory_stop, event_of}
use Rattle.nf_machine.specs.State.{State}
use Rattle.nf_machine.specs.Step.{limit}
use Rattle.nf_machine.specs.History.{after, ended_well, outcomes_of}
use Rattle.nf_meaning.specs.Meaning.{ScriptMeaning, item_fails, operator_fails, task_fails}
use Rattle.nf_meaning.specs.Report.{charge_of}
use Rattle.nf_ends.specs.declared.end.End.{End}
use Rattle.nf_ends.specs.declared.end.End.TheVariants as end
use Rattle.nf_ends.specs.declared.end.ItemCause.TheVariants.{Eval, Op}
use Rattle.nf_owed.specs.Run.{Run, by_path, name_at}

-- ---- what a history tells

-- the events of a history, as the machine sees them
abbrev pub events_in : Run → List Event → List PlainEvent
events_in run h = map (event_of run.graph) h

abbrev pub state_after : Run → List Event → State
state_after run h = after run.graph (events_in run h)

-- what the script means under the reports that the history tells
abbrev pub meant_by : Run → List Event → ScriptMeaning
meant_by run h = run.meaning (by_path run (outcomes_of (state_after run h)))

abbrev pub EndedWell : Run → List Event → Type 0
EndedWell run h = ended_well run.graph (state_after run h) ≡ true

-- ---- the end of a stop

-- the end names this fault of a node: of a closure on an item, of an operator, or of a task
abbrev pub NamesFault : Run → graph_fault.GraphFault → End → Type 0
NamesFault run (graph_fault.item_fails i x f) (end.ItemFault p (Eval item g)) =
    (p ≡ f.place) × (plain_of item ≡ x) × (g ≡ f)
NamesFault run (graph_fault.op_fails i f) (end.ItemFault p (Op g)) =
    (p ≡ (name_at run i).place) × (operators.fault_of g ≡ Some f)
NamesFault run (graph_fault.task_fails i is m f) (end.TaskFailed process inputs n g) =
    (process ≡ (name_at run i).name) × (inputs ≡ is) × (n ≡ m) × (g ≡ f)
NamesFault run f e = ⊥

-- a run that stopped ends by its stop, with the stop's values
abbrev pub NamesStop : Run → PlainStop → End → Type 0
NamesStop run (fault_stop f) e = NamesFault run f e
NamesStop run (charge_stop sum) e = e ≡ end.Charge sum
NamesStop run (outside_stop Lane) e = e ≡ end.LaneFault
NamesStop run (outside_stop Keeper) e = e ≡ end.KeeperFault
NamesStop run memory_stop e = e ≡ end.Mem

-- ---- what the script's meaning says of an end

-- The task, the item or the operator that an end names has that fault in the script's meaning, and a charge is part of
-- the meaning's. Of other ends the meaning says nothing
abbrev pub IsMeant : Run → List Event → End → Type 0
IsMeant run h (end.TaskFailed process inputs n f) =
    Contains (meant_by run h).faults (task_fails (record { call = process; inputs = inputs; n = n }) f)
IsMeant run h (end.ItemFault p (Eval item f)) = Contains (meant_by run h).faults (item_fails (plain_of item) f)
IsMeant run h (end.ItemFault p (Op f)) =
    (g : operators.Fault) × (operators.fault_of f ≡ Some g) × Contains (meant_by run h).faults (operator_fails p g)
IsMeant run h (end.Charge sum) = (limit < sum) × (sum ≤ charge_of (meant_by run h))
IsMeant run h e = Unit {0}

-- a run with this history stopped, and this end names its stop
pub record EndsByStop (run : Run) (h : List Event) (e : End) : Type 0 where
  pub stop : PlainStop
  pub stopped : (state_after run h).stop ≡ Some stop
  pub named : NamesStop run stop e
  pub meant : IsMeant run h e

-- ---- runs that nothing in the script fails

-- a meaning without a fault, whose deliveries cost no more than the limit
pub record IsFaultless (m : ScriptMeaning) : Type 0 where
  pub faults : m.faults ≡ []
  pub cost : charge_of m ≤ limit

-- an end that has its cause outside of the script: an object failed, or there was no memory
abbrev pub IsFromOutside : End → Type 0
IsFromOutside end.LaneFault = Unit {0}
IsFromOutside end.KeeperFault = Unit {0}
IsFromOutside end.Mem = Unit {0}
IsFromOutside _ = ⊥
