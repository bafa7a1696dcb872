-- Events and stops as the machine sees them: by plain values, and a port by its node and its place there.
use Rattle.std.specs.Prelude.{ℕ, suc, ◌-◌, nat_lt, List, [], ◌∷◌, length, if◌then◌else◌, Result, Ok, Err, option_map}
use Rattle.std.specs.declared.option.Option.{Option}
use Rattle.std.specs.declared.option.Option.TheVariants.{None, Some}
use Rattle.nf_value.specs.Plain.{Plain}
use Rattle.nf_value.specs.View.{plain_of}
use Rattle.nf_value.specs.declared.value.Value.{Value}
use Rattle.nf_value.specs.declared.fault.EvalFault.{EvalFault}
use Rattle.nf_opstream.specs.Fault as operators
use Rattle.nf_job.specs.declared.report.Report.{Report}
use Rattle.nf_graph.specs.Rules.{Outs}
use Rattle.nf_graph.specs.Node.{PlainNode}
use Rattle.nf_graph.specs.Faults.{GraphFault, item_fails, op_fails, task_fails}
use Rattle.nf_machine.specs.declared.event.Event.{Event}
use Rattle.nf_machine.specs.declared.event.Event.TheVariants as e
use Rattle.nf_machine.specs.declared.event.Cause.{Cause}
use Rattle.nf_machine.specs.declared.stop.Stop.{Stop}
use Rattle.nf_machine.specs.declared.stop.Stop.TheVariants as s
use Rattle.nf_machine.specs.declared.stop.Outside.{Outside}

pub data PlainStop : Type 0 where
  -- a fault of the graph
  fault_stop : (fault : GraphFault) → PlainStop
  -- the deliveries cost more than the limit
  charge_stop : (sum : ℕ) → PlainStop
  outside_stop : (outside : Outside) → PlainStop
  memory_stop : PlainStop

pub data PlainEvent : Type 0 where
  pass : (node port : ℕ) → PlainEvent
  taking : (node port place ticket n : ℕ) → PlainEvent
  give : (ticket : ℕ) → (answer : Result Plain EvalFault) → PlainEvent
  start : (ticket : ℕ) → (cause : Cause) → PlainEvent
  finish : (ticket : ℕ) → (report : Report) → (outs : Outs) → PlainEvent
  reuse : (ticket : ℕ) → (report : Report) → (outs : Outs) → PlainEvent
  close : (node : ℕ) → PlainEvent
  abort : (ticket : ℕ) → (cause : Option PlainStop) → PlainEvent
  halt : PlainEvent

-- ---- the events of the code

abbrev pub op_stop : ℕ → Option operators.Fault → PlainStop
op_stop node None = memory_stop
op_stop node (Some f) = fault_stop (op_fails node f)

abbrev pub stop_of : Stop → PlainStop
stop_of (s.Charge sum) = charge_stop sum
stop_of (s.Op node fault) = op_stop node (operators.fault_of fault)
stop_of (s.Item node item fault) = fault_stop (item_fails node (plain_of item) fault)
stop_of (s.Task node inputs n fault) = fault_stop (task_fails node inputs n fault)
stop_of (s.Outside outside) = outside_stop outside
stop_of s.Mem = memory_stop

abbrev pub answer_of : Result Value EvalFault → Result Plain EvalFault
answer_of (Ok v) = Ok (plain_of v)
answer_of (Err f) = Err f

-- a node, and the place of a port there
pub record Place : Type 0 where
  pub node : ℕ
  pub port : ℕ

-- the port that is the n-th of the ports of these nodes, the first of which stands at place i. Past them all it is a port that isn't there
abbrev pub place_from : ℕ → List PlainNode → ℕ → Place
place_from i [] n = record { node = i; port = n }
place_from i (node ∷ nodes) n = if nat_lt n (length node.ports) then (record { node = i; port = n }) else place_from (suc i) nodes (n - length node.ports)

abbrev pub place_of : List PlainNode → ℕ → Place
place_of g n = place_from 0 g n

abbrev pub event_of : List PlainNode → Event → PlainEvent
event_of g (e.Pass port) = pass (place_of g port).node (place_of g port).port
event_of g (e.Take node port place ticket n) = taking node port place ticket n
event_of g (e.Give ticket answer) = give ticket (answer_of answer)
event_of g (e.Start ticket cause) = start ticket cause
event_of g (e.Reuse ticket report outs) = reuse ticket report outs
event_of g (e.Finish ticket report outs) = finish ticket report outs
event_of g (e.Close node) = close node
event_of g (e.Abort ticket cause) = abort ticket (option_map stop_of cause)
event_of g e.Halt = halt
