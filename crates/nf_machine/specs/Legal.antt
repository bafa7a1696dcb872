-- When an event is legal, and says what the rules say.
use Rattle.std.specs.Prelude.{ℕ, ◌<◌, ◌≡◌, ◌==◌, ◌⊎◌, List, [], true, false, length, count_by, Result, Err, is_ok, is_some, MatchOption}
use Rattle.std.specs.declared.option.Option.{Option}
use Rattle.std.specs.declared.option.Option.TheVariants.{None, Some}
use Rattle.nf_value.specs.Plain.{Plain}
use Rattle.nf_value.specs.declared.fault.EvalFault.{EvalFault}
use Rattle.nf_job.specs.declared.report.Report.{Report}
use Rattle.nf_graph.specs.Rules.{Outs, Rules}
use Rattle.nf_graph.specs.Node.{Kind, source, operator, process, PlainNode, port_at, node_at}
use Rattle.nf_graph.specs.Faults.{GraphFault, item_fails, op_fails, task_fails}
use Rattle.nf_machine.specs.Event.{PlainStop, fault_stop, charge_stop, outside_stop, memory_stop, PlainEvent, pass, taking, give, start, finish, reuse, close, abort, halt}
use Rattle.nf_machine.specs.State.{Spot, Ticket, State, attempt_of, feed}
use Rattle.nf_machine.specs.Step.{take_at, ticket_at}

abbrev pub IsOperatorKind : Kind → Type 0
IsOperatorKind (source items) = ⊥
IsOperatorKind (operator op) = Unit {0}
IsOperatorKind (process queue) = ⊥

abbrev pub IsProcessKind : Kind → Type 0
IsProcessKind (source items) = ⊥
IsProcessKind (operator op) = ⊥
IsProcessKind (process queue) = Unit {0}

-- ---- moves

-- an item waits at each value port
abbrev pub Holds : PlainNode → Spot → Type 0
Holds node sp = (k : ℕ) → k < length node.ports → (port_at node k).value ≡ true → 0 < length (sp.waiting k)

abbrev pub MayTake : PlainNode → Kind → Spot → ℕ → ℕ → Type 0
MayTake node (source items) sp port place = ⊥
MayTake node (operator op) sp port place = (port < length node.ports) × (place < length (sp.waiting port))
MayTake node (process (Some q)) sp port place = (port ≡ q) × (place < length (sp.waiting q)) × Holds node sp
MayTake node (process None) sp port place = (port ≡ 0) × (place ≡ 0) × Holds node sp × (sp.taken ≡ [])

-- nothing waits at a value port
pub record Lacks (node : PlainNode) (sp : Spot) : Type 0 where
  pub port : ℕ
  pub within : port < length node.ports
  pub value : (port_at node port).value ≡ true
  pub nothing : sp.waiting port ≡ []

-- nothing more can be taken
abbrev pub MayClose : PlainNode → Kind → Spot → Type 0
MayClose node (source items) sp = ⊥
MayClose node (operator op) sp = (k : ℕ) → k < length node.ports → sp.waiting k ≡ []
MayClose node (process (Some q)) sp = Lacks node sp ⊎ (sp.waiting q ≡ [])
MayClose node (process None) sp = Lacks node sp ⊎ (length sp.taken ≡ 1)

pub record PassIsLegal (g : List PlainNode) (s : State) (i k : ℕ) : Type 0 where
  pub running : s.stop ≡ None
  pub within : k < length (node_at g i).ports
  pub more : (s.spots i).passed k < length (feed s.spots (port_at (node_at g i) k))

pub record TakeIsLegal (g : List PlainNode) (s : State) (i port place t n : ℕ) : Type 0 where
  pub running : s.stop ≡ None
  pub ready : MayTake (node_at g i) (node_at g i).kind (s.spots i) port place
  pub ticket : t ≡ s.next
  pub number : n ≡ (take_at g s i port place).n

pub record CloseIsLegal (g : List PlainNode) (s : State) (i : ℕ) : Type 0 where
  pub running : s.stop ≡ None
  pub still : (s.spots i).closed ≡ false
  pub producers : (k : ℕ) → k < length (node_at g i).ports → (s.spots (port_at (node_at g i) k).from).closed ≡ true
  pub passed : (k : ℕ) → k < length (node_at g i).ports → (s.spots i).passed k ≡ length (feed s.spots (port_at (node_at g i) k))
  pub flight : count_by (λ k. k.node == i) s.tickets ≡ 0
  pub done : MayClose (node_at g i) (node_at g i).kind (s.spots i)

-- ---- tickets

pub record GiveIsLegal (g : List PlainNode) (R : Rules) (s : State) (k : Ticket) (a : Result Plain EvalFault) : Type 0 where
  pub running : s.stop ≡ None
  pub kind : IsOperatorKind (node_at g k.node).kind
  pub by_rule : a ≡ R.answer k.node k.take.item

-- the ticket's attempt has a job
abbrev pub HasJob : Rules → Ticket → Type 0
HasJob R k = is_ok (R.job k.node k.take.inputs k.take.n (attempt_of k)) ≡ true

pub record StartIsLegal (g : List PlainNode) (R : Rules) (s : State) (k : Ticket) : Type 0 where
  pub running : s.stop ≡ None
  pub kind : IsProcessKind (node_at g k.node).kind
  pub fresh : k.started ≡ false
  pub job : HasJob R k

-- the outputs are the rules'
pub record ReportIsLegal (g : List PlainNode) (R : Rules) (k : Ticket) (r : Report) (outs : Outs) : Type 0 where
  pub kind : IsProcessKind (node_at g k.node).kind
  pub by_rule : outs ≡ R.outputs k.node k.take.inputs (attempt_of k) r

pub record FinishIsLegal (g : List PlainNode) (R : Rules) (k : Ticket) (r : Report) (outs : Outs) : Type 0 where
  pub started : k.started ≡ true
  pub report : ReportIsLegal g R k r outs

pub record ReuseIsLegal (g : List PlainNode) (R : Rules) (s : State) (k : Ticket) (r : Report) (outs : Outs) : Type 0 where
  pub start : StartIsLegal g R s k
  pub report : ReportIsLegal g R k r outs

-- a task's own fault, which its attempt has in place of a job
abbrev pub IsOwnFault : Rules → Kind → Ticket → GraphFault → Type 0
IsOwnFault R kind k (item_fails i x f) = ⊥
IsOwnFault R kind k (op_fails i f) = ⊥
IsOwnFault R kind k (task_fails i inputs n f) = IsProcessKind kind × (i ≡ k.node) × (inputs ≡ k.take.inputs) × (n ≡ k.take.n) × (R.job i inputs n (attempt_of k) ≡ Err f)

-- why a ticket may be given up
abbrev pub MayCause : Rules → Kind → Ticket → PlainStop → Type 0
MayCause R kind k (fault_stop f) = IsOwnFault R kind k f
MayCause R kind k (charge_stop sum) = ⊥
MayCause R kind k (outside_stop o) = Unit {0}
MayCause R kind k memory_stop = Unit {0}

-- without a cause only in a stopped run
abbrev pub AbortIsLegal : List PlainNode → Rules → State → Ticket → Option PlainStop → Type 0
AbortIsLegal g R s k None = is_some s.stop ≡ true
AbortIsLegal g R s k (Some x) = MayCause R (node_at g k.node).kind k x

-- ---- all events

-- the ticket is in flight, and P holds of it
abbrev pub InFlight : State → ℕ → (Ticket → Type 0) → Type 0
InFlight s t P = MatchOption (ticket_at t s.tickets) ⊥ P

abbrev pub IsLegal : List PlainNode → Rules → State → PlainEvent → Type 0
IsLegal g R s (pass i k) = PassIsLegal g s i k
IsLegal g R s (taking i port place t n) = TakeIsLegal g s i port place t n
IsLegal g R s (give t a) = InFlight s t (λ k. GiveIsLegal g R s k a)
IsLegal g R s (start t cause) = InFlight s t (StartIsLegal g R s)
IsLegal g R s (finish t r outs) = InFlight s t (λ k. FinishIsLegal g R k r outs)
IsLegal g R s (reuse t r outs) = InFlight s t (λ k. ReuseIsLegal g R s k r outs)
IsLegal g R s (close i) = CloseIsLegal g s i
IsLegal g R s (abort t cause) = InFlight s t (λ k. AbortIsLegal g R s k cause)
IsLegal g R s halt = s.stop ≡ None
