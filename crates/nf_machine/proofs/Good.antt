-- What every state that a lawful history reaches keeps.
use Rattle.std.proofs.Common.{◌≡◌, ℕ, suc, ◌+◌, ◌<◌, ◌≤◌, List, [], ◌∷◌, ◌++◌, map, length, take, get_or, Bool, true, cond, ◌&&◌, ◌||◌, ◌⊎◌}
use Rattle.std.specs.Prelude.{◌==◌, Option, Some, None, is_none, Ok, Err}
use Rattle.std.specs.List.{AllByRecursion}
use Rattle.nf_value.specs.Plain.{Plain, null}
use Rattle.nf_value.specs.declared.fault.EvalFault.{EvalFault}
use Rattle.nf_job.specs.declared.report.Report.{Report}
use Rattle.nf_job.specs.declared.fault.TaskFault.{TaskFault}
use Rattle.nf_opstream.specs.Push.{Push}
use Rattle.nf_opstream.specs.Fault.{Fault}
use Rattle.nf_opstream.specs.Operator.{Operator, AreFine, emitted as given_by, to_out, oks}
use Rattle.nf_opstream.proofs.Tally.{passes, Sub}
use Rattle.nf_opstream.proofs.Members.{In}
use Rattle.nf_graph.specs.Rules.{Rules, decided, AreTriedAgain, emit_at, fault_of, fault_by}
use Rattle.nf_graph.specs.Node.{Kind, source, operator, process, PlainNode, port_at, node_at}
use Rattle.nf_graph.specs.Meaning.{same_inputs, filled, numbered}
use Rattle.nf_graph.specs.Faults.{GraphFault, item_fails, op_fails, task_fails}
use Rattle.nf_machine.specs.Event.{PlainStop, fault_stop, charge_stop, outside_stop, memory_stop}
use Rattle.nf_machine.specs.State.{Take, Ended, Ticket, Spot, State, instance, port_of, feed}
use Rattle.nf_machine.specs.Step.{slot_of}
use Rattle.nf_machine.specs.Legal.{IsOperatorKind, IsProcessKind, MayClose, HasJob}
use Rattle.nf_machine.specs.History.{ClosedWell}

abbrev pub take_of : Push → Take
take_of x = record { slot = suc x.port; item = x.item; inputs = x.item ∷ []; n = 0 }

abbrev pub from_port : ℕ → (Plain → Bool) → Take → Bool
from_port k p t = (t.slot == suc k) && p t.item

abbrev pub flying : ℕ → (Take → Bool) → List Ticket → ℕ
flying i p ts = passes (λ t. (t.node == i) && p t.take) ts

abbrev pub seen : (ℕ → Spot) → PlainNode → Spot → ℕ → List Plain
seen E nd sp k = take (sp.passed k) (feed E (port_at nd k))

-- what passed is the beginning of what the producer emitted, and waits or was taken
pub record PortsOk (E : ℕ → Spot) (nd : PlainNode) (going : Bool) (sp : Spot) : Type 0 where
  pub fits : (k : ℕ) → sp.passed k ≤ length (feed E (port_at nd k))
  pub most : (k : ℕ) (p : Plain → Bool) → passes p (sp.waiting k) + passes (from_port k p) sp.taken ≤ passes p (seen E nd sp k)
  pub all : (going || sp.closed) ≡ true → (k : ℕ) (p : Plain → Bool) → passes p (sp.waiting k) + passes (from_port k p) sp.taken ≡ passes p (seen E nd sp k)
  pub held : going ≡ true → IsProcessKind nd.kind → (k : ℕ) → (port_at nd k).value ≡ true → sp.waiting k ≡ seen E nd sp k

-- what was taken is in flight, or was pushed or ended
pub record FlightOk (ts : List Ticket) (going : Bool) (i : ℕ) (sp : Spot) : Type 0 where
  pub most : (p : Take → Bool) → passes (λ x. p (take_of x)) sp.pushed + passes (λ e. p e.take) sp.ended + flying i p ts ≤ passes p sp.taken
  pub all : (going || sp.closed) ≡ true → (p : Take → Bool) → passes (λ x. p (take_of x)) sp.pushed + passes (λ e. p e.take) sp.ended + flying i p ts ≡ passes p sp.taken

abbrev pub feed_head : (ℕ → Spot) → PlainNode → ℕ → Plain
feed_head E nd k = get_or (feed E (port_at nd k)) 0 null

pub record OpTake (nd : PlainNode) (t : Take) : Type 0 where
  pub within : port_of t.slot < length nd.ports
  pub slot : t.slot ≡ suc (port_of t.slot)
  pub inputs : t.inputs ≡ t.item ∷ []
  pub n : t.n ≡ 0

pub record ProcessTake (E : ℕ → Spot) (nd : PlainNode) (q : Option ℕ) (t : Take) : Type 0 where
  pub slot : t.slot ≡ slot_of (process q) 0
  pub inputs : t.inputs ≡ filled 0 nd.ports (feed_head E nd) t.item
  pub fed : (k : ℕ) → k < length nd.ports → (port_at nd k).value ≡ true → 0 < length (feed E (port_at nd k))

abbrev pub Formed : (ℕ → Spot) → PlainNode → Kind → Take → Type 0
Formed E nd (source items) t = ⊥
Formed E nd (operator op) t = OpTake nd t
Formed E nd (process q) t = ProcessTake E nd q t

abbrev pub Once : Kind → Spot → Type 0
Once (source items) sp = Unit {0}
Once (operator op) sp = Unit {0}
Once (process None) sp = (length sp.taken ≤ 1) × AllByRecursion (λ t. t.item ≡ null) sp.taken
Once (process (Some q)) sp = Unit {0}

pub record TakesOk (E : ℕ → Spot) (nd : PlainNode) (sp : Spot) : Type 0 where
  pub formed : AllByRecursion (Formed E nd nd.kind) sp.taken
  pub numbers : IsProcessKind nd.kind → map instance sp.taken ≡ numbered same_inputs (map (λ t. t.inputs) sp.taken)
  pub once : Once nd.kind sp

abbrev pub outs_of : List Ended → ℕ → List Plain
outs_of [] out = []
outs_of (e ∷ es) out = outs_of es out ++ emit_at e.outs out

pub record OpMade (R : Rules) (i : ℕ) (op : Operator) (sp : Spot) : Type 0 where
  pub emitted : (out : ℕ) → sp.emitted out ≡ given_by op sp.pushed out ++ cond sp.closed (to_out out (oks (op.ends sp.pushed))) []
  pub fine : AreFine op sp.pushed
  pub by_rule : AllByRecursion (λ x. R.answer i x.item ≡ Ok x.answer) sp.pushed
  pub no_ended : sp.ended ≡ []

pub record ProcessMade (R : Rules) (i : ℕ) (sp : Spot) : Type 0 where
  pub emitted : (out : ℕ) → sp.emitted out ≡ outs_of sp.ended out
  pub decision : AllByRecursion (λ e. decided (R.job i e.take.inputs e.take.n) (R.outputs i e.take.inputs) 1 e.told ≡ Some e.outs) sp.ended
  pub no_pushed : sp.pushed ≡ []

pub record SourceMade (items : List Plain) (sp : Spot) : Type 0 where
  pub emitted : (out : ℕ) → sp.emitted out ≡ cond (out == 0) items []
  pub shut : sp.closed ≡ true

abbrev pub MadeOk : Rules → ℕ → Kind → Spot → Type 0
MadeOk R i (source items) sp = SourceMade items sp
MadeOk R i (operator op) sp = OpMade R i op sp
MadeOk R i (process q) sp = ProcessMade R i sp

abbrev pub Done : PlainNode → Kind → Spot → Type 0
Done nd (source items) sp = Unit {0}
Done nd (operator op) sp = MayClose nd (operator op) sp
Done nd (process q) sp = MayClose nd (process q) sp

pub record Whole (g : List PlainNode) (E : ℕ → Spot) (ts : List Ticket) (i : ℕ) (sp : Spot) : Type 0 where
  pub producers : (k : ℕ) → k < length (node_at g i).ports → ((E (port_at (node_at g i) k).from).closed ≡ true) × ClosedWell (node_at g (port_at (node_at g i) k).from).kind (E (port_at (node_at g i) k).from)
  pub passed : (k : ℕ) → k < length (node_at g i).ports → sp.passed k ≡ length (feed E (port_at (node_at g i) k))
  pub flight : passes (λ t. t.node == i) ts ≡ 0
  pub done : Done (node_at g i) (node_at g i).kind sp

pub record SpotOk (g : List PlainNode) (R : Rules) (E : ℕ → Spot) (ts : List Ticket) (going : Bool) (i : ℕ) (sp : Spot) : Type 0 where
  pub ports : PortsOk E (node_at g i) going sp
  pub flight : FlightOk ts going i sp
  pub takes : TakesOk E (node_at g i) sp
  pub made : MadeOk R i (node_at g i).kind sp
  pub clean : going ≡ true → sp.closed ≡ true → ClosedWell (node_at g i).kind sp
  pub whole : sp.closed ≡ true → Whole g E ts i sp
  pub quiet : going ≡ true → AllByRecursion (λ e. fault_of e.outs ≡ []) sp.ended

pub record TicketOk (g : List PlainNode) (R : Rules) (E : ℕ → Spot) (t : Ticket) : Type 0 where
  pub formed : Formed E (node_at g t.node) (node_at g t.node).kind t.take
  pub again : AreTriedAgain (R.job t.node t.take.inputs t.take.n) (R.outputs t.node t.take.inputs) 1 t.told
  pub job : t.started ≡ true → HasJob R t

-- the reports that an instance was told
abbrev pub Told : (ℕ → Spot) → List Ticket → ℕ → List Plain → ℕ → List Report → Type 0
Told E gone i inputs n told =
    ((e : Ended) × In e (E i).ended × (e.take.inputs ≡ inputs) × (e.take.n ≡ n) × (e.told ≡ told))
    ⊎ ((k : Ticket) × In k gone × (k.node ≡ i) × (k.take.inputs ≡ inputs) × (k.take.n ≡ n) × (k.told ≡ told))

pub record TaskStop (g : List PlainNode) (R : Rules) (E : ℕ → Spot) (gone : List Ticket) (i : ℕ) (inputs : List Plain) (n : ℕ) (f : TaskFault) : Type 0 where
  pub kind : IsProcessKind (node_at g i).kind
  pub told : List Report
  pub was_told : Told E gone i inputs n told
  pub taken : Sub ((inputs, n) ∷ []) (map instance (E i).taken)
  pub fault : (rest : List Report) → fault_by (decided (R.job i inputs n) (R.outputs i inputs) 1 (told ++ rest)) ≡ f ∷ []

pub record ItemStop (g : List PlainNode) (R : Rules) (E : ℕ → Spot) (i : ℕ) (x : Plain) (f : EvalFault) : Type 0 where
  pub kind : IsOperatorKind (node_at g i).kind
  pub take : Take
  pub taken : Sub (take ∷ []) (E i).taken
  pub item : take.item ≡ x
  pub fault : R.answer i x ≡ Err f

-- of a push
pub record PushStop (g : List PlainNode) (R : Rules) (E : ℕ → Spot) (i : ℕ) (op : Operator) (f : Fault) : Type 0 where
  pub push : Push
  pub by_rule : R.answer i push.item ≡ Ok push.answer
  pub taken : Sub (take_of push ∷ map take_of (E i).pushed) (E i).taken
  pub fault : op.gives (E i).pushed push ≡ Err f

-- of a close
pub record CloseStop (E : ℕ → Spot) (i : ℕ) (op : Operator) (f : Fault) : Type 0 where
  pub closed : (E i).closed ≡ true
  pub fault : op.ends (E i).pushed ≡ Err f

abbrev pub OpStop : List PlainNode → Rules → (ℕ → Spot) → ℕ → Kind → Fault → Type 0
OpStop g R E i (source items) f = ⊥
OpStop g R E i (operator op) f = PushStop g R E i op f ⊎ CloseStop E i op f
OpStop g R E i (process q) f = ⊥

abbrev pub FaultOk : List PlainNode → Rules → (ℕ → Spot) → List Ticket → GraphFault → Type 0
FaultOk g R E gone (task_fails i inputs n f) = TaskStop g R E gone i inputs n f
FaultOk g R E gone (item_fails i x f) = ItemStop g R E i x f
FaultOk g R E gone (op_fails i f) = OpStop g R E i (node_at g i).kind f

abbrev pub StopOk : List PlainNode → Rules → (ℕ → Spot) → List Ticket → Option PlainStop → Type 0
StopOk g R E gone None = Unit {0}
StopOk g R E gone (Some (charge_stop sum)) = Unit {0}
StopOk g R E gone (Some memory_stop) = Unit {0}
StopOk g R E gone (Some (outside_stop u)) = Unit {0}
StopOk g R E gone (Some (fault_stop f)) = FaultOk g R E gone f

pub record Good (g : List PlainNode) (R : Rules) (s : State) : Type 0 where
  pub spots : (i : ℕ) → SpotOk g R s.spots s.tickets (is_none s.stop) i (s.spots i)
  pub tickets : AllByRecursion (TicketOk g R s.spots) s.tickets
  pub stop : StopOk g R s.spots s.gone s.stop
