-- What each event does.
use Rattle.std.specs.Prelude.{ℕ, zero, suc, ◌+◌, ◌==◌, nat_lt, List, [], ◌∷◌, ◌++◌, true, false, cond, if◌then◌else◌, get_or, remove, count_by, Result, Ok, Err}
use Rattle.std.specs.declared.option.Option.{Option}
use Rattle.std.specs.declared.option.Option.TheVariants.{None, Some}
use Rattle.nf_value.specs.Plain.{Plain, null}
use Rattle.nf_value.specs.declared.fault.EvalFault.{EvalFault}
use Rattle.nf_opstream.specs.Push.{Push}
use Rattle.nf_opstream.specs.Fault.{Fault}
use Rattle.nf_opstream.specs.Operator.{to_out}
use Rattle.nf_job.specs.declared.report.Report.{Report}
use Rattle.nf_job.specs.declared.emitted.Outputs.TheVariants.{Emits, Ignored, Failed, Again}
use Rattle.nf_graph.specs.Rules.{Outs, emit_at}
use Rattle.nf_graph.specs.Node.{Kind, source, operator, process, PlainNode, port_at, node_at}
use Rattle.nf_graph.specs.Meaning.{put, same_inputs, filled, cost}
use Rattle.nf_graph.specs.Faults.{item_fails, op_fails, task_fails}
use Rattle.nf_machine.specs.Event.{PlainStop, fault_stop, charge_stop, memory_stop, PlainEvent, pass, taking, give, start, finish, reuse, close, abort, halt}
use Rattle.nf_machine.specs.State.{Take, Ended, Ticket, Spot, State, port_of, feed}

-- what all deliveries of a run may cost
abbrev pub limit : ℕ
limit = 67108864

-- ---- tickets and stops

abbrev pub ticket_at : ℕ → List Ticket → Option Ticket
ticket_at t [] = None
ticket_at t (k ∷ ks) = if k.number == t then Some k else ticket_at t ks

-- the list without this ticket
abbrev pub without : ℕ → List Ticket → List Ticket
without t [] = []
without t (k ∷ ks) = if k.number == t then ks else k ∷ without t ks

-- the latest ticket stands last
abbrev pub with_ticket : Ticket → List Ticket → List Ticket
with_ticket k ks = ks ++ k ∷ []

-- the first stop counts
abbrev pub or_stop : Option PlainStop → Option PlainStop → Option PlainStop
or_stop None o = o
or_stop (Some x) o = Some x

abbrev pub with_stop : State → PlainStop → State
with_stop s x = record s { stop = or_stop s.stop (Some x) }

abbrev pub with_spot : State → ℕ → Spot → State
with_spot s i sp = record s { spots = put s.spots i sp }

-- ---- Pass

abbrev pub passed_on : Spot → ℕ → Spot
passed_on sp k = record sp { passed = put sp.passed k (suc (sp.passed k)) }

-- where the charge passes the limit the item doesn't wait
abbrev pub do_pass : State → ℕ → ℕ → Plain → State
do_pass s i k x =
    let sp = passed_on (s.spots i) k in
    cond (nat_lt limit (s.charge + cost x))
    (record s { spots = put s.spots i sp; charge = s.charge + cost x; stop = Some (charge_stop (s.charge + cost x)) })
    (record s { spots = put s.spots i (record sp { waiting = put sp.waiting k (sp.waiting k ++ x ∷ []) }); charge = s.charge + cost x })

-- the next item for port k of node i
abbrev pub next_item : List PlainNode → State → ℕ → ℕ → Plain
next_item g s i k = get_or (feed s.spots (port_at (node_at g i) k)) ((s.spots i).passed k) null

-- ---- Take

abbrev pub slot_of : Kind → ℕ → ℕ
slot_of (source items) port = 0
slot_of (operator op) port = suc port
slot_of (process None) port = 0
slot_of (process (Some q)) port = suc q

-- the first item that waits at each port
abbrev pub heads : Spot → ℕ → Plain
heads sp k = get_or (sp.waiting k) 0 null

abbrev pub item_of : Kind → Spot → ℕ → ℕ → Plain
item_of (source items) sp port place = null
item_of (operator op) sp port place = get_or (sp.waiting port) place null
item_of (process None) sp port place = null
item_of (process (Some q)) sp port place = get_or (sp.waiting q) place null

abbrev pub inputs_of : PlainNode → Kind → Spot → Plain → List Plain
inputs_of node (source items) sp x = []
inputs_of node (operator op) sp x = x ∷ []
inputs_of node (process queue) sp x = filled 0 node.ports (heads sp) x

abbrev pub n_of : Kind → List Take → List Plain → ℕ
n_of (source items) taken inputs = 0
n_of (operator op) taken inputs = 0
n_of (process queue) taken inputs = count_by (λ u. same_inputs inputs u.inputs) taken

-- what a node takes
abbrev pub takes : PlainNode → Spot → ℕ → ℕ → Take
takes node sp port place =
    let x = item_of node.kind sp port place in
    let ins = inputs_of node node.kind sp x in
    record { slot = slot_of node.kind port; item = x; inputs = ins; n = n_of node.kind sp.taken ins }

-- the item leaves its port
abbrev pub left_at : ℕ → ℕ → (ℕ → List Plain) → ℕ → List Plain
left_at zero place waiting = waiting
left_at (suc k) place waiting = put waiting k (remove (waiting k) place)

-- what node i takes. Its number counts what this node took alone, though another process may have taken equal inputs
abbrev pub take_at : List PlainNode → State → ℕ → ℕ → ℕ → Take
take_at g s i port place = takes (node_at g i) (s.spots i) port place

-- node i takes t from this place of its port
abbrev pub do_take : State → ℕ → ℕ → Take → State
do_take s i place t =
    let sp = s.spots i in
    record s {
      spots = put s.spots i (record sp { waiting = left_at t.slot place sp.waiting; taken = t ∷ sp.taken });
      tickets = with_ticket (record { number = s.next; node = i; take = t; told = []; started = false }) s.tickets;
      next = suc s.next;
    }

-- ---- Give

abbrev pub Given : Type 0
Given = Result (List (ℕ × Plain)) Fault

abbrev pub pushed_on : Spot → Push → List (ℕ × Plain) → Spot
pushed_on sp x es = record sp { pushed = x ∷ sp.pushed; emitted = λ out. sp.emitted out ++ to_out out es }

abbrev pub op_gives : Kind → List Push → Push → Given
op_gives (source items) p x = Ok []
op_gives (operator op) p x = op.gives p x
op_gives (process queue) p x = Ok []

abbrev pub op_ends : Kind → List Push → Given
op_ends (source items) p = Ok []
op_ends (operator op) p = op.ends p
op_ends (process queue) p = Ok []

-- what is pushed, with the answer a
abbrev pub push_with : Take → Plain → Push
push_with t a = record { port = port_of t.slot; item = t.item; answer = a }

abbrev pub give_push : State → ℕ → Push → Given → State
give_push s i x (Ok es) = with_spot s i (pushed_on (s.spots i) x es)
give_push s i x (Err f) = with_stop s (fault_stop (op_fails i f))

abbrev pub do_give : List PlainNode → State → Ticket → Result Plain EvalFault → State
do_give g s k (Ok a) = give_push s k.node (push_with k.take a) (op_gives (node_at g k.node).kind (s.spots k.node).pushed (push_with k.take a))
do_give g s k (Err f) = with_stop s (fault_stop (item_fails k.node k.take.item f))

-- ---- Finish and Reuse

abbrev pub ended_on : Spot → Ended → Spot
ended_on sp e = record sp { ended = e ∷ sp.ended; emitted = λ out. sp.emitted out ++ emit_at e.outs out }

abbrev pub end_of : Ticket → Report → Outs → Ended
end_of k report outs = record { take = k.take; told = k.told ++ report ∷ []; outs = outs }

abbrev pub ends_at : State → Ticket → Ended → State
ends_at s k e = with_spot s k.node (ended_on (s.spots k.node) e)

-- s is without the ticket. A task that is tried again stays in flight, with one more report
abbrev pub do_finish : State → Ticket → Report → Outs → State
do_finish s k report (Ok Again) = record s { tickets = with_ticket (record k { told = k.told ++ report ∷ []; started = false }) s.tickets }
do_finish s k report (Ok (Emits vs)) = ends_at s k (end_of k report (Ok (Emits vs)))
do_finish s k report (Ok Ignored) = ends_at s k (end_of k report (Ok Ignored))
do_finish s k report (Ok (Failed f)) = with_stop (ends_at s k (end_of k report (Ok (Failed f)))) (fault_stop (task_fails k.node k.take.inputs k.take.n f))
do_finish s k report (Err f) = with_stop (ends_at s k (end_of k report (Err f))) (fault_stop (task_fails k.node k.take.inputs k.take.n f))

-- ---- Close

-- the node is closed also where its close has a fault
abbrev pub do_close : State → ℕ → Given → State
do_close s i (Ok es) = let sp = s.spots i in with_spot s i (record sp { closed = true; emitted = λ out. sp.emitted out ++ to_out out es })
do_close s i (Err f) = with_stop (with_spot s i (record (s.spots i) { closed = true })) (fault_stop (op_fails i f))

-- ---- all events

-- what f does to the ticket and the state without it
abbrev pub at_ticket : State → ℕ → Option Ticket → (State → Ticket → State) → State
at_ticket s t None f = s
at_ticket s t (Some k) f = f (record s { tickets = without t s.tickets }) k

abbrev pub step : List PlainNode → State → PlainEvent → State
step g s (pass i k) = do_pass s i k (next_item g s i k)
step g s (taking i port place t n) = do_take s i place (take_at g s i port place)
step g s (give t a) = at_ticket s t (ticket_at t s.tickets) (λ s' k. do_give g s' k a)
step g s (start t cause) = at_ticket s t (ticket_at t s.tickets) (λ s' k. record s' { tickets = with_ticket (record k { started = true }) s'.tickets })
step g s (finish t r outs) = at_ticket s t (ticket_at t s.tickets) (λ s' k. do_finish s' k r outs)
step g s (reuse t r outs) = at_ticket s t (ticket_at t s.tickets) (λ s' k. do_finish s' k r outs)
step g s (close i) = do_close s i (op_ends (node_at g i).kind (s.spots i).pushed)
step g s (abort t cause) = at_ticket s t (ticket_at t s.tickets) (λ s' k. record s' { gone = k ∷ s'.gone; stop = or_stop s'.stop cause })
step g s halt = record s { stop = Some memory_stop }

-- the state after a history, whose events stand in their order
abbrev pub replay : List PlainNode → State → List PlainEvent → State
replay g s [] = s
replay g s (e ∷ es) = replay g (step g s e) es
