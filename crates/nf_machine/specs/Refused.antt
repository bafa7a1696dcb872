-- A task whose attempt has no job.
use Rattle.std.specs.Prelude.{◌≡◌, ◌≢◌, ℕ, List, false, Err}
use Rattle.std.specs.declared.option.Option.TheVariants.{None, Some}
use Rattle.std.specs.List.{Contains}
use Rattle.nf_job.specs.declared.fault.TaskFault.{TaskFault}
use Rattle.nf_graph.specs.Rules.{Rules}
use Rattle.nf_graph.specs.Node.{PlainNode, node_at}
use Rattle.nf_graph.specs.Meaning.{Outcomes}
use Rattle.nf_graph.specs.Faults.{GraphFault, task_fails, faults}
use Rattle.nf_graph.specs.Singles.{FailsAlone}
use Rattle.nf_machine.specs.Event.{fault_stop, PlainEvent, pass, taking, give, start, finish, reuse, close, abort, halt}
use Rattle.nf_machine.specs.State.{Ticket, State, attempt_of, instance}
use Rattle.nf_machine.specs.Step.{ticket_at, step, replay}
use Rattle.nf_machine.specs.Legal.{IsProcessKind, IsLegal}
use Rattle.nf_machine.specs.History.{IsLawful, ended_well, Agrees}

-- a process's ticket k is in flight, and its attempt has no job
pub record LacksJob (g : List PlainNode) (R : Rules) (s : State) (k : Ticket) (f : TaskFault) : Type 0 where
  pub flying : ticket_at k.number s.tickets ≡ Some k
  pub kind : IsProcessKind (node_at g k.node).kind
  pub refused : R.job k.node k.take.inputs k.take.n (attempt_of k) ≡ Err f

-- the fault of a ticket's task
abbrev pub own_fault : Ticket → TaskFault → GraphFault
own_fault k f = task_fails k.node k.take.inputs k.take.n f

-- the event neither answers the ticket of this number nor starts, reuses or finishes its attempt
abbrev pub Spares : ℕ → PlainEvent → Type 0
Spares t (pass i k) = Unit {0}
Spares t (taking i port place u n) = Unit {0}
Spares t (give u a) = u ≢ t
Spares t (start u cause) = u ≢ t
Spares t (finish u r outs) = u ≢ t
Spares t (reuse u r outs) = u ≢ t
Spares t (close i) = Unit {0}
Spares t (abort u cause) = Unit {0}
Spares t halt = Unit {0}

-- the ticket can only be given up, and its run fails
pub record FailsItsRun (g : List PlainNode) (R : Rules) (s : State) (k : Ticket) (f : TaskFault) : Type 0 where
  pub spared : (e : PlainEvent) → IsLegal g R s e → Spares k.number e
  -- it may be given up for its fault, which stops a run that isn't stopped
  pub legal : IsLegal g R s (abort k.number (Some (fault_stop (own_fault k f))))
  pub stops : s.stop ≡ None → (step g s (abort k.number (Some (fault_stop (own_fault k f))))).stop ≡ Some (fault_stop (own_fault k f))
  -- in the meaning, its instance emits nothing and has this fault alone
  pub alone : (o : Outcomes) → Agrees o s → FailsAlone R o k.node (instance k.take) f
  pub fault : (o : Outcomes) → Agrees o s → Contains (faults R o g) (own_fault k f)
  -- however the run goes on
  pub never_well : (h : List PlainEvent) → IsLawful g R s h → ended_well g (replay g s h) ≡ false
