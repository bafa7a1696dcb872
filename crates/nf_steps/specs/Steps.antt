-- What the calls on a run do.
use Rattle.std.specs.Prelude.{◌≡◌, ℕ, [], ◌∷◌, true, false, is_some, is_ok, if◌then◌else◌, Result, Ok, Err}
use Rattle.std.specs.declared.option.Option.{Option}
use Rattle.std.specs.declared.option.Option.TheVariants.{None, Some}
use Rattle.nf_value.specs.Plain.{Plain}
use Rattle.nf_value.specs.declared.value.Value.{Value}
use Rattle.nf_value.specs.declared.fault.EvalFault.{EvalFault}
use Rattle.nf_job.specs.declared.fault.TaskFault.{TaskFault}
use Rattle.nf_job.specs.declared.fault.TaskRefusal.{TaskRefusal}
use Rattle.nf_job.specs.declared.fault.TaskRefusal.TheVariants as task
use Rattle.nf_job.specs.declared.parts.JobParts.{JobParts}
use Rattle.nf_job.specs.declared.report.Report.{Report}
use Rattle.nf_graph.specs.Node.{node_at}
use Rattle.nf_graph.specs.Rules.{Rules, Outs}
use Rattle.nf_graph.specs.WellMade.{IsWellMade}
use Rattle.nf_machine.specs.declared.event.Event.{Event}
use Rattle.nf_machine.specs.declared.event.Event.TheVariants as e
use Rattle.nf_machine.specs.declared.event.Move.{Move}
use Rattle.nf_machine.specs.declared.event.Move.TheVariants as m
use Rattle.nf_machine.specs.declared.event.Cause.{Cause}
use Rattle.nf_machine.specs.declared.stop.Stop.{Stop}
use Rattle.nf_machine.specs.declared.stop.Stop.TheVariants as s
use Rattle.nf_machine.specs.Event.{answer_of}
use Rattle.nf_machine.specs.Legal.{IsOperatorKind, IsProcessKind}
use Rattle.nf_flight.specs.declared.ticket.Ticket.{Ticket}
use Rattle.nf_flight.specs.Ticket.{number_of, node_of, inputs_of, n_of, attempt_of}
use Rattle.nf_flow.specs.Seen.{Seen, plain_of, state_of, grown, roomy, take_of}
use Rattle.nf_flow.specs.Questions.{IsFlying, IsStarted}
use Rattle.nf_steps.specs.Run.{ticket_of}

-- the event of a move
abbrev pub event_by : Seen → Move → Event
event_by z (m.Pass port) = e.Pass port
event_by z (m.Take node port place) = take_of z node port place
event_by z (m.Close node) = e.Close node

-- why a ticket is given up: for nothing if the run is stopped, else for want of memory
abbrev pub up_cause : Seen → Option Stop
up_cause z = if is_some (state_of z).stop then None else Some s.Mem

-- one event about the ticket of this number was added
pub record IsAbout (old : Seen) (number : ℕ) (new : Seen) : Type 0 where
  pub event : Event
  pub about : ticket_of event ≡ Some number
  pub is : new ≡ grown old event

-- the attempt started, or the ticket left
abbrev pub Starts : Seen → Ticket → Cause → Option Ticket → Seen → Type 0
Starts old t cause None new = IsAbout old (number_of t) new
Starts old t cause (Some u) new = (u ≡ t) × (new ≡ grown old (e.Start (number_of t) cause)) × IsFlying new t

-- the ticket left, or came back for the next attempt
abbrev pub Ends : Seen → Ticket → Option Ticket → Seen → Type 0
Ends old t None new = IsAbout old (number_of t) new
Ends old t (Some u) new = IsAbout old (number_of t) new × (number_of u ≡ number_of t) × IsFlying new u

-- there is room for an event of a run that goes on
pub record CanGoOn (old new : Seen) : Type 0 where
  pub room : new ≡ roomy old
  pub running : is_some (state_of old).stop ≡ false

-- there is room for the start of an attempt that isn't started
pub record CanStart (old : Seen) (t : Ticket) (new : Seen) : Type 0 where
  pub room : new ≡ roomy old
  pub running : is_some (state_of old).stop ≡ false
  pub fresh : IsStarted old t false

-- there is room for the end of an attempt that is started
pub record CanEnd (old : Seen) (t : Ticket) (new : Seen) : Type 0 where
  pub room : new ≡ roomy old
  pub started : IsStarted old t true

-- ---- what rules answer for a ticket

abbrev pub IsTask : Seen → Ticket → Type 0
IsTask z t = IsProcessKind (node_at (plain_of z) (node_of t)).kind

-- the ticket is an operator's, with its one item, and the rules have this answer for it
pub record IsAnswered (R : Rules) (z : Seen) (t : Ticket) (answer : Result Value EvalFault) : Type 0 where
  pub well_made : IsWellMade z.graph
  pub kind : IsOperatorKind (node_at (plain_of z) (node_of t)).kind
  pub item : Plain
  pub sole : inputs_of t ≡ item ∷ []
  pub by_rule : answer_of answer ≡ R.answer (node_of t) item

abbrev pub job_by : Rules → Ticket → Result JobParts TaskFault
job_by R t = R.job (node_of t) (inputs_of t) (n_of t) (attempt_of t)

-- the ticket is a process's, and its attempt has a job
pub record HasJob (R : Rules) (z : Seen) (t : Ticket) : Type 0 where
  pub task : IsTask z t
  pub job : is_ok (job_by R t) ≡ true

-- the ticket is a process's, and its attempt has this fault in place of a job
pub record IsRefused (R : Rules) (z : Seen) (t : Ticket) (fault : TaskFault) : Type 0 where
  pub task : IsTask z t
  pub job : job_by R t ≡ Err fault

-- one of the two
abbrev pub IsJudged : {A : Type 0} → Rules → Seen → Ticket → Result A TaskRefusal → Type 0
IsJudged R z t (Ok x) = HasJob R z t
IsJudged R z t (Err (task.Fault f)) = IsRefused R z t f
IsJudged R z t (Err task.Mem) = Unit {0}

-- the ticket is a process's, and the rules make this of the report
pub record IsOutcome (R : Rules) (z : Seen) (t : Ticket) (report : Report) (outs : Outs) : Type 0 where
  pub task : IsTask z t
  pub by_rule : outs ≡ R.outputs (node_of t) (inputs_of t) (attempt_of t) report
