-- What the calls of a run ask for and answer.
use Rattle.std.specs.Prelude.{◌≡◌, ◌≢◌, ◌⊎◌, ℕ, List, true, Ok, Result, is_none, option_map, IfSome, MatchOption}
use Rattle.std.specs.declared.option.Option.{Option}
use Rattle.std.specs.declared.option.Option.TheVariants.{None, Some}
use Rattle.nf_value.specs.declared.value.Value.{Value}
use Rattle.nf_value.specs.declared.fault.EvalFault.{EvalFault}
use Rattle.nf_job.specs.declared.emitted.Outputs.TheVariants.{Again}
use Rattle.nf_job.specs.declared.parts.JobParts.{JobParts}
use Rattle.nf_job.specs.declared.report.Report.{Report}
use Rattle.nf_graph.specs.Node.{node_at}
use Rattle.nf_graph.specs.Rules.{Rules, Outs}
use Rattle.nf_machine.specs.declared.event.Event.{Event}
use Rattle.nf_machine.specs.declared.event.Event.TheVariants as e
use Rattle.nf_machine.specs.declared.event.Cause.{Cause}
use Rattle.nf_machine.specs.declared.stop.Stop.{Stop}
use Rattle.nf_machine.specs.declared.stop.Stop.TheVariants as s
use Rattle.nf_machine.specs.declared.stop.Outside.TheVariants.{Lane}
use Rattle.nf_machine.specs.Event.{answer_of, stop_of}
use Rattle.nf_machine.specs.State as machine
use Rattle.nf_machine.specs.Legal.{AbortIsLegal, InFlight, IsOperatorKind, IsProcessKind}
use Rattle.nf_machine.specs.Step.{ticket_at}
use Rattle.nf_flight.specs.declared.ticket.Ticket.{Ticket}
use Rattle.nf_flight.specs.Ticket.{number_of, node_of, next_attempt}
use Rattle.nf_flow.specs.Seen.{Seen, plain_of, state_of, grown}
use Rattle.nf_flow.specs.Questions.{IsFlying}
use Rattle.nf_core.specs.declared.next.Next.{Next}
use Rattle.nf_core.specs.declared.next.Next.TheVariants.{Run, Look, Over}
use Rattle.nf_core.specs.Opening.{Opening, GivesReport}
use Rattle.nf_core.specs.declared.ran.Ran.{Ran}
use Rattle.nf_core.specs.Ran.{IsRan, done_of, report_of}
use Rattle.nf_job.specs.JobText.{job_text}
use Rattle.nf_core.specs.Causes.{IsLeft}

-- ---- operators

-- the ticket is an operator's, and the rules have this answer for its item
pub record IsAnswered (R : Rules) (z : Seen) (t : Ticket) (answer : Result Value EvalFault) : Type 0 where
  pub ticket : machine.Ticket
  pub there : ticket_at (number_of t) (state_of z).tickets ≡ Some ticket
  pub kind : IsOperatorKind (node_at (plain_of z) ticket.node).kind
  pub by_rule : answer_of answer ≡ R.answer ticket.node ticket.take.item

-- ---- tasks

-- the ticket is a process's
abbrev pub IsTask : Seen → Ticket → Type 0
IsTask z t = IsProcessKind (node_at (plain_of z) (node_of t)).kind

-- the ticket was given up, and no lane is blamed for it
pub record GivesUp (old : Seen) (t : Ticket) (new : Seen) : Type 0 where
  pub cause : Option Stop
  pub innocent : cause ≢ Some (s.Outside Lane)
  pub is : new ≡ grown old (e.Abort (number_of t) cause)

-- under these rules the ticket may be given up for this cause
abbrev pub MayGiveUp : Rules → Seen → Ticket → Option Stop → Type 0
MayGiveUp R z t cause = InFlight (state_of z) (number_of t) (λ k. AbortIsLegal (plain_of z) R (state_of z) k (option_map stop_of cause))

-- what comes next of a ticket whose attempt isn't started: a run of the started attempt, a look for the files of the record that was found,
-- or nothing, as the ticket was given up
abbrev pub IsNext : Opening → JobParts → Seen → Ticket → Next → Seen → Type 0
IsNext F job old t (Run u) new = (u ≡ t) × ((cause : Cause) × (new ≡ grown old (e.Start (number_of t) cause)))
IsNext F job old t (Look u r) new = (u ≡ t) × IsLeft F job r × (new ≡ old) × (is_none (state_of old).stop ≡ true)
IsNext F job old t Over new = GivesUp old t new

-- the run of a ticket's attempt, if it started
abbrev pub run_or_over : Option Ticket → Next
run_or_over None = Over
run_or_over (Some t) = Run t

-- the attempt started with this cause, or the ticket was given up
abbrev pub Starts : Seen → Ticket → Cause → Option Ticket → Seen → Type 0
Starts old t cause (Some u) new = (u ≡ t) × (new ≡ grown old (e.Start (number_of t) cause))
Starts old t cause None new = GivesUp old t new

-- this event ended the attempt, and the ticket came back, in flight still, exactly if its task is tried again
pub record Ends (old : Seen) (t : Ticket) (x : Event) (outs : Outs) (back : Option Ticket) (new : Seen) : Type 0 where
  pub is : new ≡ grown old x
  pub again : MatchOption back (outs ≢ Ok Again) (λ u. (outs ≡ Ok Again) × (u ≡ next_attempt t))
  pub flying : IfSome back (IsFlying new)

-- the same, or the ticket was given up
abbrev pub EndsOrUp : Seen → Ticket → Event → Outs → Option Ticket → Seen → Type 0
EndsOrUp old t x outs (Some u) new = Ends old t x outs (Some u) new
EndsOrUp old t x outs None new = Ends old t x outs None new ⊎ GivesUp old t new

-- what a lane says of its Dones: which are genuine, and of each the text of its job and the report
pub record Saying (D : Type 0) : Type 1 where
  pub genuine : D → Type 0
  pub job : D → List ℕ
  pub told : D → Report

-- what may be entered for the ticket's job: a genuine Done of the job, whose report one of the lanes' worlds gives, with what the rules make of it
pub record IsEnteredBy (F : Opening) {D : Type 0} (says : Saying D) (t : Ticket) (job : JobParts) (x : Ran D) : Type 0 where
  pub real : says.genuine (done_of x)
  pub text : says.job (done_of x) ≡ job_text job
  pub ran : IsRan F.rules t job (done_of x) (says.told (done_of x)) x
  pub world : GivesReport F (job_text job) (report_of x)
