-- What a history tells of the attempts at tasks.
use Rattle.std.specs.Prelude.{◌≡◌, ℕ, List, [], ◌∷◌, ◌++◌}
use Rattle.std.specs.declared.option.Option.{Option}
use Rattle.std.specs.declared.option.Option.TheVariants.{None, Some}
use Rattle.nf_job.specs.declared.parts.JobParts.{JobParts}
use Rattle.nf_job.specs.declared.report.Report.{Report}
use Rattle.nf_job.specs.JobText.{job_text}
use Rattle.nf_graph.specs.Node.{PlainNode}
use Rattle.nf_graph.specs.Rules.{Rules}
use Rattle.nf_machine.specs.Event.{PlainEvent, finish, reuse}
use Rattle.nf_machine.specs.State.{Ticket, State, opening, attempt_of}
use Rattle.nf_machine.specs.Step.{ticket_at, step}
use Rattle.nf_flight.specs.declared.ticket.Ticket as caller
use Rattle.nf_flight.specs.Ticket as parts
use Rattle.nf_stored.specs.Attempts.{Attempt, IsJobOf}

-- what f finds in each event, in the state before it, in the order of the events
abbrev pub told_from : {A : Type 0} → (State → PlainEvent → List A) → List PlainNode → State → List PlainEvent → List A
told_from f g s [] = []
told_from f g s (e ∷ es) = f s e ++ told_from f g (step g s e) es

abbrev pub told_in : {A : Type 0} → (State → PlainEvent → List A) → List PlainNode → List PlainEvent → List A
told_in f g h = told_from f g (opening g) h

-- the attempt of a take in flight
abbrev pub attempt_at : Ticket → Attempt
attempt_at k = record { node = k.node; inputs = k.take.inputs; n = k.take.n; attempt = attempt_of k }

-- the same of a caller's ticket
abbrev pub attempt_by : caller.Ticket → Attempt
attempt_by t = record { node = parts.node_of t; inputs = parts.inputs_of t; n = parts.n_of t; attempt = parts.attempt_of t }

-- an attempt that ended, with its report
pub record Ending : Type 0 where
  pub attempt : Attempt
  pub report : Report

abbrev pub ending_of : Option Ticket → Report → List Ending
ending_of None r = []
ending_of (Some k) r = record { attempt = attempt_at k; report = r } ∷ []

-- the attempt that a Finish ends
abbrev pub finished_by : State → PlainEvent → List Ending
finished_by s (finish t r outs) = ending_of (ticket_at t s.tickets) r
finished_by s _ = []

-- the attempt that a Reuse ends
abbrev pub reused_by : State → PlainEvent → List Ending
reused_by s (reuse t r outs) = ending_of (ticket_at t s.tickets) r
reused_by s _ = []

-- two lists whose members belong together, place by place
abbrev pub Match : {A B : Type 0} → (A → B → Type 0) → List A → List B → Type 0
Match P [] [] = Unit {0}
Match P (x ∷ xs) (y ∷ ys) = P x y × Match P xs ys
Match P [] (y ∷ ys) = ⊥
Match P (x ∷ xs) [] = ⊥

-- the text is that of the ending's job
pub record HasText (R : Rules) (e : Ending) (text : List ℕ) : Type 0 where
  pub job : JobParts
  pub of : IsJobOf R e.attempt job
  pub is : text ≡ job_text job

-- what is known of a Done beside its ending: genuine, job and told are the lane's
pub record IsDoneOf {D : Type 0} (genuine : D → Type 0) (job : D → List ℕ) (told : D → Report) (R : Rules) (d : D) (e : Ending) : Type 0 where
  pub real : genuine d
  pub text : HasText R e (job d)
  pub report : told d ≡ e.report

-- what is known of a Seen beside its ending
pub record IsSeenOf {S : Type 0} (genuine : S → Type 0) (told : S → Report) (s : S) (e : Ending) : Type 0 where
  pub real : genuine s
  pub report : told s ≡ e.report
