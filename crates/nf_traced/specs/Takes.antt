-- What came of the takes of a run, by its history.
use Rattle.std.specs.Prelude.{ℕ, ℤ, ◌+◌, ◌==◌, ◌&&◌, List, [], ◌∷◌, ◌++◌, Bool, false, if◌then◌else◌, count_by, Ok, Err}
use Rattle.nf_job.specs.declared.emitted.Outputs.TheVariants.{Emits, Ignored, Again}
use Rattle.nf_job.specs.declared.emitted.Outputs.TheVariants as outputs
use Rattle.nf_graph.specs.Rules.{Outs, Rules, IsRules}
use Rattle.nf_machine.specs.Event.{PlainEvent, taking, finish, reuse, abort}
use Rattle.nf_machine.specs.History.{IsHistory}
use Rattle.nf_flow.specs.Seen.{Seen, events_of, plain_of}
use Rattle.nf_flow.specs.Questions.{is_again}
use Rattle.nf_trace.specs.declared.task.TaskStatus.{TaskStatus}
use Rattle.nf_trace.specs.declared.task.TaskStatus.TheVariants.{Completed, Cached, Aborted}
use Rattle.nf_trace.specs.declared.task.TaskStatus.TheVariants as status
use Rattle.nf_traced.specs.declared.taken.Taken.{Taken}

-- the run's history is lawful under some rules
pub record IsProperRun (z : Seen) : Type 0 where
  pub rules : Rules
  pub proper : IsRules rules
  pub lawful : IsHistory (plain_of z) rules (events_of z)

-- ---- attempts

-- an attempt of ticket t came back and is tried again
abbrev pub is_retry : ℕ → PlainEvent → Bool
is_retry t (finish u r outs) = (u == t) && is_again outs
is_retry t (reuse u r outs) = (u == t) && is_again outs
is_retry t _ = false

-- ---- status

-- the status of a task whose attempt ended with this exit status, and whose report amounts to this
abbrev pub ended_as : ℤ → Outs → TaskStatus
ended_as exit (Ok (Emits vs)) = Completed exit
ended_as exit (Ok Ignored) = status.Failed exit
ended_as exit (Ok (outputs.Failed f)) = status.Failed exit
ended_as exit (Ok Again) = status.Failed exit
ended_as exit (Err f) = status.Failed exit

-- the status of ticket t's task after an event, where it was this before
abbrev pub status_by : ℕ → TaskStatus → PlainEvent → TaskStatus
status_by t was (finish u r outs) = if u == t then ended_as r.exit outs else was
status_by t was (reuse u r outs) = if u == t then Cached r.exit else was
status_by t was (abort u cause) = if u == t then Aborted else was
status_by t was _ = was

-- the status after the last of these events that ends an attempt of ticket t or gives it up
abbrev pub status_after : ℕ → TaskStatus → List PlainEvent → TaskStatus
status_after t was [] = was
status_after t was (e ∷ es) = status_after t (status_by t was e) es

-- ---- takes

-- A take at its start: the first attempt is reached. As long as nothing came of it, it counts as given up
abbrev pub new_take : ℕ → ℕ → ℕ → Taken
new_take ticket node n = record { ticket = ticket; node = node; n = n; reached = 1; status = Aborted }

-- what came of a take by the events after it: an attempt more for each one that was tried again, and its status
abbrev pub came_of : Taken → List PlainEvent → Taken
came_of x later = record {
  ticket = x.ticket;
  node = x.node;
  n = x.n;
  reached = x.reached + count_by (is_retry x.ticket) later;
  status = status_after x.ticket x.status later;
}

-- what came of the take that an event is, by the events after it
abbrev pub taken_by : PlainEvent → List PlainEvent → List Taken
taken_by (taking node port place t n) later = came_of (new_take t node n) later ∷ []
taken_by _ later = []

-- what came of all takes, in the order of the history
abbrev pub takes_of : List PlainEvent → List Taken
takes_of [] = []
takes_of (e ∷ es) = taken_by e es ++ takes_of es
