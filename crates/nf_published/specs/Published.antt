-- What a run published, by its history: the files of the reports that decided its tasks.
use Rattle.std.specs.Prelude.{ℕ, List, []}
use Rattle.std.specs.declared.option.Option.{Option}
use Rattle.std.specs.declared.option.Option.TheVariants.{None, Some}
use Rattle.nf_value.specs.Plain.{Plain}
use Rattle.nf_job.specs.declared.report.Report.{Report}
use Rattle.nf_graph.specs.Rules.{Outs}
use Rattle.nf_graph.specs.Node.{PlainNode}
use Rattle.nf_machine.specs.Event.{PlainEvent, finish, reuse}
use Rattle.nf_machine.specs.State.{Ticket, State, attempt_of}
use Rattle.nf_machine.specs.Step.{ticket_at}
use Rattle.nf_core.specs.Told.{told_in}
use Rattle.nf_flow.specs.Seen.{Seen, events_of, plain_of}
use Rattle.nf_tasks.specs.Judged.{Judged}
use Rattle.nf_tasks.specs.Memory.{Program}
use Rattle.nf_tasks.specs.declared.target_list.Target.{Target}
use Rattle.nf_meaning.specs.Tasks.{targets_if}
use Rattle.nf_bodies.specs.declared.body.NodeInfo.{NodeInfo}
use Rattle.nf_bodies.specs.Bodies.{body_in, published_of}

-- what a report publishes: by its node's place, the inputs of its task and the attempt
abbrev pub Publishing : Type 0
Publishing = ℕ → List Plain → ℕ → Report → Judged (List Target)

-- what a report publishes with which a ticket came back, if it decides the ticket's task
abbrev pub published_for : Publishing → Report → Outs → Option Ticket → List Target
published_for P r outs None = []
published_for P r outs (Some k) = targets_if outs (P k.node k.take.inputs (attempt_of k) r) []

-- what an event publishes, in the state before it
abbrev pub published_by : Publishing → State → PlainEvent → List Target
published_by P s (finish t r outs) = published_for P r outs (ticket_at t s.tickets)
published_by P s (reuse t r outs) = published_for P r outs (ticket_at t s.tickets)
published_by P s _ = []

-- what a run published, in the order of its events
abbrev pub published_in : Publishing → List PlainNode → List PlainEvent → List Target
published_in P g h = told_in (published_by P) g h

-- ---- a run of a plan's nodes

-- what the bodies of these nodes publish
abbrev pub publishing_of : Program → List NodeInfo → Publishing
publishing_of n infos i inputs attempt r = published_of n (body_in infos i) inputs attempt r

abbrev pub published_of_run : Program → List NodeInfo → Seen → List Target
published_of_run n infos z = published_in (publishing_of n infos) (plain_of z) (events_of z)
