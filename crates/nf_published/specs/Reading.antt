-- Reading a history event by event.
use Rattle.std.specs.Prelude.{◌≡◌, ℕ, ◌+◌, ◌-◌, ◌^◌, ◌==◌, min, List, [], ◌∷◌, ◌++◌, Bool, false, not, get_or, length, slice_set, Ok, Err}
use Rattle.std.specs.declared.option.Option.{Option}
use Rattle.std.specs.declared.option.Option.TheVariants.{None, Some}
use Rattle.nf_value.specs.Plain.{Plain}
use Rattle.nf_job.specs.declared.report.Report.{Report}
use Rattle.nf_job.specs.declared.emitted.Outputs.TheVariants.{Emits, Ignored, Failed, Again}
use Rattle.nf_graph.specs.Rules.{Outs}
use Rattle.nf_machine.specs.declared.event.Event.{Event}
use Rattle.nf_machine.specs.declared.event.Event.TheVariants as e
use Rattle.nf_flow.specs.Questions.{inputs_in}
use Rattle.nf_flow.specs.Seen.{Seen}
use Rattle.nf_tasks.specs.Judged.{Judged}
use Rattle.nf_tasks.specs.declared.target_list.Target.{Target}
use Rattle.nf_bodies.specs.declared.body.NodeBody.{NodeBody}
use Rattle.nf_bodies.specs.declared.body.NodeBody.TheVariants as body
use Rattle.nf_published.specs.declared.reading.Reading.{Reading}
use Rattle.nf_published.specs.declared.reading.Tried.{Tried}
use Rattle.nf_published.specs.Published.{Publishing}

-- ---- where the task of a ticket stands

-- what no ticket has
abbrev pub no_try : Tried
no_try = record { node = 0; attempt = 0 }

-- at its take
abbrev pub first_try : ℕ → Tried
first_try node = record { node = node; attempt = 1 }

-- with one attempt more
abbrev pub next_try : Tried → Tried
next_try x = record { node = x.node; attempt = min (x.attempt + 1) (2 ^ 32 - 1) }

-- the same for ticket t alone
abbrev pub tries_with_next : ℕ → List Tried → List Tried
tries_with_next t xs = slice_set xs t (next_try (get_or xs t no_try))

-- after an attempt of ticket t whose report amounts to this
abbrev pub tries_after : ℕ → Outs → List Tried → List Tried
tries_after t (Ok Again) xs = tries_with_next t xs
tries_after t (Ok (Emits vs)) xs = xs
tries_after t (Ok Ignored) xs = xs
tries_after t (Ok (Failed f)) xs = xs
tries_after t (Err f) xs = xs

-- ---- what is published

-- nothing where publishing has a fault
abbrev pub judged_targets : Judged (List Target) → List Target
judged_targets (Ok ts) = ts
judged_targets (Err f) = []

-- what a report publishes whose task stands so, and has these inputs
abbrev pub published_at : Publishing → Report → Tried → Option (List Plain) → List Target
published_at P r x None = []
published_at P r x (Some inputs) = judged_targets (P x.node inputs x.attempt r)

-- the same of a report that amounts to this
abbrev pub published_if : Publishing → Report → Outs → Tried → Option (List Plain) → List Target
published_if P r (Ok (Emits vs)) x inputs = published_at P r x inputs
published_if P r (Ok Ignored) x inputs = []
published_if P r (Ok (Failed f)) x inputs = []
published_if P r (Ok Again) x inputs = []
published_if P r (Err f) x inputs = []

-- a node whose tasks may publish: a process with a directive that publishes
abbrev pub may_publish_body : NodeBody → Bool
may_publish_body (body.Process s) = not (length s.publishes.items == 0)
may_publish_body _ = false

-- ---- events

-- an attempt of ticket t came back with this report, which amounts to this
pub record Ends (P : Publishing) (z : Seen) (t : ℕ) (r : Report) (outs : Outs) (old new : Reading) : Type 0 where
  pub tries : new.tries.items ≡ tries_after t outs old.tries.items
  pub targets : new.targets.items ≡ old.targets.items
      ++ published_if P r outs (get_or old.tries.items t no_try) (inputs_in z t)

-- the node took the next ticket
pub record Takes (node : ℕ) (old new : Reading) : Type 0 where
  pub tries : new.tries.items ≡ old.tries.items ++ first_try node ∷ []
  pub targets : new.targets.items ≡ old.targets.items

pub record Stays (old new : Reading) : Type 0 where
  pub tries : new.tries.items ≡ old.tries.items
  pub targets : new.targets.items ≡ old.targets.items

-- the event was read
abbrev pub ReadsOn : Publishing → Seen → Event → Reading → Reading → Type 0
ReadsOn P z (e.Take node port place t n) old new = Takes node old new
ReadsOn P z (e.Finish t r outs) old new = Ends P z t r outs old new
ReadsOn P z (e.Reuse t r outs) old new = Ends P z t r outs old new
ReadsOn P z (e.Pass port) old new = Stays old new
ReadsOn P z (e.Give t answer) old new = Stays old new
ReadsOn P z (e.Start t cause) old new = Stays old new
ReadsOn P z (e.Close node) old new = Stays old new
ReadsOn P z (e.Abort t cause) old new = Stays old new
ReadsOn P z e.Halt old new = Stays old new
