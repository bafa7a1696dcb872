-- What the work of a call comes to, and what is written of it.
use Rattle.std.specs.Prelude.{◌≡◌, ◌≤◌, ◌↔◌, [], Result, Ok, Err, IfOk, IsSome, is_some}
use Rattle.nf_host.specs.Faults.{Rose}
use Rattle.nf_graph.specs.Rules.{Rules}
use Rattle.nf_tasks.specs.Memory.{Program}
use Rattle.nf_core.specs.Told.{Ending}
use Rattle.nf_ends.specs.declared.end.End.{End}
use Rattle.nf_ends.specs.declared.writes.Output.{Output}
use Rattle.nf_ends.specs.declared.writes.Output.TheVariants.{Text}
use Rattle.nf_ends.specs.Writes.{EndsAs, IsRefusal, OnSinkFault, WroteLine, WroteOutput, output_text}
use Rattle.nf_plan.specs.declared.builder.PlanBuilder.{PlanBuilder}
use Rattle.nf_ran.specs.Run.{run_of}
use Rattle.nf_ran.specs.DeclaredFinished.{Finished}
use Rattle.nf_ran.specs.declared.options.RunOptions.{RunOptions}
use Rattle.nf_plan.specs.declared.plan.Plan.{Plan}
use Rattle.nf_ran.specs.Ran.{Began, IsMade, IsPlanned, RanPlan, Upshot, begun_over, came_to, trace_text}
use Rattle.nf_carried.specs.Objects.{CallEnd, Hands, HostNow, Objects, OnWritten, SinkNow, Worked}
use Rattle.nf_carried.specs.Copying.{Copies}
use Rattle.nf_carried.specs.Tracing.{NotesTrace}
use Rattle.nf_carried.specs.Table.{Due, OwesRun}
use Rattle.nf_carried.specs.declared.work.Way.{Way}
use Rattle.nf_carried.specs.declared.work.Work.{Work}
use Rattle.nf_carried.specs.declared.work.Work.TheVariants as work

-- ---- work

-- a refusal is no end of a call that wrote an output; a plan is one that was made
abbrev pub IsDoable : Work → Type 0
IsDoable (work.Write text) = Unit {0}
IsDoable (work.Refuse e) = IsRefusal e
IsDoable (work.Run plan way) = IsPlanned plan.graph plan.infos.items

-- nothing was run
pub record RanNothing (before : Hands) {D S : Type 0} (y : Worked D S) : Type 0 where
  pub history : y.history ≡ []
  pub dones : y.dones ≡ []
  pub seens : y.seens ≡ []
  pub after : y.after ≡ before

-- a plan was run, then its trace was written, and then the files were copied that it published
pub record RanAndCopied (x : Began) (way : Way) (host : HostNow) {D S : Type 0}
    (done : Rules → D → Ending → Type 0) (seen : S → Ending → Type 0) (y : Worked D S) : Type 0 where
  pub upshot : Upshot
  pub ran : RanPlan x done seen (came_to y.history y.dones y.seens upshot y.after.keeper y.after.lanes)
  -- the host once the trace was written, and what was to be copied then
  pub noted : HostNow
  pub later : (host.faults ≤ noted.faults) × (noted.faults ≤ y.after.host.faults)
  pub left : Result Finished End
  pub notes : NotesTrace way.trace upshot host noted left
  pub copied : Copies way left noted y.after.host y.outcome

-- how the plan is run for that
abbrev pub options_of : Way → RunOptions
options_of way = record { resume = way.resume; traced = is_some way.trace }

-- A text and a refusal are as they were, and nothing was run for them. A plan was run. done and seen say what is known
-- of a Done and a Seen beside the attempt that it ended
abbrev pub Did : Program → Work → Hands → {D S : Type 0} → (Rules → D → Ending → Type 0) → (S → Ending → Type 0)
    → Worked D S → Type 0
Did n (work.Write text) before done seen y = (y.outcome ≡ Ok (Text text)) × RanNothing before y
Did n (work.Refuse e) before done seen y = (y.outcome ≡ Err e) × RanNothing before y
Did n (work.Run plan way) before done seen y =
    RanAndCopied (begun_over n plan.graph plan.infos.items (options_of way) before.keeper before.lanes) way before.host
    done seen y

-- ---- what is written

-- The call ended with this, which was to be written. An output is written whole, or a front of it if the sink failed;
-- of a refusal its error line, and nothing if there is no memory for that
pub record Closes (outcome : Result Output End) (before after : SinkNow) (e : End) : Type 0 where
  pub ends : EndsAs outcome e
  pub output : IfOk outcome (λ o. OnWritten before after (WroteOutput e (output_text o)))
  pub line : OnWritten before after (WroteLine e (Rose before.faults after.faults))
  -- the sink is blamed only if its count rose
  pub blamed : OnSinkFault e (Rose before.faults after.faults)
  pub later : before.faults ≤ after.faults
  pub told : IsSome after.written ↔ IsSome before.written

-- ---- the whole

abbrev pub with_outcome : {D S : Type 0} → Result Output End → CallEnd D S → Worked D S
with_outcome outcome y =
    record { history = y.history; dones = y.dones; seens = y.seens; outcome = outcome; after = y.after.hands }

-- what is due of a run of this plan, which the builder made
abbrev pub due_of : Program → Plan → Way → PlanBuilder → Due
due_of n plan way b = record {
  run = run_of n b;
  way = way;
  trace = λ h. trace_text n plan.graph plan.infos.items h;
}

-- of a plan the call owes what its script means; of other work nothing more
abbrev pub OwesWork : Program → Work → Objects → {D S : Type 0} → CallEnd D S → Type 0
OwesWork n (work.Run plan way) before y =
    (b : PlanBuilder) → IsMade b plan.graph plan.infos.items → OwesRun (due_of n plan way b) before y
OwesWork n _ before y = Unit {0}

-- the work came to this outcome, and the call ended with it
pub record CarriedOut (n : Program) (w : Work) (before : Objects) {D S : Type 0} (done : Rules → D → Ending → Type 0)
    (seen : S → Ending → Type 0) (y : CallEnd D S) : Type 0 where
  pub outcome : Result Output End
  pub did : Did n w before.hands done seen (with_outcome outcome y)
  pub closed : Closes outcome before.sink y.after.sink y.end
  pub owes : OwesWork n w before y
