-- How a call ends: what it ran, what it came to, and what it copied and wrote.
use Rattle.std.specs.Prelude.{◌≡◌, ◌⊎◌, ℕ, List, [], ◌++◌, Ok, Err, Result}
use Rattle.std.specs.declared.option.Option.{Option}
use Rattle.nf_host.specs.Files.{Files}
use Rattle.nf_host.specs.Told.{Both}
use Rattle.nf_shell.specs.Places.{KeepsOrStores}
use Rattle.nf_sources.specs.Sources.{scratch_in}
use Rattle.nf_graph.specs.Rules.{Rules}
use Rattle.nf_core.specs.Told.{Ending}
use Rattle.nf_machine.specs.History.{outcomes_of}
use Rattle.nf_meaning.specs.Meaning.{ScriptMeaning}
use Rattle.nf_meaning.specs.Report.{report_of}
use Rattle.nf_plan.specs.declared.builder.PlanBuilder.{PlanBuilder}
use Rattle.nf_plan.specs.Plans.{IsPlan}
use Rattle.nf_ends.specs.declared.end.End.{End}
use Rattle.nf_ends.specs.declared.end.End.TheVariants as end
use Rattle.nf_ends.specs.declared.writes.Output.{Output}
use Rattle.nf_ends.specs.declared.writes.Output.TheVariants.{Text}
use Rattle.nf_ends.specs.Summary.{summary, starts_in, reuses_in}
use Rattle.nf_carried.specs.Run.{by_path, run_of}
use Rattle.nf_carried.specs.Ended.{state_after}
use Rattle.nf_carried.specs.Ran.{Began, begun_over, opening_of, trace_text}
use Rattle.nf_core.specs.Opening.{IsSteady}
use Rattle.nf_steady.specs.Steady.{GoesOnOver, IsSoundKeeper, OpensOver, in_world}
use Rattle.nf_lane.specs.World.{World}
use Rattle.nf_asked.specs.Request.{Request, refused, runs, Comes}
use Rattle.nf_asked.specs.Answers.{Writes}
use Rattle.nf_carried.specs.declared.work.Way.{Way}
use Rattle.nf_carried.specs.Objects.{CallEnd, HostNow, Objects, OnWritten}
use Rattle.nf_carried.specs.Copying.{shown}
use Rattle.nf_carried.specs.Carried.{Closes, RanAndCopied, options_of, with_outcome}
use Rattle.nf_carried.specs.Table.{AreInPlace, Due, NoneRose, OwesRun, TracesAlone}
use Rattle.nf_cli.specs.Scripts.{Script, Sources, IsRunOf, meaning_over}
use Rattle.nf_cli.specs.Calls.{Call, AsksFor, IsRefused, RefusesRun, lanes_for, script_in, way_for}

-- nothing was run
pub record RanNothing (before : Objects) {D S : Type 0} (y : CallEnd D S) : Type 0 where
  pub history : y.history ≡ []
  pub dones : y.dones ≡ []
  pub seens : y.seens ≡ []
  pub hands : y.after.hands ≡ before.hands

-- ---- a script was run

-- The headline: there is one meaning of the script under the outcomes that the history tells; and after Ok exactly its
-- report was written, as it is shown, and the line after it, and exactly the files that it publishes are in their
-- places. noted is the host once the trace was written
pub record WroteMeaning (x : Script) {told : Option Files} (s : Sources x told) (d : Due) (before : Objects)
    {D S : Type 0} (y : CallEnd D S) : Type 0 where
  pub meaning : ScriptMeaning
  pub is : meaning_over x s (by_path d.run (outcomes_of (state_after d.run y.history))) ≡ Ok meaning
  pub wrote : y.end ≡ end.Ok → OnWritten before.sink y.after.sink (λ old new. new ≡ old
      ++ (shown d.way.shows (report_of meaning) ++ summary (starts_in y.history) (reuses_in y.history)))
  pub noted : HostNow
  pub traced : TracesAlone d.way.trace before.hands.host noted
  pub copied : y.end ≡ end.Ok → AreInPlace meaning.targets noted y.after.hands.host

-- how the run of a plan began
abbrev pub began_for : Call → PlanBuilder → Way → Objects → Began
began_for x b way before =
    begun_over x.program b.nodes.items b.infos.items (options_of way) before.hands.keeper before.hands.lanes

-- what is due of the run of a plan
abbrev pub due_for : Call → PlanBuilder → Way → Due
due_for x b way = record {
  run = run_of x.program b;
  way = way;
  trace = λ h. trace_text x.program b.nodes.items b.infos.items h;
}

-- A plan was run that means what the script means over the files that its sources read. before has the host as it was
-- when the run began
pub record Ran (x : Call) (before : Objects) {D S : Type 0} (done : Rules → D → Ending → Type 0)
    (seen : S → Ending → Type 0) (y : CallEnd D S) : Type 0 where
  pub asks : AsksFor x
  -- on as many lanes as tasks may run at once
  pub workers : x.queue ≡ lanes_for asks.command
  pub sources : Sources (script_in x asks) x.files
  pub plan : PlanBuilder
  pub is_plan : IsPlan plan
  pub means : IsRunOf (script_in x asks) sources (run_of x.program plan)
  -- these files were put into the file store, if the host tells its files; all others are as they were
  pub stored : Both x.files before.hands.host.files
      (KeepsOrStores (script_in x asks).work (scratch_in (script_in x asks).work))
  pub outcome : Result Output End
  -- the history is lawful, and what lanes and keeper gave belongs to its events; then its trace was written, and its
  -- files were copied
  pub ran : RanAndCopied (began_for x plan (way_for asks.command) before) (way_for asks.command) before.hands.host
      done seen (with_outcome outcome y)
  pub closed : Closes outcome before.sink y.after.sink y.end
  -- a row for each end, what was written, traced and copied, and when the call goes well
  pub owes : OwesRun (due_for x plan (way_for asks.command)) before y
  pub headline : WroteMeaning (script_in x asks) sources (due_for x plan (way_for asks.command)) before y
  -- Where all lanes tell one world, and the run resumes none or its keeper is sound, that is what the script means in
  -- this world. So a resumed run writes what a fresh one writes, on however many lanes
  pub steady : (w : World) → OpensOver w (opening_of (began_for x plan (way_for asks.command) before)) → y.end ≡ end.Ok
      → meaning_over (script_in x asks) sources (in_world w x.program plan) ≡ Ok headline.meaning
  -- Where all lanes tell one world and the keeper was sound, it is sound after this run, however it ended, and also where
  -- it was stopped within the put of a record. So a run that resumes this one opens over that world too
  pub next : (w : World) → IsSteady w (opening_of (began_for x plan (way_for asks.command) before))
      → IsSoundKeeper w before.hands.keeper.held
      → GoesOnOver w (opening_of (began_for x plan (way_for asks.command) before)) y.after.hands.keeper.held

-- ---- the whole

-- a text was written, the call was refused, or a script was run
pub data Ends (x : Call) (failed : Type 0) (before : Objects) {D S : Type 0} (done : Rules → D → Ending → Type 0)
    (seen : S → Ending → Type 0) (y : CallEnd D S) : Type 0 where
  wrote : (text : List ℕ) → Writes (Comes x.line) text → RanNothing before y
      → Closes (Ok (Text text)) before.sink y.after.sink y.end → Ends x failed before done seen y
  was_refused : (e : End) → IsRefused x failed e → RanNothing before y
      → Closes (Err e) before.sink y.after.sink y.end → Ends x failed before done seen y
  ran : Ran x before done seen y → Ends x failed before done seen y

-- no object failed in the call
pub record NothingFailed (failed : Type 0) (before after : Objects) : Type 0 where
  pub host : failed → ⊥
  pub others : NoneRose before after

-- nothing is run of the script that is asked for, or it is run; or memory ran out
abbrev pub MayRun : (x : Call) (before : Objects) {D S : Type 0} → (Rules → D → Ending → Type 0)
    → (S → Ending → Type 0) → CallEnd D S → Type 0
MayRun x before done seen y = RefusesRun x y.end ⊎ (Ran x before done seen y ⊎ (y.end ≡ end.Mem))

-- Where no object fails, what the command line comes to is how the call ends, or memory ran out. A script is run, or it
-- is refused; a run goes well of which the meaning has no fault and costs no more than the limit (`owes` of `Ran`)
abbrev pub Completes : (x : Call) (before : Objects) {D S : Type 0} → (Rules → D → Ending → Type 0)
    → (S → Ending → Type 0) → CallEnd D S → Request → Type 0
Completes x before done seen y (refused e) = (y.end ≡ e) ⊎ (y.end ≡ end.Mem)
Completes x before done seen y (runs c t ps) = MayRun x before done seen y
Completes x before done seen y _ = (y.end ≡ end.Ok) ⊎ (y.end ≡ end.Mem)

pub record CallEnds (x : Call) (failed : Type 0) (before : Objects) {D S : Type 0} (done : Rules → D → Ending → Type 0)
    (seen : S → Ending → Type 0) (y : CallEnd D S) : Type 0 where
  pub ends : Ends x failed before done seen y
  pub complete : NothingFailed failed before y.after → (r : Request) → Comes x.line r
      → Completes x before done seen y r
