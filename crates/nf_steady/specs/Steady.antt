-- Runs over lanes that tell one world.
use Rattle.std.specs.Prelude.{◌≡◌, ℕ, List, true, Option, IsSomeAnd}
use Rattle.nf_bag.specs.Tests.{IsSameByTests}
use Rattle.nf_job.specs.declared.parts.JobParts.{JobParts}
use Rattle.nf_job.specs.declared.report.Report.{Report}
use Rattle.nf_job.specs.JobText.{job_text}
use Rattle.nf_keeper.specs.Held.{Both, Held, IsStopImage}
use Rattle.nf_record.specs.Record.{IsRecord, record_for}
use Rattle.nf_lane.specs.World.{World}
use Rattle.nf_tasks.specs.Memory.{Program}
use Rattle.nf_tasks.specs.declared.target_list.Target.{Target}
use Rattle.nf_machine.specs.declared.event.Event.{Event}
use Rattle.nf_machine.specs.History.{IsHistory}
use Rattle.nf_core.specs.Opening.{GivesReport, Opening, IsSteady}
use Rattle.nf_core.specs.Promises.{Promises}
use Rattle.nf_core.specs.Records.{IsSoundHeld, key_of}
use Rattle.nf_bodies.specs.Bodies.{rules_of}
use Rattle.nf_meaning.specs.Given.{Outcomes}
use Rattle.nf_meaning.specs.Meaning.{ScriptMeaning}
use Rattle.nf_meaning.specs.Report.{report_of}
use Rattle.nf_plan.specs.declared.builder.PlanBuilder.{PlanBuilder}
use Rattle.nf_plan.specs.Plans.{IsPlan, graph_of}
use Rattle.nf_owed.specs.Run.{by_path, run_of}
use Rattle.nf_owed.specs.Ended.{events_in}
use Rattle.nf_owed.specs.Finished.{EndsWell}
use Rattle.nf_steady.specs.Given.{given_in}

-- the keeper tells what it holds, and each whole record there has the world's report of its job
abbrev pub IsSoundKeeper : World → Option Held → Type 0
IsSoundKeeper w held = IsSomeAnd held (IsSoundHeld w)

-- all lanes tell this world, and a run that resumes an earlier one has a sound keeper
pub record OpensOver (w : World) (F : Opening) : Type 0 where
  pub lanes : IsSteady w F
  pub keeper : F.resumed ≡ true → IsSoundKeeper w F.held

-- n is what a stop within a put left of a keeper that held m: the put of the record of a job, with a report that one of
-- the lanes gives of it
pub record IsLeftByStop (F : Opening) (m n : Held) : Type 0 where
  pub job : JobParts
  pub report : Report
  pub given : GivesReport F (job_text job) report
  pub bytes : List ℕ
  pub record_is : IsRecord bytes (record_for job report)
  pub image : IsStopImage m (key_of job) bytes n

-- A run that began so left this in its keeper. Each run over the same world that finds it there opens over that world, and
-- so does each that finds what a stop within a put of a record left of it
pub record GoesOnOver (w : World) (F : Opening) (left : Option Held) : Type 0 where
  pub ended : (G : Opening) → IsSteady w G → G.held ≡ left → OpensOver w G
  pub stopped : (G : Opening) → IsSteady w G → Both left G.held (IsLeftByStop F) → OpensOver w G

-- a run that began so goes through the nodes of this plan, under their rules
pub record IsOfPlan (F : Opening) (n : Program) (b : PlanBuilder) : Type 0 where
  pub is_plan : IsPlan b
  pub graph_is : F.graph ≡ b.nodes.items
  pub rules_are : F.rules ≡ rules_of n b.infos.items

-- A run of this plan that began so, with this history: it is lawful, and keeps what runs promise
pub record IsRunFrom (F : Opening) (n : Program) (b : PlanBuilder) (h : List Event) : Type 0 where
  pub plan : IsOfPlan F n b
  pub lawful : IsHistory (graph_of b) (rules_of n b.infos.items) (events_in (run_of n b) h)
  pub promises : Promises F (graph_of b) (events_in (run_of n b) h)

-- what the tasks of a plan are given in a world, by the paths of their calls
abbrev pub in_world : World → Program → PlanBuilder → Outcomes
in_world w n b = by_path (run_of n b) (given_in w (rules_of n b.infos.items))

-- what the plan means in a world
abbrev pub meaning_in : World → Program → PlanBuilder → ScriptMeaning
meaning_in w n b = (run_of n b).meaning (in_world w n b)

-- ---- ends

-- the report of this meaning is written, and its files are published, each as often
pub record Writes (m : ScriptMeaning) (report : List ℕ) (targets : List Target) : Type 0 where
  pub report_is : report ≡ report_of m
  pub targets_are : IsSameByTests targets m.targets

-- a run of this plan over the world ended well, with this report of these files
pub record EndsOver (w : World) (n : Program) (b : PlanBuilder) (report : List ℕ) (targets : List Target) : Type 0 where
  pub opening : Opening
  pub history : List Event
  pub over : OpensOver w opening
  pub run : IsRunFrom opening n b history
  pub ends : EndsWell (run_of n b) history report targets
