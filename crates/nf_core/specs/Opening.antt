-- What is fixed from a run's opening on.
use Rattle.std.specs.Prelude.{◌≡◌, ℕ, List, [], Bool, false, Ok, Err, IfSome, slice_get}
use Rattle.std.specs.declared.option.Option.{Option}
use Rattle.std.specs.declared.option.Option.TheVariants.{None, Some}
use Rattle.nf_job.specs.declared.fault.TaskFault.TheVariants.{BadStdout}
use Rattle.nf_job.specs.declared.report.Report.{Report}
use Rattle.nf_graph.specs.declared.node.Node.{Node}
use Rattle.nf_graph.specs.Rules.{Rules}
use Rattle.nf_value.specs.Plain.{null}
use Rattle.nf_host.specs.Told.{Both}
use Rattle.nf_lane.specs.World.{World, report_of}
use Rattle.nf_lane.specs.Store.{Store, Grows}
use Rattle.nf_keeper.specs.Held.{Held}

-- what a lane told at the opening
pub record LaneTold : Type 0 where
  pub world : Option World
  pub store : Option Store

pub record Opening : Type 0 where
  pub graph : List Node
  pub rules : Rules
  -- whether the run resumes an earlier one
  pub resumed : Bool
  -- what the keeper held, if it tells that, and how often it had failed
  pub held : Option Held
  pub faults : ℕ
  pub lanes : List LaneTold

-- every lane tells this world
abbrev pub IsSteady : World → Opening → Type 0
IsSteady w F = (i : ℕ) (lane : LaneTold) → slice_get F.lanes i ≡ Some lane → lane.world ≡ Some w

-- one of the lanes gives this report of the job with this text, as far as its world is told
pub record GivesReport (F : Opening) (text : List ℕ) (report : Report) : Type 0 where
  pub place : ℕ
  pub lane : LaneTold
  pub there : slice_get F.lanes place ≡ Some lane
  pub told : IfSome lane.world (λ w. report ≡ report_of w text)

-- a lane that tells this now was one of the opening's: its world is the same, and its store has lost nothing
pub record IsLane (F : Opening) (world : Option World) (store : Option Store) : Type 0 where
  pub place : ℕ
  pub lane : LaneTold
  pub there : slice_get F.lanes place ≡ Some lane
  pub same : world ≡ lane.world
  pub grows : Both lane.store store Grows

-- the opening of nothing, which no run has
abbrev pub blank : Opening
blank = record { graph = []; rules = record { answer = λ i x. Ok null; job = λ i xs n a. Err BadStdout; outputs = λ i xs a r. Err BadStdout }; resumed = false; held = None; faults = 0; lanes = [] }
