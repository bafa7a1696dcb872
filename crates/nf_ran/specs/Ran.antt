-- A run of a plan on several lanes: what it began over, and what it came to.
use Rattle.std.specs.Prelude.{◌≡◌, ◌⊎◌, ◌+◌, ℕ, List, map, sum_by, count_by, Bool, false, true, Result, Err, IfErr}
use Rattle.std.specs.List.{Contains}
use Rattle.std.specs.declared.option.Option.{Option}
use Rattle.std.specs.declared.option.Option.TheVariants.{None, Some}
use Rattle.nf_host.specs.Faults.{Rose}
use Rattle.nf_keeper.specs.Held.{Held}
use Rattle.nf_graph.specs.declared.node.Node.{Node}
use Rattle.nf_graph.specs.Rules.{Rules}
use Rattle.nf_machine.specs.declared.event.Event.{Event}
use Rattle.nf_machine.specs.declared.event.Event.TheVariants as e
use Rattle.nf_machine.specs.declared.stop.Stop.TheVariants as s
use Rattle.nf_machine.specs.declared.stop.Outside.TheVariants.{Lane}
use Rattle.nf_tasks.specs.Memory.{Program}
use Rattle.nf_bodies.specs.declared.body.NodeInfo.{NodeInfo}
use Rattle.nf_bodies.specs.Bodies.{rules_of}
use Rattle.nf_plan.specs.declared.builder.PlanBuilder.{PlanBuilder}
use Rattle.nf_plan.specs.Plans.{IsPlan}
use Rattle.nf_flow.specs.Seen.{Seen, events_of, plain_of}
use Rattle.nf_core.specs.Opening.{LaneTold, Opening}
use Rattle.nf_core.specs.Told.{Ending}
use Rattle.nf_core.specs.Run.{Parts, IsRun}
use Rattle.nf_core.specs.Promises.{Keeps, Promises}
use Rattle.nf_pool.specs.Serial.{LaneNow, is_start}
use Rattle.nf_pool.specs.Pool.{AnyRose, AreLater, told}
use Rattle.nf_ends.specs.declared.end.End.{End}
use Rattle.nf_ends.specs.declared.end.End.TheVariants as end
use Rattle.nf_owed.specs.declared.finished.Finished.{Finished}
use Rattle.nf_owed.specs.Run.{run_of}
use Rattle.nf_owed.specs.Finished.{ComesTo}
use Rattle.nf_trace.specs.Line.{trace_of}
use Rattle.nf_trace.specs.Task.{lines_from}
use Rattle.nf_traced.specs.Traced.{nodes_of, traced_of}
use Rattle.nf_ran.specs.declared.options.RunOptions.{RunOptions}

-- ---- plans that may be run

-- the builder made a plan of these nodes
pub record IsMade (b : PlanBuilder) (graph : List Node) (infos : List NodeInfo) : Type 0 where
  pub is_plan : IsPlan b
  pub graph_is : graph ≡ b.nodes.items
  pub infos_are : infos ≡ b.infos.items

-- some builder made it
abbrev pub IsPlanned : List Node → List NodeInfo → Type 0
IsPlanned graph infos = (b : PlanBuilder) × IsMade b graph infos

-- ---- lanes

-- what each tells
abbrev pub told_by : List LaneNow → List LaneTold
told_by lanes = map (λ l. told l.world l.store) lanes

-- how often all of them ran
abbrev pub runs_of : List LaneNow → ℕ
runs_of lanes = sum_by (λ l. l.runs) lanes

-- one of them failed
abbrev pub LanesRose : List LaneNow → List LaneNow → Type 0
LanesRose before after = AnyRose (map (λ l. l.faults) before) (map (λ l. l.faults) after)

-- What the lanes of a run with this history did: together they ran once for each Start, and each is the one that was at
-- its place. If a lane is blamed, one of them failed
pub record LanesRan (history : List Event) (before after : List LaneNow) : Type 0 where
  pub runs : runs_of after ≡ runs_of before + count_by is_start history
  pub later : AreLater before after
  pub blamed : (t : ℕ) → Contains history (e.Abort t (Some (s.Outside Lane))) → LanesRose before after

-- ---- what a run begins over, and what it comes to

-- what a keeper tells at one time, and how often it failed
pub record KeeperNow : Type 0 where
  pub held : Option Held
  pub faults : ℕ

abbrev pub keeper_now : Option Held → ℕ → KeeperNow
keeper_now held faults = record { held = held; faults = faults }

-- the functions that the program adds, the nodes of a plan, how it is run, its keeper and its lanes
pub record Began : Type 0 where
  pub program : Program
  pub graph : List Node
  pub infos : List NodeInfo
  pub options : RunOptions
  pub keeper : KeeperNow
  pub lanes : List LaneNow

abbrev pub begun_over : Program → List Node → List NodeInfo → RunOptions → KeeperNow → List LaneNow → Began
begun_over n graph infos options keeper lanes =
    record { program = n; graph = graph; infos = infos; options = options; keeper = keeper; lanes = lanes }

-- what is to be written and copied, or the end that names why nothing is; and the trace, if it was asked for
pub record Upshot : Type 0 where
  pub outcome : Result Finished End
  pub trace : Option (List ℕ)

abbrev pub upshot : Result Finished End → Option (List ℕ) → Upshot
upshot outcome trace = record { outcome = outcome; trace = trace }

-- the events, the lanes' Dones and Seens, what came of them, and the keeper and the lanes
pub record Came (D S : Type 0) : Type 0 where
  pub history : List Event
  pub dones : List D
  pub seens : List S
  pub upshot : Upshot
  pub keeper : KeeperNow
  pub lanes : List LaneNow

abbrev pub came_to : {D S : Type 0} → List Event → List D → List S → Upshot → KeeperNow → List LaneNow → Came D S
came_to h dones seens u keeper lanes =
    record { history = h; dones = dones; seens = seens; upshot = u; keeper = keeper; lanes = lanes }

abbrev pub rules_for : Began → Rules
rules_for x = rules_of x.program x.infos

-- a run on these lanes
abbrev pub opening_of : Began → Opening
opening_of x = record {
  graph = x.graph;
  rules = rules_for x;
  resumed = x.options.resume;
  held = x.keeper.held;
  faults = x.keeper.faults;
  lanes = told_by x.lanes;
}

-- a run of these nodes with this history
abbrev pub with_history : List Node → List Event → Seen
with_history graph h = record { graph = graph; history = h; room = 0 }

-- the run as it ended
abbrev pub flow_of : {D S : Type 0} → Began → Came D S → Seen
flow_of x y = with_history x.graph y.history

abbrev pub parts_of : {D S : Type 0} → Began → Came D S → Parts D S
parts_of x y = record {
  flow = flow_of x y;
  dones = y.dones;
  seens = y.seens;
  resumed = x.options.resume;
  held = y.keeper.held;
  faults = y.keeper.faults;
}

-- ---- its trace

-- the trace of a run of these nodes with this history
abbrev pub trace_text : Program → List Node → List NodeInfo → List Event → List ℕ
trace_text n graph infos h = trace_of (lines_from 1 (traced_of (nodes_of n infos) (with_history graph h)))

-- the trace is there exactly if it was asked for, unless memory ran out
abbrev pub IsTraced : Bool → List ℕ → Upshot → Type 0
IsTraced false text u = u.trace ≡ None
IsTraced true text u = (u.trace ≡ Some text) ⊎ (u.outcome ≡ Err end.Mem)

-- ---- the whole

-- an end that blames a lane or the keeper: one of the lanes failed, or the keeper
abbrev pub Blames : Type 0 → Type 0 → End → Type 0
Blames lanes keeper end.LaneFault = lanes
Blames lanes keeper end.KeeperFault = keeper
Blames lanes keeper _ = Unit {0}

-- The run that began so came to this. done and seen say what is known of a Done and a Seen beside the attempt that it
-- ended
pub record RanPlan (x : Began) {D S : Type 0} (done : Rules → D → Ending → Type 0) (seen : S → Ending → Type 0)
    (y : Came D S) : Type 0 where
  -- what the lanes did
  pub lanes : LanesRan y.history x.lanes y.lanes
  -- the history is lawful, and what the lanes and the keeper gave belongs to its events
  pub run : IsRun (opening_of x) (done (rules_for x)) seen (parts_of x y)
  -- each start has its true cause, each reuse the record that it was taken from, and each finish the report of its world
  pub promises : Promises (opening_of x) (plain_of (flow_of x y)) (events_of (flow_of x y))
  -- the keeper holds the record of each report that was put, and at all other keys what it held
  pub keeps : Keeps (opening_of x) (plain_of (flow_of x y)) (events_of (flow_of x y)) y.keeper.held
  -- what it came to is owed by what the plan means
  pub comes : (b : PlanBuilder) → IsMade b x.graph x.infos → ComesTo (run_of x.program b) y.history y.upshot.outcome
  pub traced : IsTraced x.options.traced (trace_text x.program x.graph x.infos y.history) y.upshot
  -- who is blamed failed
  pub blamed : IfErr y.upshot.outcome (Blames (LanesRose x.lanes y.lanes) (Rose x.keeper.faults y.keeper.faults))
