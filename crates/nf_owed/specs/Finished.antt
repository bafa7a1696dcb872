-- What a finished run comes to.
use Rattle.std.specs.Prelude.{◌≡◌, ◌⊎◌, ℕ, List, [], map, Bool, Result, Ok, Err}
use Rattle.nf_bag.specs.Tests.{IsSameByTests}
use Rattle.nf_graph.specs.declared.node.Node.{Node}
use Rattle.nf_machine.specs.declared.event.Event.{Event}
use Rattle.nf_machine.specs.declared.stop.Stop.{Stop}
use Rattle.nf_machine.specs.declared.stop.Stop.TheVariants as stop
use Rattle.nf_machine.specs.History.{IsHistory}
use Rattle.nf_flow.specs.Seen.{Seen, events_of, plain_of}
use Rattle.nf_tasks.specs.Memory.{Program}
use Rattle.nf_tasks.specs.Judged.{Judged}
use Rattle.nf_tasks.specs.declared.target_list.Target.{Target}
use Rattle.nf_bodies.specs.declared.body.NodeInfo.{NodeInfo}
use Rattle.nf_bodies.specs.Bodies.{rules_of}
use Rattle.nf_meaning.specs.Report.{report_of}
use Rattle.nf_plan.specs.declared.builder.PlanBuilder.{PlanBuilder}
use Rattle.nf_plan.specs.Plans.{IsPlan, is_view, name_in, place_in}
use Rattle.nf_publish.specs.Report.{report_text}
use Rattle.nf_publish.specs.Targets.{HaveOneContent, IsFirstClash}
use Rattle.nf_publish.specs.declared.fault.Clash.{Clash}
use Rattle.nf_published.specs.Published.{published_of_run}
use Rattle.nf_shown.specs.Shown.{views_of}
use Rattle.nf_ends.specs.declared.end.End.{End}
use Rattle.nf_ends.specs.declared.end.End.TheVariants as end
use Rattle.nf_ends.specs.declared.writes.Output.{Output}
use Rattle.nf_ends.specs.declared.writes.Output.TheVariants as output
use Rattle.nf_ends.specs.Summary.{summary, starts_in, reuses_in}
use Rattle.nf_ends.specs.Stops.{end_by_stop}
use Rattle.nf_owed.specs.Run.{Run}
use Rattle.nf_owed.specs.declared.finished.Finished.{Finished}
use Rattle.nf_owed.specs.Ended.{EndedWell, EndsByStop, IsFromOutside, meant_by}

-- ---- a run of a plan

-- a report that publishes no file, or whose publishing has a fault
abbrev pub PublishesNone : Judged (List Target) → Type 0
PublishesNone (Ok ts) = ts ≡ []
PublishesNone (Err f) = Unit {0}

-- the flow is a lawful run of this plan's nodes, under the rules of what is known of them
pub record IsRunOf (n : Program) (b : PlanBuilder) (infos : List NodeInfo) (z : Seen) : Type 0 where
  pub plan : IsPlan b
  pub graph : z.graph ≡ b.nodes.items
  pub infos_are : infos ≡ b.infos.items
  pub lawful : IsHistory (plain_of z) (rules_of n b.infos.items) (events_of z)

-- ---- what it comes to

-- A run that ended well: its meaning has no fault, and no target has two contents; its report is the meaning's, and it
-- published the meaning's files, each as often
pub record EndsWell (run : Run) (h : List Event) (report : List ℕ) (targets : List Target) : Type 0 where
  pub well : EndedWell run h
  pub faultless : (meant_by run h).faults ≡ []
  pub one : HaveOneContent (meant_by run h).targets
  pub report_is : report ≡ report_of (meant_by run h)
  pub targets_are : IsSameByTests targets (meant_by run h).targets

-- a run that ended well, whose meaning has no fault, and two contents for a target: first for this one
pub record Clashes (run : Run) (h : List Event) (c : Clash) : Type 0 where
  pub well : EndedWell run h
  pub faultless : (meant_by run h).faults ≡ []
  pub first : IsFirstClash (meant_by run h).targets c

abbrev pub EndsByClash : Run → List Event → End → Type 0
EndsByClash run h (end.PublishClash c) = Clashes run h c
EndsByClash run h e = ⊥

abbrev pub OwesOutput : Run → List Event → List Target → Output → Type 0
OwesOutput run h targets (output.Report report line) =
    EndsWell run h report targets × (line ≡ summary (starts_in h) (reuses_in h))
OwesOutput run h targets (output.Text text) = ⊥

-- The output of a run that ended well, with the files that it published, or the end of one that stopped, or of one that
-- published two contents for a target; or there was no memory
abbrev pub ComesTo : Run → List Event → Result Finished End → Type 0
ComesTo run h (Ok f) = OwesOutput run h f.targets f.output
ComesTo run h (Err e) = EndsByStop run h e ⊎ (EndsByClash run h e ⊎ (e ≡ end.Mem))

-- what a run comes to whose meaning is faultless
abbrev pub GoesFaultless : Run → List Event → Result Finished End → Type 0
GoesFaultless run h (Ok f) = EndedWell run h
GoesFaultless run h (Err e) = EndsByClash run h e ⊎ IsFromOutside e

-- ---- its parts

-- the node that a stop tells of; a stop from outside tells of none
abbrev pub node_of : Stop → ℕ
node_of (stop.Charge sum) = 0
node_of (stop.Op node f) = node
node_of (stop.Item node item f) = node
node_of (stop.Task node inputs n f) = node
node_of (stop.Outside outside) = 0
node_of stop.Mem = 0

-- the end of a stop of a run of these nodes
abbrev pub end_in : List NodeInfo → Stop → End
end_in infos s = end_by_stop s (name_in infos (node_of s)) (place_in infos (node_of s))

abbrev pub is_view_node : Node → Bool
is_view_node node = is_view node.kind

-- what is written of a run that published these files: what its views printed and these files, and the line after it
abbrev pub output_of : Seen → List Target → Output
output_of z targets =
    output.Report (report_text (views_of z (map is_view_node z.graph)) targets)
    (summary (starts_in z.history) (reuses_in z.history))

-- why there is no report of these files: one has two contents, or there was no memory
abbrev pub RefusesReport : List Target → End → Type 0
RefusesReport targets (end.PublishClash c) = IsFirstClash targets c
RefusesReport targets end.Mem = Unit {0}
RefusesReport targets _ = ⊥

abbrev pub GivesOutput : Seen → List Target → Result Output End → Type 0
GivesOutput z targets (Ok o) = (o ≡ output_of z targets) × HaveOneContent targets
GivesOutput z targets (Err e) = RefusesReport targets e

-- that, of the files that the run published
abbrev pub GivesFinished : Program → List NodeInfo → Seen → Result Finished End → Type 0
GivesFinished n infos z (Ok f) =
    (f.targets ≡ published_of_run n infos z) × (f.output ≡ output_of z f.targets) × HaveOneContent f.targets
GivesFinished n infos z (Err e) = RefusesReport (published_of_run n infos z) e
