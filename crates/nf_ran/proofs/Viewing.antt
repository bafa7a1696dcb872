-- A run as its graph and its history.
use Rattle.std.proofs.Common.{◌≡◌, List, refl, ap, sym, subst, ◌∙◌}
use Rattle.nf_host.specs.Faults.{Rose}
use Rattle.nf_graph.specs.declared.node.Node.{Node}
use Rattle.nf_graph.specs.Rules.{Rules}
use Rattle.nf_graph.specs.WellMade.{plain_graph}
use Rattle.nf_machine.specs.declared.event.Event.{Event}
use Rattle.nf_machine.specs.declared.stop.Outside.{Outside}
use Rattle.nf_machine.specs.declared.stop.Outside.TheVariants.{Lane, Keeper}
use Rattle.nf_machine.specs.History.{IsHistory}
use Rattle.nf_flow.specs.Seen.{Seen, begun, plain_of, events_of}
use Rattle.nf_core.specs.Opening.{LaneTold, Opening}
use Rattle.nf_core.specs.Told.{Ending}
use Rattle.nf_core.specs.Run.{Parts, IsRun}
use Rattle.nf_pool.specs.Serial.{LaneNow}
use Rattle.nf_tasks.specs.Memory.{Program}
use Rattle.nf_bodies.specs.declared.body.NodeInfo.{NodeInfo}
use Rattle.nf_bodies.specs.Bodies.{rules_of}
use Rattle.nf_plan.specs.declared.builder.PlanBuilder.{PlanBuilder}
use Rattle.nf_owed.specs.Run.{run_of}
use Rattle.nf_owed.specs.Finished.{ComesTo, IsRunOf}
use Rattle.nf_ran.specs.Ran.{IsMade, IsPlanned, KeeperNow, Came, LanesRan, IsTraced, LanesRose, RanPlan, begun_over, opening_of, told_by, trace_text, with_history}
use Rattle.nf_ran.specs.declared.options.RunOptions.{RunOptions}
use Rattle.nf_core.proofs.Promised.{promises}
use Rattle.nf_core.proofs.Keeping.{keeps}
use Rattle.nf_ran.proofs.Stopping.{HasStop}
use Rattle.nf_ran.proofs.Blaming.{outcome_blames}

module _ (F : Opening) {D S : Type 0} (done : D → Ending → Type 0) (seen : S → Ending → Type 0) where
  -- nothing that holds of a run speaks of its room
  no_room : (z : Parts D S) → IsRun F done seen z → IsRun F done seen (record z { flow = with_history z.flow.graph z.flow.history })
  no_room z r = record {
    graph = r.graph;
    resumed = r.resumed;
    rules = r.rules;
    apart = r.apart;
    lawful = r.lawful;
    finished = r.finished;
    reused = r.reused;
    warranted = r.warranted;
    records = r.records;
    sound = r.sound;
    later = r.later;
    blamed = r.blamed;
  }

  with_graph : (z : Parts D S) (h : List Event) → h ≡ z.flow.history → IsRun F done seen z → IsRun F done seen (record z { flow = with_history F.graph h })
  with_graph z h is r =
      let same_graph : IsRun F done seen (record z { flow = with_history F.graph z.flow.history }) =
      subst (λ (g : List Node). IsRun F done seen (record z { flow = with_history g z.flow.history })) r.graph (no_room z r) in
      subst (λ (k : List Event). IsRun F done seen (record z { flow = with_history F.graph k })) (sym is) same_graph

  -- the keeper failed in a run that its failure stopped
  keeper_rose : (z : Parts D S) → IsRun F done seen z → HasStop Keeper (plain_of z.flow) z.flow.history → Rose F.faults z.faults
  keeper_rose z r k = r.blamed k.ticket k.seen

  -- a run of a plan is one that its plan owes something of
  is_run_of : (n : Program) (b : PlanBuilder) (infos : List NodeInfo) (z : Parts D S) → IsMade b F.graph infos → F.rules ≡ rules_of n infos
      → IsRun F done seen z → IsRunOf n b infos z.flow
  is_run_of n b infos z made rules r = record {
    plan = made.is_plan;
    graph = r.graph ∙ made.graph_is;
    infos_are = made.infos_are;
    lawful = subst (λ (R : Rules). IsHistory (plain_of z.flow) R (events_of z.flow)) (rules ∙ ap (rules_of n) made.infos_are) r.lawful;
  }

-- one of the lanes failed in a run that their failure stopped
lane_rose : (graph : List Node) (h : List Event) (before after : List LaneNow) → LanesRan h before after → HasStop Lane (plain_graph graph) h → LanesRose before after
lane_rose graph h before after ran k = ran.blamed k.ticket k.there

-- of the plan's graph the same is told as of the run's
of_plan : (o : Outside) (b : PlanBuilder) (graph : List Node) (infos : List NodeInfo) (h : List Event) → IsMade b graph infos → HasStop o (plain_graph b.nodes.items) h → HasStop o (plain_graph graph) h
of_plan o b graph infos h made k = subst (λ (ns : List Node). HasStop o (plain_graph ns) h) (sym made.graph_is) k

-- what is said of a flow's nodes is said of the plan's, and the other way round
pub from_nodes : (P : List Node → List NodeInfo → Type 0) (z : Seen) (graph : List Node) (infos slice : List NodeInfo) → z ≡ begun graph → slice ≡ infos → P z.graph slice → P graph infos
from_nodes P z graph infos slice is same h =
    subst (P graph) same (subst (λ (y : Seen). P y.graph slice) is h)

pub to_nodes : (P : List Node → List NodeInfo → Type 0) (z : Seen) (graph : List Node) (infos slice : List NodeInfo) → z ≡ begun graph → slice ≡ infos → P graph infos → P z.graph slice
to_nodes P z graph infos slice is same h =
    subst (λ (y : Seen). P y.graph slice) (sym is) (subst (P graph) (sym same) h)

module _ (n : Program) (old : Seen) (infos : List NodeInfo) (options : RunOptions) (keeper : KeeperNow) (lanes : List LaneNow) {D S : Type 0} (done : Rules → D → Ending → Type 0) (seen : S → Ending → Type 0) where
  -- the same opening under other rules, of lanes that told this
  abbrev pub opening_under : Rules → List LaneTold → Opening
  opening_under R told = record (opening_of (begun_over n old.graph infos options keeper lanes)) { rules = R; lanes = told }

  -- a flow's parts with what came
  abbrev pub parts_with : Seen → Came D S → Parts D S
  parts_with z y = record { flow = z; dones = y.dones; seens = y.seens; resumed = options.resume; held = y.keeper.held; faults = y.keeper.faults }

  -- a run on several lanes, with what it comes to
  pub ran_on : (z : Seen) (R : Rules) (told : List LaneTold) (y : Came D S) → R ≡ rules_of n infos → told ≡ told_by lanes → y.history ≡ z.history → LanesRan y.history lanes y.lanes
      → IsRun (opening_under R told) (done R) seen (parts_with z y) → IsPlanned old.graph infos
      → ((b : PlanBuilder) → IsRunOf n b infos z → ComesTo (run_of n b) z.history y.upshot.outcome)
      → ((graph : List Node) → z.graph ≡ graph → IsTraced options.traced (trace_text n graph infos z.history) y.upshot)
      → RanPlan (begun_over n old.graph infos options keeper lanes) done seen y
  ran_on z R told y same same_told history ran run planned owed traced =
      let due = rules_of n infos in
      let F : Opening = opening_under due (told_by lanes) in
      let there : IsRun (opening_under due told) (done due) seen (parts_with z y) = subst (λ (Q : Rules). IsRun (opening_under Q told) (done Q) seen (parts_with z y)) same run in
      let is : IsRun F (done due) seen (parts_with z y) = subst (λ (ts : List LaneTold). IsRun (opening_under due ts) (done due) seen (parts_with z y)) same_told there in
      let whole = with_graph F (done due) seen (parts_with z y) y.history history is in
      let comes : (b : PlanBuilder) → IsMade b old.graph infos → ComesTo (run_of n b) y.history y.upshot.outcome =
      λ b made. subst (λ (h : List Event). ComesTo (run_of n b) h y.upshot.outcome) (sym history) (owed b (is_run_of F (done due) seen n b infos (parts_with z y) made refl is)) in
      let b = planned.0 in
      let made = planned.1 in
      record {
        lanes = ran;
        run = whole;
        promises = promises whole;
        keeps = keeps whole;
        comes = comes;
        traced = subst (λ (h : List Event). IsTraced options.traced (trace_text n old.graph infos h) y.upshot) (sym history) (traced old.graph is.graph);
        blamed = outcome_blames (run_of n b) y.history (LanesRose lanes y.lanes) (Rose keeper.faults y.keeper.faults)
            (λ k. lane_rose old.graph y.history lanes y.lanes ran (of_plan Lane b old.graph infos y.history made k))
            (λ k. keeper_rose F (done due) seen _ whole (of_plan Keeper b old.graph infos y.history made k))
            y.upshot.outcome (comes b made);
      }
