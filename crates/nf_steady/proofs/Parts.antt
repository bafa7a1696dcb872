-- The parts of a run of a plan tell its history.
use Rattle.std.proofs.Common.{◌≡◌, List, map, subst, ◌∙◌}
use Rattle.nf_graph.specs.declared.node.Node.{Node}
use Rattle.nf_graph.specs.Rules.{Rules}
use Rattle.nf_graph.specs.WellMade.{plain_graph}
use Rattle.nf_lane.specs.World.{World}
use Rattle.nf_machine.specs.Event.{event_of}
use Rattle.nf_machine.specs.History.{IsHistory}
use Rattle.nf_tasks.specs.Memory.{Program}
use Rattle.nf_core.specs.Opening.{Opening}
use Rattle.nf_core.specs.Promises.{Promises}
use Rattle.nf_core.specs.Run.{IsRun, Parts}
use Rattle.nf_core.specs.Told.{Ending}
use Rattle.nf_core.proofs.Promised.{promises}
use Rattle.nf_plan.specs.declared.builder.PlanBuilder.{PlanBuilder}
use Rattle.nf_plan.specs.Plans.{graph_of}
use Rattle.nf_owed.specs.Run.{run_of}
use Rattle.nf_owed.specs.Ended.{EndedWell, meant_by}
use Rattle.nf_steady.specs.Steady.{IsOfPlan, IsRunFrom, OpensOver, meaning_in}
use Rattle.nf_steady.proofs.Over.{AreGraphs, means_so}

module _ {D S : Type 0} {done : D → Ending → Type 0} {seen : S → Ending → Type 0} (F : Opening) (n : Program)
    (b : PlanBuilder) (z : Parts D S) (run : IsRun F done seen z) (plan : IsOfPlan F n b) where
  same : z.flow.graph ≡ b.nodes.items
  same = run.graph ∙ plan.graph_is

  pub run_from : IsRunFrom F n b z.flow.history
  run_from = record {
    plan = plan;
    lawful = subst (λ (R : Rules). IsHistory (graph_of b) R (map (event_of (graph_of b)) z.flow.history)) plan.rules_are
        (subst (λ (ns : List Node). IsHistory (plain_graph ns) F.rules (map (event_of (plain_graph ns)) z.flow.history)) same run.lawful);
    promises =
        subst (λ (ns : List Node). Promises F (plain_graph ns) (map (event_of (plain_graph ns)) z.flow.history)) same
        (promises run);
  }

  pub parts_mean : AreGraphs → (w : World) → OpensOver w F → EndedWell (run_of n b) z.flow.history
      → meant_by (run_of n b) z.flow.history ≡ meaning_in w n b
  parts_mean made w over well = means_so made w F n b z.flow.history over run_from well
