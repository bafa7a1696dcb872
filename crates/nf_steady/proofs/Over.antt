-- A run over one world that ended well means what its plan means in that world.
use Rattle.std.proofs.Common.{◌≡◌, ℕ, List, sym, ◌∙◌, subst}
use Rattle.nf_bag.specs.Tests.{IsSameByTests}
use Rattle.nf_tasks.specs.Memory.{Program}
use Rattle.nf_tasks.specs.declared.target_list.Target.{Target}
use Rattle.nf_graph.specs.declared.node.Node.{Node}
use Rattle.nf_graph.specs.Rules.{Rules}
use Rattle.nf_graph.specs.Node.{IsGraph}
use Rattle.nf_graph.specs.WellMade.{IsWellMade, plain_graph}
use Rattle.nf_lane.specs.World.{World}
use Rattle.nf_machine.specs.declared.event.Event.{Event}
use Rattle.nf_machine.specs.Event.{PlainEvent}
use Rattle.nf_machine.specs.History.{Agrees, outcomes_of}
use Rattle.nf_machine.specs.State.{State, opening}
use Rattle.nf_machine.proofs.Outcomes.{own_outcomes}
use Rattle.nf_core.specs.Opening.{Opening}
use Rattle.nf_bodies.specs.Bodies.{rules_of}
use Rattle.nf_meaning.specs.Given as given
use Rattle.nf_meaning.specs.Meaning.{ScriptMeaning}
use Rattle.nf_plan.specs.declared.builder.PlanBuilder.{PlanBuilder}
use Rattle.nf_plan.specs.Plans.{graph_of}
use Rattle.nf_owed.specs.Run.{by_path, goes_by, run_of}
use Rattle.nf_owed.specs.Ended.{EndedWell, events_in, meant_by, state_after}
use Rattle.nf_owed.specs.Finished.{EndsWell}
use Rattle.nf_owed.proofs.Agreeing.{agrees_by_path}
use Rattle.nf_steady.specs.Steady.{EndsOver, OpensOver, IsRunFrom, Writes, in_world, meaning_in}
use Rattle.nf_steady.proofs.Agreed.{world_agrees}
use Rattle.nf_steady.proofs.Fronted.{AllTell}
use Rattle.nf_steady.proofs.Meant.{one_meaning}
use Rattle.nf_steady.proofs.Telling.{all_tell}

-- a graph in memory is a graph
abbrev pub AreGraphs : Type 0
AreGraphs = (nodes : List Node) → IsWellMade nodes → IsGraph (plain_graph nodes)

module _ (made : AreGraphs) (w : World) (F : Opening) (n : Program) (b : PlanBuilder) (h : List Event)
    (over : OpensOver w F) (run : IsRunFrom F n b h) where
  abbrev R : Rules
  R = rules_of n b.infos.items

  abbrev events : List PlainEvent
  events = events_in (run_of n b) h

  abbrev s : State
  s = state_after (run_of n b) h

  pub is_graph : IsGraph (graph_of b)
  is_graph = made b.nodes.items run.plan.is_plan.graph

  -- its tasks' reports are what they are given in the world
  pub given_agrees : Agrees (goes_by n b (in_world w n b)).outcomes s
  given_agrees =
      world_agrees w n b run.plan.is_plan events run.lawful
      (subst (λ (r : Rules). AllTell w (graph_of b) r (opening (graph_of b)) events) run.plan.rules_are (all_tell w F (graph_of b) events over run.promises))

  -- what it tells of its tasks, by the paths of their calls
  abbrev told : given.Outcomes
  told = by_path (run_of n b) (outcomes_of s)

  told_agrees : Agrees (goes_by n b told).outcomes s
  told_agrees =
      agrees_by_path n b run.plan.is_plan is_graph events run.lawful
      (own_outcomes (graph_of b) R events is_graph run.lawful)

  pub means_so : EndedWell (run_of n b) h → meant_by (run_of n b) h ≡ meaning_in w n b
  means_so well =
      one_meaning n b R events is_graph run.lawful well (goes_by n b told).outcomes
      (goes_by n b (in_world w n b)).outcomes told (in_world w n b) told_agrees given_agrees

  pub writes_so : (report : List ℕ) (targets : List Target) → EndsWell (run_of n b) h report targets
      → Writes (meaning_in w n b) report targets
  writes_so report targets ends =
      subst (λ (m : ScriptMeaning). Writes m report targets) (means_so ends.well)
      (record { report_is = ends.report_is; targets_are = ends.targets_are })

-- two such runs
pub write_alike : AreGraphs → (w : World) (n : Program) (b : PlanBuilder) (r t : List ℕ) (rs ts : List Target)
    → EndsOver w n b r rs → EndsOver w n b t ts → (r ≡ t) × IsSameByTests rs ts
write_alike made w n b r t rs ts one other =
    let first : Writes (meaning_in w n b) r rs =
    writes_so made w one.opening n b one.history one.over one.run r rs one.ends in
    let second : Writes (meaning_in w n b) t ts =
    writes_so made w other.opening n b other.history other.over other.run t ts other.ends in
    (first.report_is ∙ sym second.report_is, record { at = λ p. first.targets_are.at p ∙ sym (second.targets_are.at p) })
