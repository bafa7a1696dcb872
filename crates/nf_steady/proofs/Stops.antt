-- A run over one world stops by what lies outside of its script alone, if its plan's meaning in that world has no fault.
use Rattle.std.proofs.Common.{◌≡◌, ℕ, List, length, ap, sym, subst, arith, inl, inr}
use Rattle.std.specs.Prelude.{Some, Result, Ok, Err}
use Rattle.std.proofs.lemmas.List.{length-map}
use Rattle.nf_opstream.proofs.Members.{In}
use Rattle.nf_tasks.specs.Memory.{Program}
use Rattle.nf_graph.specs.Rules.{Rules}
use Rattle.nf_graph.specs.Faults.{GraphFault, faults, faults_to}
use Rattle.nf_graph.specs.Meaning as graph
use Rattle.nf_graph.specs.WellMade.{plain_node}
use Rattle.nf_lane.specs.World.{World}
use Rattle.nf_machine.specs.declared.event.Event.{Event}
use Rattle.nf_machine.specs.declared.stop.Outside.TheVariants.{Lane, Keeper}
use Rattle.nf_machine.specs.Beside.{IsBeside}
use Rattle.nf_machine.specs.Event.{PlainStop, charge_stop, fault_stop, memory_stop, outside_stop}
use Rattle.nf_machine.specs.State.{State}
use Rattle.nf_machine.proofs.Final.{every_order}
use Rattle.nf_machine.proofs.Membership.{in_of}
use Rattle.nf_core.specs.Opening.{Opening}
use Rattle.nf_bodies.specs.Bodies.{rules_of}
use Rattle.nf_meaning.specs.Meaning.{ScriptFault}
use Rattle.nf_plan.specs.declared.builder.PlanBuilder.{PlanBuilder}
use Rattle.nf_plan.specs.Plans.{graph_of}
use Rattle.nf_plan.specs.Runs.{Run, bags_of}
use Rattle.nf_ends.specs.declared.end.End.{End}
use Rattle.nf_ends.specs.declared.writes.Output.{Output}
use Rattle.nf_ends.specs.declared.writes.Output.TheVariants as output
use Rattle.nf_tasks.specs.declared.target_list.Target.{Target}
use Rattle.nf_owed.specs.declared.finished.Finished.{Finished}
use Rattle.nf_owed.specs.Run.{goes_by, run_of}
use Rattle.nf_owed.specs.Ended.{EndedWell, IsFaultless, IsFromOutside, NamesStop, events_in, state_after}
use Rattle.nf_owed.specs.Finished.{ComesTo, GoesFaultless, OwesOutput}
use Rattle.nf_owed.proofs.Meanings.{cost_to, fault_in, named_fault}
use Rattle.nf_steady.specs.Steady.{OpensOver, IsRunFrom, in_world, meaning_in}
use Rattle.nf_steady.proofs.Over.{AreGraphs, given_agrees, is_graph}

module _ (made : AreGraphs) (w : World) (F : Opening) (n : Program) (b : PlanBuilder) (h : List Event)
    (over : OpensOver w F) (run : IsRunFrom F n b h) (good : IsFaultless (meaning_in w n b)) where
  abbrev R : Rules
  R = rules_of n b.infos.items

  abbrev x : Run
  x = goes_by n b (in_world w n b)

  abbrev s : State
  s = state_after (run_of n b) h

  beside : IsBeside (graph_of b) R x.outcomes s
  beside =
      every_order (graph_of b) R x.outcomes (events_in (run_of n b) h) (is_graph made w F n b h over run) run.lawful
      (given_agrees made w F n b h over run)

  many : length (graph_of b) ≡ length b.nodes.items
  many = length-map b.nodes.items plain_node

  no_fault : (f : GraphFault) → s.stop ≡ Some (fault_stop f) → ⊥
  no_fault f e =
      let there : In f (faults_to R x.outcomes (bags_of x b) (graph_of b) (length b.nodes.items)) =
      subst (λ m. In f (faults_to R x.outcomes (bags_of x b) (graph_of b) m)) many
      (in_of f (faults R x.outcomes (graph_of b)) (beside.fault f e)) in
      subst (λ (fs : List ScriptFault). In (named_fault x b f) fs) good.faults
      (fault_in x b f (length b.nodes.items) there)

  no_charge : (sum : ℕ) → s.stop ≡ Some (charge_stop sum) → ⊥
  no_charge sum e =
      let past = beside.past_limit sum e in
      let part = beside.charge in
      let cost = cost_to x b (is_graph made w F n b h over run) (length b.nodes.items) in
      let whole : graph.charge_of R x.outcomes (graph_of b) ≡ graph.charge_to (bags_of x b) (graph_of b) (length b.nodes.items) =
      ap (graph.charge_to (bags_of x b) (graph_of b)) many in
      let most = good.cost in
      omega (arith, past.0, past.1, part, cost, whole, most)

  by_stop : (o : PlainStop) (e : End) → s.stop ≡ Some o → NamesStop (run_of n b) o e → IsFromOutside e
  by_stop (fault_stop f) e at named = absurd (no_fault f at)
  by_stop (charge_stop sum) e at named = absurd (no_charge sum at)
  by_stop (outside_stop Lane) e at named = subst IsFromOutside (sym named) tt
  by_stop (outside_stop Keeper) e at named = subst IsFromOutside (sym named) tt
  by_stop memory_stop e at named = subst IsFromOutside (sym named) tt

  output_well : (ts : List Target) (o : Output) → OwesOutput (run_of n b) h ts o → EndedWell (run_of n b) h
  output_well ts (output.Report report line) owes = owes.0.well
  output_well ts (output.Text t) owes = absurd owes

  pub goes_so : (r : Result Finished End) → ComesTo (run_of n b) h r → GoesFaultless (run_of n b) h r
  goes_so (Ok f) comes = output_well f.targets f.output comes
  goes_so (Err e) comes = elim comes [
    | inl stops ↦ inr (by_stop stops.stop e stops.stopped stops.named)
    | inr other ↦ elim other [ inl clash ↦ inl clash | inr memory ↦ inr (subst IsFromOutside (sym memory) tt) ]
  ]
