-- What a plan's tasks are given in a world agrees with each run over it.
use Rattle.std.proofs.Common.{◌≡◌, ℕ, List, [], ◌++◌, ap, sym, subst, ◌⊎◌, inl, inr}
use Rattle.nf_value.specs.Plain.{Plain}
use Rattle.nf_job.specs.declared.report.Report.{Report}
use Rattle.nf_tasks.specs.Memory.{Program}
use Rattle.nf_graph.specs.Rules.{Rules}
use Rattle.nf_graph.specs.Node.{Kind, source, operator, process, node_at}
use Rattle.nf_graph.specs.Meaning as graph
use Rattle.nf_lane.specs.World.{World}
use Rattle.nf_machine.specs.Event.{PlainEvent}
use Rattle.nf_machine.specs.History.{Agrees, IsHistory, IsPrefix, after}
use Rattle.nf_machine.specs.Legal.{IsProcessKind}
use Rattle.nf_machine.specs.State.{Ticket, State, opening}
use Rattle.nf_machine.proofs.Membership.{in_of}
use Rattle.nf_bodies.specs.Bodies.{rules_of}
use Rattle.nf_bodies.specs.Proper.{are_rules}
use Rattle.nf_plan.specs.declared.builder.PlanBuilder.{PlanBuilder}
use Rattle.nf_plan.specs.Plans.{IsPlan, graph_of, name_in}
use Rattle.nf_owed.specs.Run.{by_path, run_of}
use Rattle.nf_owed.proofs.Paths.{path_told}
use Rattle.nf_owed.proofs.Untold.{NoneTold, Untold, none_told}
use Rattle.nf_steady.specs.Given.{given_in}
use Rattle.nf_steady.proofs.Fronts.{Front}
use Rattle.nf_steady.proofs.Fronted.{AllTell, Came, Fronts, told_fronts}
use Rattle.nf_steady.proofs.Lists.{each_in}

decide : (kind : Kind) → IsProcessKind kind ⊎ (IsProcessKind kind → ⊥)
decide (source items) = inr (λ z. z)
decide (operator op) = inr (λ z. z)
decide (process q) = inl tt

nothing_begins : (told rs : List Report) → told ≡ [] → IsPrefix told rs
nothing_begins told rs e = record { rest = rs; is = sym (ap (λ (v : List Report). v ++ rs) e) }

module _ (w : World) (n : Program) (b : PlanBuilder) (plan : IsPlan b) (h : List PlainEvent)
    (lawful : IsHistory (graph_of b) (rules_of n b.infos.items) h)
    (tell : AllTell w (graph_of b) (rules_of n b.infos.items) (opening (graph_of b)) h) where
  abbrev R : Rules
  R = rules_of n b.infos.items

  abbrev s : State
  s = after (graph_of b) h

  -- what the node's path is given
  abbrev named : graph.Outcomes
  named i inputs m = by_path (run_of n b) (given_in w R) (name_in b.infos.items i) inputs m

  by_node : (i : ℕ) (told : List Report) (inputs : List Plain) (m : ℕ) → IsProcessKind (node_at (graph_of b) i).kind
      → IsPrefix told (given_in w R i inputs m) → IsPrefix told (named i inputs m)
  by_node i told inputs m task front =
      subst (IsPrefix told) (sym (path_told n b plan i (given_in w R) inputs m task)) front

  ticket_agrees : (k : Ticket) → NoneTold (graph_of b) k → Front w R k
      → IsPrefix k.told (named k.node k.take.inputs k.take.n)
  ticket_agrees k untold front = elim (decide (node_at (graph_of b) k.node).kind) [
    | inl task ↦ by_node k.node k.told k.take.inputs k.take.n task (record { rest = _; is = front.is })
    | inr other ↦ nothing_begins k.told (named k.node k.take.inputs k.take.n) (untold other)
  ]

  pub world_agrees : Agrees named s
  world_agrees =
      let fronts : Fronts w (graph_of b) R s = told_fronts w (graph_of b) R (are_rules n b.infos.items) h lawful tell in
      let untold : Untold (graph_of b) s = none_told (graph_of b) R h lawful in
      record {
        ended = λ i e c.
            let came : Came w (graph_of b) R i e =
            each_in (Came w (graph_of b) R i) (s.spots i).ended e (fronts.ended i) (in_of e (s.spots i).ended c) in
            by_node i e.told e.take.inputs e.take.n came.kind came.front;
        gone =
            λ k c. ticket_agrees k (each_in (NoneTold (graph_of b)) s.gone k untold.gone (in_of k s.gone c))
            (each_in (Front w R) s.gone k fronts.gone (in_of k s.gone c));
        flying =
            λ k c. ticket_agrees k (each_in (NoneTold (graph_of b)) s.tickets k untold.tickets (in_of k s.tickets c))
            (each_in (Front w R) s.tickets k fronts.tickets (in_of k s.tickets c));
      }
