-- What a run that ended well published is what its plan's graph means.
use Rattle.std.proofs.Common.{◌≡◌, ℕ, zero, suc, ◌<◌, ◌≤◌, List, length, Bool, true, refl, ap, sym, ◌∙◌, subst, arith}
use Rattle.std.proofs.lemmas.List.{length-map}
use Rattle.std.proofs.Math.ListN.{get_or-map}
use Rattle.nf_bag.specs.Tests.{IsSameByTests}
use Rattle.nf_opstream.proofs.Tally.{passes, tally-append, one_if, count_is_passes}
use Rattle.nf_tasks.specs.declared.target_list.Target.{Target}
use Rattle.nf_graph.specs.declared.node.NodeKind.{NodeKind}
use Rattle.nf_graph.specs.declared.node.NodeKind.TheVariants as k
use Rattle.nf_graph.specs.Node.{PlainNode, node_at, IsGraph}
use Rattle.nf_graph.specs.WellMade.{no_source, node_in, plain_kind, plain_node}
use Rattle.nf_machine.specs.Event.{PlainEvent}
use Rattle.nf_machine.specs.History.{Agrees, IsHistory, after, ended_well}
use Rattle.nf_machine.specs.Legal.{IsProcessKind}
use Rattle.nf_machine.specs.State.{State}
use Rattle.nf_plan.specs.declared.builder.PlanBuilder.{PlanBuilder}
use Rattle.nf_plan.specs.Plans.{graph_of}
use Rattle.nf_plan.specs.Runs.{Run}
use Rattle.nf_plan.specs.Whole.{graph_meaning, kind_meaning, meaning_to}
use Rattle.nf_published.specs.Published.{Publishing, published_in, publishing_of}
use Rattle.nf_published.proofs.Ended.{many, of_ended, other_published, process_published, told_many}

module _ (x : Run) (b : PlanBuilder) (h : List PlainEvent) (ok : IsGraph (graph_of b)) (lawful : IsHistory (graph_of b) x.rules h) (agree : Agrees x.outcomes (after (graph_of b) h)) (well : ended_well (graph_of b) (after (graph_of b) h) ≡ true) where
  abbrev P : Publishing
  P = publishing_of x.program b.infos.items

  abbrev s : State
  s = after (graph_of b) h

  node_is : (i : ℕ) → (node_at (graph_of b) i).kind ≡ plain_kind (node_in b.nodes.items i).kind
  node_is i = ap (λ (v : PlainNode). v.kind) (get_or-map plain_node b.nodes.items i no_source)

  at_kind : (p : Target → Bool) (i : ℕ) → i < length (graph_of b) → (kind : NodeKind) → (node_at (graph_of b) i).kind ≡ plain_kind kind
      → passes p (of_ended P x.rules i (s.spots i).ended) ≡ passes p (kind_meaning x b i kind).targets
  at_kind p i within (k.Source items) is =
      ap (passes p) (other_published P (graph_of b) x.rules x.outcomes h ok lawful agree well i (λ task. subst IsProcessKind is task))
  at_kind p i within (k.Op row opts) is =
      ap (passes p) (other_published P (graph_of b) x.rules x.outcomes h ok lawful agree well i (λ task. subst IsProcessKind is task))
  at_kind p i within (k.Process queue) is =
      (process_published P (graph_of b) x.rules x.outcomes h ok lawful agree well i queue within is).at p

  to_node : (p : Target → Bool) (m : ℕ) → m ≤ length (graph_of b) → many P x.rules p s.spots m ≡ passes p (meaning_to x b m).targets
  to_node p zero l = refl
  to_node p (suc i) l = (
      let here = at_kind p i (omega (arith, l)) (node_in b.nodes.items i).kind (node_is i) in
      let before = to_node p i (omega (arith, l)) in
      let join = tally-append (λ y. one_if (p y)) (meaning_to x b i).targets (kind_meaning x b i (node_in b.nodes.items i).kind).targets in
      omega (arith, here, before, join))

  pub as_meant : IsSameByTests (published_in P (graph_of b) h) (graph_meaning x b).targets
  as_meant = record {
    at = λ p. count_is_passes p (published_in P (graph_of b) h)
        ∙ told_many P x.rules p (graph_of b) ok h lawful
        ∙ to_node p (length (graph_of b)) (omega arith)
        ∙ ap (λ m. passes p (meaning_to x b m).targets) (length-map b.nodes.items plain_node)
        ∙ sym (count_is_passes p (graph_meaning x b).targets);
  }
