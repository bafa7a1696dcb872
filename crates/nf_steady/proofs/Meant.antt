-- All outcomes that agree with a run that ended well give its plan's graph one meaning.
use Rattle.std.proofs.Common.{◌≡◌, ℕ, zero, suc, List, map, length, true, refl, ap, ◌∙◌}
use Rattle.std.specs.Prelude.{Option}
use Rattle.std.specs.List.{flat_map}
use Rattle.std.proofs.Math.ListN.{get_or-map}
use Rattle.nf_operator.specs.Answer.{printed as printed_of}
use Rattle.nf_tasks.specs.Memory.{Program}
use Rattle.nf_graph.specs.declared.node.NodeKind.{NodeKind}
use Rattle.nf_graph.specs.declared.node.NodeKind.TheVariants as k
use Rattle.nf_graph.specs.Rules.{Rules, fault_by}
use Rattle.nf_graph.specs.Node.{Kind, source, operator, process, PlainNode, node_at, IsGraph}
use Rattle.nf_graph.specs.Meaning as graph
use Rattle.nf_graph.specs.Meaning.{Bags, bag_of, bags, deliveries, instances, pushes}
use Rattle.nf_graph.specs.Faults.{node_faults, task_fails, task_faults}
use Rattle.nf_graph.specs.WellMade.{no_source, node_in, plain_kind, plain_node}
use Rattle.nf_machine.specs.Event.{PlainEvent}
use Rattle.nf_machine.specs.History.{Agrees, IsHistory, after, ended_well}
use Rattle.nf_bodies.specs.Bodies.{body_in, published_of}
use Rattle.nf_meaning.specs.Given as given
use Rattle.nf_meaning.specs.Meaning.{and_meant, nothing_meant}
use Rattle.nf_plan.specs.declared.builder.PlanBuilder.{PlanBuilder}
use Rattle.nf_plan.specs.Plans.{graph_of, is_view_row, name_in, place_in}
use Rattle.nf_plan.specs.Runs.{Run}
use Rattle.nf_plan.specs.Whole.{deliveries_at, faults_at, graph_meaning, in_script, instances_at, kind_meaning, meaning_to, named, targets_at, views_if}
use Rattle.nf_steady.proofs.Lists.{flat_on}
use Rattle.nf_steady.proofs.Alike.{DecideAlike, same_bags}
use Rattle.nf_steady.proofs.Deciding.{decide_alike, settled}
use Rattle.nf_steady.proofs.Targets.{publish_alike}

module _ (n : Program) (b : PlanBuilder) (R : Rules) (h : List PlainEvent) (ok : IsGraph (graph_of b))
    (lawful : IsHistory (graph_of b) R h) (well : ended_well (graph_of b) (after (graph_of b) h) ≡ true)
    (o u : graph.Outcomes) (p q : given.Outcomes) (first : Agrees o (after (graph_of b) h)) (second : Agrees u (after (graph_of b) h)) where
  abbrev x : Run
  x = record { program = n; rules = R; outcomes = o; by_path = p }

  abbrev y : Run
  y = record { program = n; rules = R; outcomes = u; by_path = q }

  -- node i of the graph
  abbrev nd : ℕ → PlainNode
  nd i = node_at (graph_of b) i

  alike : DecideAlike (graph_of b) R o u
  alike = decide_alike (graph_of b) R h ok lawful well o u first second

  same : bags R o (graph_of b) ≡ bags R u (graph_of b)
  same = same_bags (graph_of b) R o u ok alike

  kind_faults : (i : ℕ) (kind : Kind) → (nd i).kind ≡ kind
      → node_faults R o (bags R o (graph_of b)) i (nd i) kind ≡ node_faults R u (bags R u (graph_of b)) i (nd i) kind
  kind_faults i (source items) is = refl
  kind_faults i (operator op) is = ap (λ (B : Bags). node_faults R o B i (nd i) (operator op)) same
  kind_faults i (process queue) is =
      flat_on (task_faults R o i) (task_faults R u i) (instances (bags R o (graph_of b)) (nd i) queue)
      (λ z m. ap (λ d. map (task_fails i z.0 z.1) (fault_by d)) (alike i queue z is m))
      ∙ ap (λ (B : Bags). flat_map (task_faults R u i) (instances B (nd i) queue)) same

  same_faults : (i : ℕ) → faults_at x b i ≡ faults_at y b i
  same_faults i =
      ap (map (in_script (name_in b.infos.items i) (place_in b.infos.items i))) (kind_faults i (nd i).kind refl)

  same_targets : (i : ℕ) (queue : Option ℕ) → (nd i).kind ≡ process queue → flat_map (targets_at x b i)
      (instances_at x b i queue) ≡ flat_map (targets_at y b i) (instances_at y b i queue)
  same_targets i queue is =
      flat_on (targets_at x b i) (targets_at y b i) (instances_at x b i queue)
      (λ z m. publish_alike R (after (graph_of b) h) (λ inputs. published_of n (body_in b.infos.items i) inputs) o u first second i z (settled (graph_of b) R h ok lawful well o first i queue z is m))
      ∙ ap (λ (B : Bags). flat_map (targets_at y b i) (instances B (nd i) queue)) same

  same_deliveries : (i : ℕ) → deliveries_at x b i ≡ deliveries_at y b i
  same_deliveries i = ap (λ (B : Bags). map (bag_of B) (nd i).ports) same

  same_kind : (i : ℕ) (kind : NodeKind) → (nd i).kind ≡ plain_kind kind
      → kind_meaning x b i kind ≡ kind_meaning y b i kind
  same_kind i (k.Source items) is = refl
  same_kind i (k.Op row opts) is = λ t. record nothing_meant {
    views = views_if (is_view_row row) (printed_of (pushes R i (deliveries (same t) (nd i))));
    deliveries = same_deliveries i t;
    faults = same_faults i t;
  }
  same_kind i (k.Process queue) is = λ t. record nothing_meant {
    targets = same_targets i queue is t;
    instances = map (named (name_in b.infos.items i)) (instances (same t) (nd i) queue);
    deliveries = same_deliveries i t;
    faults = same_faults i t;
  }

  to_node : (m : ℕ) → meaning_to x b m ≡ meaning_to y b m
  to_node zero = refl
  to_node (suc i) =
      let here : kind_meaning x b i (node_in b.nodes.items i).kind ≡ kind_meaning y b i (node_in b.nodes.items i).kind =
      same_kind i (node_in b.nodes.items i).kind
      (ap (λ (v : PlainNode). v.kind) (get_or-map plain_node b.nodes.items i no_source)) in
      λ t. and_meant (to_node i t) (here t)

  pub one_meaning : graph_meaning x b ≡ graph_meaning y b
  one_meaning = to_node (length b.nodes.items)
