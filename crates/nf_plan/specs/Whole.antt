-- What the graph of a plan means, in the words of scripts.
use Rattle.std.specs.Prelude.{ℕ, zero, suc, Bool, true, false, List, [], ◌∷◌, map, length, Option}
use Rattle.std.specs.List.{flat_map}
use Rattle.nf_value.specs.Plain.{Plain}
use Rattle.nf_value.specs.declared.place.Place.{Place}
use Rattle.nf_tasks.specs.declared.target_list.Target.{Target}
use Rattle.nf_graph.specs.declared.node.NodeKind.{NodeKind}
use Rattle.nf_graph.specs.declared.node.NodeKind.TheVariants as k
use Rattle.nf_graph.specs.Node.{PlainNode, node_at}
use Rattle.nf_graph.specs.Meaning as graph
use Rattle.nf_graph.specs.Meaning.{bag_of, printed}
use Rattle.nf_graph.specs.Faults as graph_fault
use Rattle.nf_graph.specs.Faults.{GraphFault, node_faults}
use Rattle.nf_graph.specs.WellMade.{node_in}
use Rattle.nf_bodies.specs.Bodies.{body_in, published_of}
use Rattle.nf_meaning.specs.Meaning.{Instance, ScriptFault, item_fails, operator_fails, task_fails, ScriptMeaning, nothing_meant, and_meant}
use Rattle.nf_meaning.specs.Tasks.{targets_from}
use Rattle.nf_plan.specs.declared.builder.PlanBuilder.{PlanBuilder}
use Rattle.nf_plan.specs.Plans.{graph_of, is_view_row, name_in, place_in}
use Rattle.nf_plan.specs.Runs.{Run, bags_of}

-- ---- a node

abbrev pub plain_at : PlanBuilder → ℕ → PlainNode
plain_at b i = node_at (graph_of b) i

-- the fault of a node of this path and place
abbrev pub in_script : List ℕ → Place → GraphFault → ScriptFault
in_script path p (graph_fault.item_fails i x f) = item_fails x f
in_script path p (graph_fault.op_fails i f) = operator_fails p f
in_script path p (graph_fault.task_fails i inputs n f) = task_fails (record { call = path; inputs = inputs; n = n }) f

abbrev pub faults_at : Run → PlanBuilder → ℕ → List ScriptFault
faults_at x b i =
    map (in_script (name_in b.infos.items i) (place_in b.infos.items i))
    (node_faults x.rules x.outcomes (bags_of x b) i (plain_at b i) (plain_at b i).kind)

-- what comes to each port
abbrev pub deliveries_at : Run → PlanBuilder → ℕ → List (List Plain)
deliveries_at x b i = map (bag_of (bags_of x b)) (plain_at b i).ports

-- what a `view` prints
abbrev pub views_if : Bool → List Plain → List (List Plain)
views_if true bag = bag ∷ []
views_if false bag = []

abbrev pub instances_at : Run → PlanBuilder → ℕ → Option ℕ → List graph.Instance
instances_at x b i queue = graph.instances (bags_of x b) (plain_at b i) queue

abbrev pub named : List ℕ → graph.Instance → Instance
named path z = record { call = path; inputs = z.0; n = z.1 }

abbrev pub targets_at : Run → PlanBuilder → ℕ → graph.Instance → List Target
targets_at x b i z =
    targets_from (x.rules.outputs i z.0) (published_of x.program (body_in b.infos.items i) z.0) 1 (x.outcomes i z.0 z.1)

abbrev pub kind_meaning : Run → PlanBuilder → ℕ → NodeKind → ScriptMeaning
kind_meaning x b i (k.Source items) = nothing_meant
kind_meaning x b i (k.Op row opts) = record nothing_meant {
  views = views_if (is_view_row row) (printed x.rules x.outcomes (graph_of b) i);
  deliveries = deliveries_at x b i;
  faults = faults_at x b i;
}
kind_meaning x b i (k.Process queue) = record nothing_meant {
  targets = flat_map (targets_at x b i) (instances_at x b i queue);
  instances = map (named (name_in b.infos.items i)) (instances_at x b i queue);
  deliveries = deliveries_at x b i;
  faults = faults_at x b i;
}

-- ---- all nodes

abbrev pub meaning_to : Run → PlanBuilder → ℕ → ScriptMeaning
meaning_to x b zero = nothing_meant
meaning_to x b (suc i) = and_meant (meaning_to x b i) (kind_meaning x b i (node_in b.nodes.items i).kind)

-- what the graph of a plan means in a run
abbrev pub graph_meaning : Run → PlanBuilder → ScriptMeaning
graph_meaning x b = meaning_to x b (length b.nodes.items)
