-- A port that reads an output of a call's node stands for that output of the call.
use Rattle.std.proofs.Common.{◌≡◌, ℕ, List, refl, ap, ◌∙◌}
use Rattle.nf_graph.specs.Rules.{Rules}
use Rattle.nf_graph.specs.Node.{PlainNode, source, node_at}
use Rattle.nf_graph.specs.Meaning.{Outcomes, bags, node_bag}
use Rattle.nf_graph.specs.Singles.{IsMadeByNodes}
use Rattle.nf_meaning.specs.Things.{Channel}
use Rattle.nf_meaning.specs.Operators as operators
use Rattle.nf_meaning.specs.Operators.{Call}
use Rattle.nf_meaning.specs.Tasks as tasks
use Rattle.nf_meaning.specs.Tasks.{TaskCall}
use Rattle.nf_meaning.specs.Stands.{StandsFor}
use Rattle.nf_meaning.specs.Nodes.{site_of, port_to, IsCallNode, IsTaskNode}
use Rattle.nf_meaning.proofs.Sites.{call_at, tasks_at}

pub call_output : (g : List PlainNode) (R : Rules) (o : Outcomes) (i k : ℕ) (c : Call) → IsMadeByNodes g R o (bags R o g) → IsCallNode g R o i c
    → StandsFor (bags R o g) (port_to i k (operators.given_at c k)) (operators.given_at c k)
call_output g R o i k c made h = record {
  kind = refl;
  bag =
      made.at i k ∙ ap (λ z. node_bag R o (bags R o g) i (node_at g i) z k) h.kind
      ∙ (call_at (site_of g R o i) c h.site).bags k;
}

pub task_output : (g : List PlainNode) (R : Rules) (o : Outcomes) (i k : ℕ) (c : TaskCall) → IsMadeByNodes g R o (bags R o g) → IsTaskNode g R o i c
    → StandsFor (bags R o g) (port_to i k (tasks.given_at c k)) (tasks.given_at c k)
task_output g R o i k c made h = record {
  kind = refl;
  bag =
      made.at i k ∙ ap (λ z. node_bag R o (bags R o g) i (node_at g i) z k) h.kind
      ∙ (tasks_at (site_of g R o i) h.queue c h.site).bags k;
}

pub source_output : (g : List PlainNode) (R : Rules) (o : Outcomes) (i : ℕ) (c : Channel) → IsMadeByNodes g R o (bags R o g) → (node_at g i).kind ≡ source c.bag
    → StandsFor (bags R o g) (port_to i 0 c) c
source_output g R o i c made h = record {
  kind = refl;
  bag = made.at i 0 ∙ ap (λ z. node_bag R o (bags R o g) i (node_at g i) z 0) h;
}
