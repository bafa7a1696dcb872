-- A node stays that of its call where nodes are added behind it.
use Rattle.std.proofs.Common.{◌≡◌, ◌<◌, ℕ, suc, List, [], ◌∷◌, length, ap, sym, ◌∙◌, subst, arith}
use Rattle.std.specs.Prelude.{Option, Some, None}
use Rattle.nf_graph.specs.declared.port.Port.{Port}
use Rattle.nf_graph.specs.Rules.{Rules}
use Rattle.nf_graph.specs.Node.{PlainNode, port_in, node_at}
use Rattle.nf_graph.specs.Meaning.{Outcomes, Bags, bags}
use Rattle.nf_meaning.specs.Things.{Channel}
use Rattle.nf_meaning.specs.Operators.{Call}
use Rattle.nf_meaning.specs.Tasks.{TaskCall}
use Rattle.nf_meaning.specs.Nodes.{PortsStand, Site, HasQueue, IsCallSite, IsTaskSite, IsCallNode, IsTaskNode, site_of}

-- the bags of the first n nodes are the same
abbrev pub SameFirst : ℕ → Bags → Bags → Type 0
SameFirst n b c = (i : ℕ) → i < n → c i ≡ b i

-- the ports read the first n nodes
abbrev pub Below : ℕ → List Port → Type 0
Below n ps = (k : ℕ) → k < length ps → (port_in ps k).from < n

pub ports_kept : (n : ℕ) (b c : Bags) (ps : List Port) (cs : List Channel) → SameFirst n b c → Below n ps → PortsStand b ps cs → PortsStand c ps cs
ports_kept n b c [] [] same below s = tt
ports_kept n b c (p ∷ ps) (x ∷ cs) same below s = (
  record { kind = s.0.kind; bag = ap (λ f. f p.out) (same p.from (below 0 (omega arith))) ∙ s.0.bag },
  ports_kept n b c ps cs same (λ k l. below (suc k) (omega (arith, l))) s.1,
)
ports_kept n b c [] (x ∷ cs) same below s = absurd s
ports_kept n b c (p ∷ ps) [] same below s = absurd s

abbrev at_bags : Site → Bags → Site
at_bags x c = record x { bags = c }

queue_kept : (x : Site) (c : Bags) (queue : Option ℕ) → HasQueue x queue → HasQueue (at_bags x c) queue
queue_kept x c (Some q) h = h
queue_kept x c None h = h

call_site_kept : (n : ℕ) (x : Site) (c : Bags) (call : Call) → SameFirst n x.bags c → Below n x.ports → IsCallSite x call → IsCallSite (at_bags x c) call
call_site_kept n x c call same below h = record { ports = ports_kept n x.bags c x.ports call.channels same below h.ports; answers = h.answers }

task_site_kept : (n : ℕ) (x : Site) (c : Bags) (queue : Option ℕ) (call : TaskCall) → SameFirst n x.bags c → Below n x.ports → IsTaskSite x queue call → IsTaskSite (at_bags x c) queue call
task_site_kept n x c queue call same below h = record {
  ports = ports_kept n x.bags c x.ports call.channels same below h.ports;
  queues = queue_kept x c queue h.queues;
  jobs = h.jobs;
  amounts = h.amounts;
  reports = h.reports;
}

-- ---- nodes of a graph

abbrev site_with : Rules → Outcomes → Bags → ℕ → List Port → Site
site_with R o c i ps = record { rules = R; outcomes = o; bags = c; place = i; ports = ps }

-- two graphs that have this node at one place, and the bags of the first n nodes; the node reads these
module _ (R : Rules) (o : Outcomes) (g h : List PlainNode) (n i : ℕ) (node : node_at h i ≡ node_at g i)
    (same : SameFirst n (bags R o g) (bags R o h)) (below : Below n (node_at g i).ports) where
  pub call_node_kept : (c : Call) → IsCallNode g R o i c → IsCallNode h R o i c
  call_node_kept c is = record {
    kind = ap (λ (x : PlainNode). x.kind) node ∙ is.kind;
    site = subst (λ (x : PlainNode). IsCallSite (site_with R o (bags R o h) i x.ports) c) (sym node)
        (call_site_kept n (site_of g R o i) (bags R o h) c same below is.site);
  }

  pub task_node_kept : (c : TaskCall) → IsTaskNode g R o i c → IsTaskNode h R o i c
  task_node_kept c is = record {
    queue = is.queue;
    kind = ap (λ (x : PlainNode). x.kind) node ∙ is.kind;
    site = subst (λ (x : PlainNode). IsTaskSite (site_with R o (bags R o h) i x.ports) is.queue c) (sym node)
        (task_site_kept n (site_of g R o i) (bags R o h) is.queue c same below is.site);
  }
