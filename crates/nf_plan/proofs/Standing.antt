-- A plan stands for the state of the walk after what is added to both.
use Rattle.std.proofs.Common.{◌≡◌, ◌<◌, ◌≤◌, ℕ, zero, suc, List, [], ◌∷◌, ◌++◌, map, get_or, length, refl, ap, sym, ◌∙◌, subst, arith}
use Rattle.std.proofs.Math.Seq.{get_or-append_seam}
use Rattle.std.proofs.lemmas.List.{append-nil, get_or_append_left, length-map, map-append}
use Rattle.nf_graph.specs.declared.node.Node.{Node}
use Rattle.nf_graph.specs.Rules.{Rules}
use Rattle.nf_graph.specs.Node.{PlainNode, node_at}
use Rattle.nf_graph.specs.Meaning.{Outcomes, bags}
use Rattle.nf_graph.specs.WellMade.{node_in, no_source, plain_node, plain_graph}
use Rattle.nf_bodies.specs.Evaluation.{nowhere}
use Rattle.nf_bodies.specs.declared.body.NodeInfo.{NodeInfo}
use Rattle.nf_bodies.specs.declared.body.NodeBody.{NodeBody}
use Rattle.nf_bodies.specs.declared.body.NodeBody.TheVariants as body
use Rattle.nf_bodies.specs.Bodies.{published_of}
use Rattle.nf_meaning.specs.Meaning.{ScriptMeaning, nothing_meant, and_meant}
use Rattle.nf_meaning.specs.Walk.{State}
use Rattle.nf_plan.specs.declared.builder.PlanBuilder.{PlanBuilder}
use Rattle.nf_plan.specs.Sizes.{sizes_of}
use Rattle.nf_plan.specs.Plans.{graph_of, is_view, want_of, IsPlan, Adds}
use Rattle.nf_plan.specs.Runs.{Run, bags_of, NodeCall, source_call, operator_call, process_call, IsNodeOf, AreNodesOf, meaning_in, PlanStands, after}
use Rattle.nf_plan.proofs.Lists.{longer, mapped_old, mapped_last}
use Rattle.nf_plan.proofs.Sites.{SameFirst, Below, call_node_kept, task_node_kept}

-- nodes that are added behind change no bag before them
abbrev pub Later : Type 0
Later = (g h : List PlainNode) (R : Rules) (o : Outcomes) (i : ℕ) → i < length g → bags R o (g ++ h) i ≡ bags R o g i

-- ---- nodes in two ways

pub plain_at : (ns : List Node) (i : ℕ) → node_at (plain_graph ns) i ≡ plain_node (node_in ns i)
plain_at [] i = refl
plain_at (n ∷ ns) zero = refl
plain_at (n ∷ ns) (suc i) = plain_at ns i

module _ (old new : PlanBuilder) (n : Node) (x : NodeInfo) (plan : IsPlan old) (adds : Adds old new n x) where
  node_old : (i : ℕ) → i < length old.nodes.items → node_in new.nodes.items i ≡ node_in old.nodes.items i
  node_old i l = ap (λ (ns : List Node). node_in ns i) adds.nodes ∙ get_or_append_left old.nodes.items (n ∷ []) no_source i l

  pub node_last : node_in new.nodes.items (length old.nodes.items) ≡ n
  node_last = ap (λ (ns : List Node). node_in ns (length old.nodes.items)) adds.nodes ∙ get_or-append_seam old.nodes.items n [] no_source

  pub graph_old : (i : ℕ) → i < length old.nodes.items → node_at (graph_of new) i ≡ node_at (graph_of old) i
  graph_old i l = plain_at new.nodes.items i ∙ ap plain_node (node_old i l) ∙ sym (plain_at old.nodes.items i)

  pub graph_last : node_at (graph_of new) (length old.nodes.items) ≡ plain_node n
  graph_last = plain_at new.nodes.items (length old.nodes.items) ∙ ap plain_node node_last

  -- what is read of the infos
  pub info_old : {A : Type 0} (f : NodeInfo → A) (d : A) (i : ℕ) → i < length old.nodes.items → get_or (map f new.infos.items) i d ≡ get_or (map f old.infos.items) i d
  info_old f d i l = ap (λ (xs : List NodeInfo). get_or (map f xs) i d) adds.infos ∙ mapped_old f old.infos.items x d i (omega (arith, l, plan.infos))

  pub info_last : {A : Type 0} (f : NodeInfo → A) (d : A) → get_or (map f new.infos.items) (length old.nodes.items) d ≡ f x
  info_last f d = ap (λ (xs : List NodeInfo). get_or (map f xs) (length old.nodes.items) d) adds.infos ∙ mapped_last f old.infos.items x d (length old.nodes.items) (sym plan.infos)

  pub same_bags : Later → (r : Run) → SameFirst (length old.nodes.items) (bags_of r old) (bags_of r new)
  same_bags later r i l =
      ap (λ (g : List PlainNode). bags r.rules r.outcomes g i) (ap plain_graph adds.nodes ∙ map-append plain_node old.nodes.items (n ∷ []))
      ∙ later (graph_of old) (plain_node n ∷ []) r.rules r.outcomes i (omega (arith, l, length-map old.nodes.items plain_node))

  below : (i : ℕ) → i < length old.nodes.items → Below (length old.nodes.items) (node_at (graph_of old) i).ports
  below i l = subst (λ (m : PlainNode). Below (length old.nodes.items) m.ports) (sym (plain_at old.nodes.items i))
      (λ k lk. omega (arith, l, (plan.graph.reads i k lk).earlier))

  node_kept : Later → (r : Run) (i : ℕ) (c : NodeCall) → i < length old.nodes.items → IsNodeOf r old i c → IsNodeOf r new i c
  node_kept later r i (source_call c) l h = ap (λ (m : PlainNode). m.kind) (graph_old i l) ∙ h
  node_kept later r i (operator_call c) l h = record {
    node = call_node_kept r.rules r.outcomes (graph_of old) (graph_of new) (length old.nodes.items) i (graph_old i l) (same_bags later r) (below i l) c h.node;
    place = info_old (λ (z : NodeInfo). z.place) nowhere i l ∙ h.place;
    view = ap (λ (m : Node). is_view m.kind) (node_old i l) ∙ h.view;
  }
  node_kept later r i (process_call c) l h = record {
    node = task_node_kept r.rules r.outcomes (graph_of old) (graph_of new) (length old.nodes.items) i (graph_old i l) (same_bags later r) (below i l) c h.node;
    path = info_old (λ (z : NodeInfo). z.name) [] i l ∙ h.path;
    publishes = λ inputs attempt report.
        ap (λ (b : NodeBody). published_of r.program b inputs attempt report) (info_old (λ (z : NodeInfo). z.body) body.Source i l) ∙ h.publishes inputs attempt report;
  }

  nodes_kept : Later → (r : Run) (calls : List NodeCall) → length calls ≤ length old.nodes.items → AreNodesOf r old calls → AreNodesOf r new calls
  nodes_kept later r [] l h = tt
  nodes_kept later r (c ∷ earlier) l h =
      (node_kept later r (length earlier) c (omega (arith, l)) h.0, nodes_kept later r earlier (omega (arith, l)) h.1)

  -- the plan stands for the state after the call of the new node
  pub stands_after : Later → (r : Run) (s : State) (c : NodeCall) → IsNodeOf r new (length old.nodes.items) c → PlanStands r old s → PlanStands r new (after (meaning_in c) s)
  stands_after later r s c is h = record {
    calls = c ∷ h.calls;
    nodes = (subst (λ (i : ℕ). IsNodeOf r new i c) (sym h.count) is, nodes_kept later r h.calls (omega (arith, h.count)) h.nodes);
    count = ap suc h.count ∙ sym (ap (λ (ns : List Node). length ns) adds.nodes ∙ longer old.nodes.items n);
    meant = ap (λ (m : ScriptMeaning). and_meant m (meaning_in c)) h.meant;
    sizes = ap sizes_of adds.sizes ∙ h.sizes;
    wants = ap (λ ws. map want_of ws) adds.wants ∙ h.wants;
  }

-- nothing more is meant
pub and_nothing : (m : ScriptMeaning) → and_meant m nothing_meant ≡ m
and_nothing m = λ i. record {
  views = append-nil m.views i;
  targets = append-nil m.targets i;
  instances = append-nil m.instances i;
  deliveries = append-nil m.deliveries i;
  faults = append-nil m.faults i;
}

pub after_nothing : (s : State) → after nothing_meant s ≡ s
after_nothing s = λ i. record s { meant = and_nothing s.meant i }
