-- What keeps a plan a plan, and what it stands for.
use Rattle.std.proofs.Common.{◌≡◌, ◌<◌, ◌≤◌, ◌+◌, ◌-◌, ℕ, Bool, true, false, List, [], ◌∷◌, ◌++◌, map, length, refl, ap, sym, ◌∙◌, subst, arith, nat_le, ◌&&◌}
use Rattle.std.proofs.lemmas.Bool.Decides.{nat_tests}
use Rattle.std.proofs.lemmas.List.{map-append}
use Rattle.nf_graph.specs.declared.node.Node.{Node}
use Rattle.nf_graph.specs.Node.{node_at}
use Rattle.nf_graph.specs.WellMade.{IsWellMade, node_in, plain_graph}
use Rattle.nf_bodies.specs.declared.body.NodeInfo.{NodeInfo}
use Rattle.nf_bodies.specs.Bodies.{body_in, published_of}
use Rattle.nf_meaning.specs.Walk as walk
use Rattle.nf_meaning.specs.Walk.{State}
use Rattle.nf_meaning.specs.Sizes.{grown, is_within_limits}
use Rattle.nf_plan.specs.declared.builder.PlanBuilder.{PlanBuilder}
use Rattle.nf_plan.specs.declared.sizes.Sizes.{Sizes}
use Rattle.nf_plan.specs.declared.want.Want.{Want}
use Rattle.nf_meaning.specs.Nodes.{IsCallNode, IsTaskNode}
use Rattle.nf_plan.specs.Sizes.{HasGrown, sizes_of}
use Rattle.nf_plan.specs.Plans.{want_of, name_in, place_in, is_view, ports_in, views_from, FitsBody, PathsApart, IsPlan, IsSamePlan}
use Rattle.nf_plan.specs.Runs.{Run, NodeCall, source_call, operator_call, process_call, IsNodeOf, AreNodesOf, PlanStands, IsFirst, WantStands}
use Rattle.nf_plan.specs.Counts.{Grows}

-- ---- limits

pub within_is : (n p q : ℕ) → n < 65536 → q ≤ 65536 - p → p ≤ 65536 → is_within_limits (record { nodes = n + 1; ports = p + q }) ≡ true
within_is n p q l m k =
    let a : nat_le (n + 1) 65536 ≡ true = grind (arith, nat_tests, l) in
    let b : nat_le (p + q) 65536 ≡ true = grind (arith, nat_tests, m, k) in
    ap (λ t. t && nat_le (p + q) 65536) a ∙ b

pub nodes_over : (n p q : ℕ) → 65536 ≤ n → is_within_limits (record { nodes = n + 1; ports = p + q }) ≡ false
nodes_over n p q l =
    let a : nat_le (n + 1) 65536 ≡ false = grind (arith, nat_tests, l) in
    ap (λ t. t && nat_le (p + q) 65536) a

pub ports_over : (n p q : ℕ) → 65536 - p < q → is_within_limits (record { nodes = n + 1; ports = p + q }) ≡ false
ports_over n p q l =
    let b : nat_le (p + q) 65536 ≡ false = grind (arith, nat_tests, l) in
    ap (λ t. nat_le (n + 1) 65536 && t) b ∙ and_false (nat_le (n + 1) 65536)
  where
    and_false : (t : Bool) → (t && false) ≡ false
    and_false true = refl
    and_false false = refl

-- ---- plans with the same nodes

pub plan_with : (old new : PlanBuilder) → new.nodes.items ≡ old.nodes.items → new.infos.items ≡ old.infos.items → new.views.items ≡ old.views.items
    → old.sizes.nodes ≤ new.sizes.nodes → old.sizes.ports ≤ new.sizes.ports → is_within_limits (sizes_of new.sizes) ≡ true → IsPlan old → IsPlan new
plan_with old new nodes infos views more_nodes more_ports within plan =
    let count : length new.nodes.items ≡ length old.nodes.items = ap (λ (ns : List Node). length ns) nodes in
    let ports : ports_in new.nodes.items ≡ ports_in old.nodes.items = ap ports_in nodes in
    record {
      graph = subst IsWellMade (sym nodes) plan.graph;
      infos = ap (λ (xs : List NodeInfo). length xs) infos ∙ plan.infos ∙ sym count;
      bodies = subst (λ (ns : List Node). (i : ℕ) → FitsBody (node_in ns i).kind (name_in new.infos.items i) (body_in new.infos.items i)) (sym nodes)
          (subst (λ (xs : List NodeInfo). (i : ℕ) → FitsBody (node_in old.nodes.items i).kind (name_in xs i) (body_in xs i)) (sym infos) plan.bodies);
      views = views ∙ plan.views ∙ ap (views_from 0) (sym nodes);
      paths = subst PathsApart (sym infos) plan.paths;
      nodes = omega (arith, count, more_nodes, plan.nodes);
      ports = omega (arith, ports, more_ports, plan.ports);
      within = within;
    }

pub plan_same : (old new : PlanBuilder) → IsSamePlan old new → IsPlan old → IsPlan new
plan_same old new s plan = plan_with old new s.nodes s.infos s.views
    (let e = ap (λ (z : Sizes). z.nodes) s.sizes in omega (arith, e)) (let e = ap (λ (z : Sizes). z.ports) s.sizes in omega (arith, e))
    (ap (λ (z : Sizes). is_within_limits (sizes_of z)) s.sizes ∙ plan.within) plan

-- ---- what it stands for

module _ (x : Run) (old new : PlanBuilder) (nodes : new.nodes.items ≡ old.nodes.items) (infos : new.infos.items ≡ old.infos.items) where
  node_same : (i : ℕ) (c : NodeCall) → IsNodeOf x old i c → IsNodeOf x new i c
  node_same i (source_call c) h = ap (λ (ns : List Node). (node_at (plain_graph ns) i).kind) nodes ∙ h
  node_same i (operator_call c) h = record {
    node = subst (λ (ns : List Node). IsCallNode (plain_graph ns) x.rules x.outcomes i c) (sym nodes) h.node;
    place = ap (λ (xs : List NodeInfo). place_in xs i) infos ∙ h.place;
    view = ap (λ (ns : List Node). is_view (node_in ns i).kind) nodes ∙ h.view;
  }
  node_same i (process_call c) h = record {
    node = subst (λ (ns : List Node). IsTaskNode (plain_graph ns) x.rules x.outcomes i c) (sym nodes) h.node;
    path = ap (λ (xs : List NodeInfo). name_in xs i) infos ∙ h.path;
    publishes = λ inputs attempt r.
        ap (λ (xs : List NodeInfo). published_of x.program (body_in xs i) inputs attempt r) infos ∙ h.publishes inputs attempt r;
  }

  nodes_same : (calls : List NodeCall) → AreNodesOf x old calls → AreNodesOf x new calls
  nodes_same [] h = tt
  nodes_same (c ∷ earlier) h = (node_same (length earlier) c h.0, nodes_same earlier h.1)

  -- a plan with other sizes or paths stands for the state with these
  pub stands_with : (s t : State) → sizes_of new.sizes ≡ t.sizes → map want_of new.wants.items ≡ t.wants → t.meant ≡ s.meant → PlanStands x old s → PlanStands x new t
  stands_with s t sizes wants meant h = record {
    calls = h.calls;
    nodes = nodes_same h.calls h.nodes;
    count = h.count ∙ sym (ap (λ (ns : List Node). length ns) nodes);
    meant = h.meant ∙ sym meant;
    sizes = sizes;
    wants = wants;
  }

-- a source or a call is counted
pub counted : (old new : PlanBuilder) (ports : ℕ) → IsPlan old → new.nodes.items ≡ old.nodes.items → new.infos.items ≡ old.infos.items → new.wants.items ≡ old.wants.items
    → sizes_of new.sizes ≡ grown ports (sizes_of old.sizes) → is_within_limits (grown ports (sizes_of old.sizes)) ≡ true → Grows old ports new
counted old new ports plan nodes infos wants sizes within =
    let n = ap (λ (z : walk.Sizes). z.nodes) sizes in
    let p = ap (λ (z : walk.Sizes). z.ports) sizes in
    let count : length new.nodes.items ≡ length old.nodes.items = ap (λ (ns : List Node). length ns) nodes in
    let read : ports_in new.nodes.items ≡ ports_in old.nodes.items = ap ports_in nodes in
    record {
      sizes = sizes;
      within = within;
      room = record { nodes = omega (arith, n, count, plan.nodes); ports = omega (arith, p, read, plan.ports) };
      nodes = nodes;
      infos = infos;
      wants = wants;
      stands = λ x s h. stands_with x old new nodes infos s (record s { sizes = grown ports s.sizes }) (sizes ∙ ap (grown ports) h.sizes) (ap (λ ws. map want_of ws) wants ∙ h.wants) refl h;
    }

-- a path is wanted
pub wanted : (old new : PlanBuilder) (w : Want) → new.nodes.items ≡ old.nodes.items → new.infos.items ≡ old.infos.items → new.sizes ≡ old.sizes
    → new.wants.items ≡ old.wants.items ++ w ∷ [] → WantStands old w new
wanted old new w nodes infos sizes wants x s h =
    stands_with x old new nodes infos s (record s { wants = s.wants ++ want_of w ∷ [] }) (ap sizes_of sizes ∙ h.sizes)
    (ap (λ ws. map want_of ws) wants ∙ map-append want_of old.wants.items (w ∷ []) ∙ ap (λ ws. ws ++ want_of w ∷ []) h.wants) refl h

-- a plan of no nodes
pub nothing_stands : (x : Run) (b : PlanBuilder) (s : State) → b.nodes.items ≡ [] → b.wants.items ≡ [] → sizes_of b.sizes ≡ record { nodes = 0; ports = 0 } → IsFirst s → PlanStands x b s
nothing_stands x b s nodes wants sizes f = record {
  calls = [];
  nodes = tt;
  count = sym (ap (λ (ns : List Node). length ns) nodes);
  meant = sym f.meant;
  sizes = sizes ∙ sym f.sizes;
  wants = ap (λ ws. map want_of ws) wants ∙ sym f.wants;
}

-- ---- sizes that grew

pub grown_plan : (old : PlanBuilder) (sizes : Sizes) (ports : ℕ) → IsPlan old → HasGrown old.sizes ports sizes → IsPlan (record old { sizes = sizes })
grown_plan old sizes ports plan g =
    let n = ap (λ (z : walk.Sizes). z.nodes) g.sizes in
    let p = ap (λ (z : walk.Sizes). z.ports) g.sizes in
    plan_with old (record old { sizes = sizes }) refl refl refl (omega (arith, n)) (omega (arith, p)) g.within plan

pub grown_counts : (old : PlanBuilder) (sizes : Sizes) (ports : ℕ) → IsPlan old → HasGrown old.sizes ports sizes → Grows old ports (record old { sizes = sizes })
grown_counts old sizes ports plan g =
    counted old (record old { sizes = sizes }) ports plan refl refl refl g.sizes (ap is_within_limits (sym g.sizes) ∙ g.within)
