-- The room of calls that are counted, in numbers.
use Rattle.std.proofs.Common.{◌≡◌, ◌≤◌, ◌<◌, ◌+◌, ◌-◌, ◌∙◌, ℕ, List, [], ◌∷◌, length, Result, Ok, Err, OnOk, refl, sym, ap, arith}
use Rattle.nf_graph.specs.declared.node.Node.{Node}
use Rattle.nf_meaning.specs.declared.fault.LowerFault.{LowerFault}
use Rattle.nf_meaning.specs.Sizes.{grown, is_within_limits}
use Rattle.nf_meaning.specs.Walk as walk
use Rattle.nf_plan.specs.declared.builder.PlanBuilder.{PlanBuilder}
use Rattle.nf_plan.specs.Counts.{Grows}
use Rattle.nf_plan.specs.Plans.{HasRoom, IsPlan, ports_in}
use Rattle.nf_plan.specs.Runs.{AreNodesOf, IsNodeOf, NodeCall, Run, operator_call, process_call, source_call}
use Rattle.nf_plan.specs.Sizes.{sizes_of}
use Rattle.nf_follows.specs.Rooms.{KeepsRoom}
use Rattle.nf_lowering.specs.declared.state.Lowering.{Lowering}
use Rattle.nf_lowering.specs.Nodes.{FillsRoom}
use Rattle.nf_walked.specs.Filled.{Fills}
use Rattle.nf_walked.specs.Steps.{Goes}
use Rattle.nf_applied.specs.Rooms.{HasRoomFor, LeavesRoom, Uses, UsesRoom}

pub keeps_same : (b : PlanBuilder) → KeepsRoom b b
keeps_same b = record { nodes = omega arith; ports = omega arith }

pub goes_keeps : (old new : Lowering) → Goes old new → KeepsRoom old.plan new.plan
goes_keeps old new g = g.room old.plan (keeps_same old.plan)

-- ---- what is counted

pub leaves_counted : (n : ℕ) (old new : PlanBuilder) → Grows old n new → LeavesRoom 1 n old new
leaves_counted n old new g =
    let a = ap (λ (s : walk.Sizes). s.nodes) g.sizes in
    let b = ap (λ (s : walk.Sizes). s.ports) g.sizes in
    let c : length new.nodes.items ≡ length old.nodes.items = ap (λ (ns : List Node). length ns) g.nodes in
    let d : ports_in new.nodes.items ≡ ports_in old.nodes.items = ap ports_in g.nodes in
    record { room = omega (arith, a, c); wide = omega (arith, b, d) }

pub leaves_none : (b : PlanBuilder) → LeavesRoom 0 0 b b
leaves_none b = record { room = omega arith; wide = omega arith }

module _ (nodes ports : ℕ) (old mid new : PlanBuilder) where
  pub leaves_on : LeavesRoom nodes ports old mid → KeepsRoom mid new → LeavesRoom nodes ports old new
  leaves_on l k = record { room = omega (arith, l.room, k.nodes); wide = omega (arith, l.wide, k.ports) }

  pub leaves_after : KeepsRoom old mid → LeavesRoom nodes ports mid new → LeavesRoom nodes ports old new
  leaves_after k l = record { room = omega (arith, l.room, k.nodes); wide = omega (arith, l.wide, k.ports) }

  -- one call more
  pub leaves_more : LeavesRoom nodes ports old mid → LeavesRoom 1 1 mid new → LeavesRoom (nodes + 1) (ports + 1) old new
  leaves_more l m = record { room = omega (arith, l.room, m.room); wide = omega (arith, l.wide, m.wide) }

  -- what was left is used: what was counted before has its room still
  pub keeps_used : LeavesRoom nodes ports old mid → UsesRoom nodes ports mid new → (c : PlanBuilder) → KeepsRoom c old → KeepsRoom c new
  keeps_used l u c k = record { nodes = omega (arith, l.room, u.room, k.nodes); ports = omega (arith, l.wide, u.wide, k.ports) }

  pub uses_after : KeepsRoom old mid → UsesRoom nodes ports mid new → UsesRoom nodes ports old new
  uses_after k u = record { room = omega (arith, u.room, k.nodes); wide = omega (arith, u.wide, k.ports) }

  pub uses_then : UsesRoom nodes ports old mid → KeepsRoom mid new → UsesRoom nodes ports old new
  uses_then u k = record { room = omega (arith, u.room, k.nodes); wide = omega (arith, u.wide, k.ports) }

  pub uses_again : (more wide : ℕ) → UsesRoom nodes ports old mid → UsesRoom more wide mid new → UsesRoom (nodes + more) (ports + wide) old new
  uses_again more wide u v = record { room = omega (arith, u.room, v.room); wide = omega (arith, u.wide, v.wide) }

pub uses_none : (b : PlanBuilder) → UsesRoom 0 0 b b
uses_none b = record { room = omega arith; wide = omega arith }

pub uses_at_most : (few many : ℕ) (old new : PlanBuilder) → few ≤ many → UsesRoom few few old new → UsesRoom many many old new
uses_at_most few many old new le u = record { room = omega (arith, u.room, le); wide = omega (arith, u.wide, le) }

-- ---- the room that there is

pub room_left : (nodes ports : ℕ) (old new : PlanBuilder) → IsPlan old → LeavesRoom nodes ports old new → HasRoomFor nodes ports new
room_left nodes ports old new plan l = record { room = omega (arith, l.room, plan.nodes); wide = omega (arith, l.wide, plan.ports) }

pub room_for_one : (ports : ℕ) (b : PlanBuilder) → HasRoomFor 1 ports b → HasRoom b ports
room_for_one ports b h = record { nodes = omega (arith, h.room); ports = omega (arith, h.wide) }

pub room_kept : (ports : ℕ) (old new : PlanBuilder) → HasRoom old ports → KeepsRoom old new → HasRoom new ports
room_kept ports old new h k = record { nodes = omega (arith, h.nodes, k.nodes); ports = omega (arith, h.ports, k.ports) }

-- of so many calls, some have used their room
pub room_after : (all some : ℕ) (old new : PlanBuilder) → some < all → HasRoomFor all all old → UsesRoom some some old new → HasRoom new 1
room_after all some old new lt h u = record { nodes = omega (arith, h.room, u.room, lt); ports = omega (arith, h.wide, u.wide, lt) }

-- ---- a node that fills its room, in numbers: it is one that was counted just before

module _ (ports : ℕ) (b : PlanBuilder) (room : HasRoom b ports) where
  abbrev before : PlanBuilder
  before = record b { sizes = record { nodes = b.sizes.nodes - 1; ports = b.sizes.ports - ports } }

  node_same : (x : Run) (i : ℕ) (c : NodeCall) → IsNodeOf x before i c → IsNodeOf x b i c
  node_same x i (source_call c) h = h
  node_same x i (operator_call c) h = record { node = h.node; place = h.place; view = h.view }
  node_same x i (process_call c) h = record { node = h.node; path = h.path; publishes = h.publishes }

  nodes_same : (x : Run) (cs : List NodeCall) → AreNodesOf x before cs → AreNodesOf x b cs
  nodes_same x [] h = tt
  nodes_same x (c ∷ earlier) h = (node_same x (length earlier) c h.0, nodes_same x earlier h.1)

  sizes_same : sizes_of b.sizes ≡ grown ports (sizes_of before.sizes)
  sizes_same =
      let a : b.sizes.nodes ≡ b.sizes.nodes - 1 + 1 = omega (arith, room.nodes) in
      let c : b.sizes.ports ≡ b.sizes.ports - ports + ports = omega (arith, room.ports) in
      let of : ℕ → ℕ → walk.Sizes = λ m n. record { nodes = m; ports = n } in
      ap (λ m. of m b.sizes.ports) a ∙ ap (of (b.sizes.nodes - 1 + 1)) c

  counted_before : IsPlan b → Grows before ports b
  counted_before plan = record {
    sizes = sizes_same;
    within = ap is_within_limits (sym sizes_same) ∙ plan.within;
    room = room;
    nodes = refl;
    infos = refl;
    wants = refl;
    stands = λ x s h. record {
      calls = h.calls;
      nodes = nodes_same x h.calls h.nodes;
      count = h.count;
      meant = h.meant;
      sizes = sizes_same ∙ ap (grown ports) h.sizes;
      wants = h.wants;
    };
  }

  pub uses_filled : (new : PlanBuilder) → IsPlan b → FillsRoom ports b new → UsesRoom 1 ports b new
  uses_filled new plan fills =
      let k : KeepsRoom before new = fills before b ports (counted_before plan) (keeps_same b) (omega arith) in
      let n : length new.nodes.items + (b.sizes.nodes - 1) ≤ length b.nodes.items + new.sizes.nodes = k.nodes in
      let p : ports_in new.nodes.items + (b.sizes.ports - ports) ≤ ports_in b.nodes.items + new.sizes.ports = k.ports in
      record { room = omega (arith, n, room.nodes); wide = omega (arith, p, room.ports) }

pub uses_fills : {A : Type 0} (ports : ℕ) (old new : Lowering) (r : Result A LowerFault) → IsPlan old.plan → HasRoom old.plan ports → OnOk r (Fills ports old new) → OnOk r (Uses 1 ports old new)
uses_fills ports old new (Ok v) plan room f = record { keeps = f.keeps; calls = f.calls; room = uses_filled ports old.plan room new.plan plan f.room; within = f.within }
uses_fills ports old new (Err e) plan room f = tt
