-- What was counted keeps its room.
use Rattle.std.proofs.Common.{◌≡◌, ◌≤◌, ◌+◌, ℕ, List, [], ◌∷◌, ◌++◌, length, ap, ◌∙◌, arith}
use Rattle.std.proofs.lemmas.List.{length-append}
use Rattle.std.proofs.lemmas.List.Sums.{sum_by-append}
use Rattle.nf_graph.specs.declared.node.Node.{Node}
use Rattle.nf_plan.specs.NodeInfo.{NodeInfo}
use Rattle.nf_meaning.specs.Walk as walk
use Rattle.nf_plan.specs.declared.builder.PlanBuilder.{PlanBuilder}
use Rattle.nf_plan.specs.declared.sizes.Sizes.{Sizes}
use Rattle.nf_plan.specs.Counts.{Grows}
use Rattle.nf_plan.specs.Plans.{ports_in, Adds, HasRoom}
use Rattle.nf_follows.specs.Rooms.{KeepsRoom}

pub keeps_same : (b : PlanBuilder) → KeepsRoom b b
keeps_same b = record { nodes = omega arith; ports = omega arith }

pub keeps_again : (one two three : PlanBuilder) → KeepsRoom one two → KeepsRoom two three → KeepsRoom one three
keeps_again one two three g h = record { nodes = omega (arith, g.nodes, h.nodes); ports = omega (arith, g.ports, h.ports) }

pub counted_keeps : (old : PlanBuilder) (ports : ℕ) (new : PlanBuilder) → Grows old ports new → KeepsRoom old new
counted_keeps old ports new g =
    let more = ap (λ (z : walk.Sizes). z.nodes) g.sizes in
    let read = ap (λ (z : walk.Sizes). z.ports) g.sizes in
    let same : length new.nodes.items ≡ length old.nodes.items = ap (λ (ns : List Node). length ns) g.nodes in
    let same_ports : ports_in new.nodes.items ≡ ports_in old.nodes.items = ap ports_in g.nodes in
    record { nodes = omega (arith, more, same); ports = omega (arith, read, same_ports) }

pub room_lasts : (old new : PlanBuilder) (ports : ℕ) → KeepsRoom old new → HasRoom old ports → HasRoom new ports
room_lasts old new ports g room = record { nodes = omega (arith, g.nodes, room.nodes); ports = omega (arith, g.ports, room.ports) }

pub call_keeps : (old counted : PlanBuilder) (ports : ℕ) (before new : PlanBuilder) (node : Node) (info : NodeInfo) → Grows old ports counted → KeepsRoom counted before
    → Adds before new node info → length node.ports ≤ ports → KeepsRoom old new
call_keeps old counted ports before new node info g k adds l =
    let more = ap (λ (z : walk.Sizes). z.nodes) g.sizes in
    let read = ap (λ (z : walk.Sizes). z.ports) g.sizes in
    let same : length counted.nodes.items ≡ length old.nodes.items = ap (λ (ns : List Node). length ns) g.nodes in
    let same_ports : ports_in counted.nodes.items ≡ ports_in old.nodes.items = ap ports_in g.nodes in
    let one : length new.nodes.items ≡ length (before.nodes.items ++ node ∷ []) = ap (λ (ns : List Node). length ns) adds.nodes in
    let longer : length (before.nodes.items ++ node ∷ []) ≡ length before.nodes.items + 1 = length-append before.nodes.items (node ∷ []) in
    let its : ports_in new.nodes.items ≡ ports_in before.nodes.items + length node.ports =
    ap ports_in adds.nodes ∙ sum_by-append (λ (m : Node). length m.ports) before.nodes.items (node ∷ []) ∙ (omega arith) in
    let nodes : new.sizes.nodes ≡ before.sizes.nodes = ap (λ (z : Sizes). z.nodes) adds.sizes in
    let wide : new.sizes.ports ≡ before.sizes.ports = ap (λ (z : Sizes). z.ports) adds.sizes in
    record {
      nodes = omega (arith, more, same, one, longer, nodes, k.nodes);
      ports = omega (arith, read, same_ports, its, wide, k.ports, l);
    }
