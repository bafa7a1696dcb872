use Rattle.std.proofs.Common.{◌≤◌, ap, arith, length}
use Rattle.nf_wiring.specs.Places.{port_count}
use Rattle.nf_wiring.proofs.Numbers.{places_length}
use Rattle.nf_wiring.proofs.wiring.Wiring.of.Goals as goal

pub invariant_of-result : goal.invariant_of-result
invariant_of-result c = record {
  few = (let made = c.nodes-nodes.ensures.well_made in let e = ap length c.in_ok-places.ensures in
      let f = places_length 0 c.nodes-nodes.result.now in let g = ap port_count c.nodes-nodes.ensures.nodes in
      let few : port_count c.args.graph.now ≤ 65536 = made.few_ports in omega arith);
}
