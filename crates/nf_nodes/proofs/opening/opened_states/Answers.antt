use Rattle.std.proofs.Common.{ℕ, List, ◌<◌, ◌+◌, arith, subst, sym, get_or}
use Rattle.nf_graph.specs.WellMade.{node_in, plain_kind}
use Rattle.nf_machine.specs.State.{opened}
use Rattle.nf_spot.specs.Spot.{IsNode}
use Rattle.nf_spot.specs.declared.node_state.NodeState.{NodeState}
use Rattle.nf_nodes.proofs.Opened.{read_allowed, read_few, states_more}
use Rattle.nf_nodes.proofs.opening.opened_states.Goals as goal

pub begin-requires-clause-options : goal.begin-requires-clause-options
begin-requires-clause-options c = read_allowed c.args.nodes.now c.loop-node.node-index c.node-item.result c.requires c.loop-node-test.true c.node-item.is

pub begin-requires-clause-ports : goal.begin-requires-clause-ports
begin-requires-clause-ports c = read_few c.args.nodes.now c.loop-node.node-index c.node-item.result c.requires c.loop-node-test.true c.node-item.is

pub loop-node-preserved : goal.loop-node-preserved
loop-node-preserved c = record {
  len = (let e = c.in_ok-push.ensures.len in let f = c.loop-node.invariant.len in omega arith);
  each = (let e = states_more c.args.nodes.now c.loop-node.states.items c.in_ok-begin.field-0 c.node-item.result c.loop-node.node-index c.loop-node.invariant.len c.loop-node-test.true c.node-item.is c.in_ok-begin.ensures c.loop-node.invariant.each in
      subst (λ (xs : List NodeState). (i : ℕ) (d : NodeState) → i < c.loop-node.node-index + 1 → IsNode (node_in c.args.nodes.now i) (opened (plain_kind (node_in c.args.nodes.now i).kind)) (get_or xs i d)) (sym c.in_ok-push.ensures.items) e);
}
