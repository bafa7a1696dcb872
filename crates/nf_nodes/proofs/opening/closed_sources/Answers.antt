use Rattle.std.proofs.Common.{◌≡◌, ℕ, List, Bool, false, ◌<◌, ◌+◌, arith, subst, sym, get_or}
use Rattle.nf_graph.specs.WellMade.{node_in, plain_kind}
use Rattle.nf_machine.specs.State.{opened}
use Rattle.nf_nodes.proofs.Opened.{closed_more}
use Rattle.nf_nodes.proofs.opening.closed_sources.Goals as goal

pub loop-node-preserved : goal.loop-node-preserved
loop-node-preserved c = record {
  len = (let e = c.in_ok-push.ensures.len in let f = c.loop-node.invariant.len in omega arith);
  each = (let e = closed_more c.args.nodes.now c.loop-node.closed.items c.is_source.result c.node-item.result c.loop-node.node-index c.loop-node.invariant.len c.loop-node-test.true c.node-item.is c.is_source.ensures c.loop-node.invariant.each in
      subst (λ (xs : List Bool). (i : ℕ) → i < c.loop-node.node-index + 1 → get_or xs i false ≡ (opened (plain_kind (node_in c.args.nodes.now i).kind)).closed) (sym c.in_ok-push.ensures.items) e);
}
