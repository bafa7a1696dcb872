use Rattle.std.proofs.Common.{rules, ◌∙◌, ap, arith}
use Rattle.std.proofs.lemmas.List.{length_push}
use Rattle.nf_nodes.proofs.Sets.{limits_more}
use Rattle.nf_nodes.proofs.index.no_ports.Goals as goal

pub loop-node-preserved : goal.loop-node-preserved
loop-node-preserved c = record {
  len = (let e = c.in_ok-push.ensures.len in let f = c.loop-node.invariant.len in omega arith);
  limits = (let e = limits_more c.args.nodes.now c.loop-node.sets.items c.in_ok-new.field-0 c.node-item.result c.loop-node.node-index c.loop-node.invariant.len c.loop-node-test.true c.node-item.is (search rules) c.loop-node.invariant.limits in search (rules, e));
}
