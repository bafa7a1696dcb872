use Rattle.std.proofs.Common.{ap}
use Rattle.nf_graph.specs.declared.node.Node.{Node}
use Rattle.tests_flow.proofs.Outs.{has_output}
use Rattle.tests_flow.proofs.nodes.an_operator_gives_what_it_takes.Goals as goal

pub emitted-requires : goal.emitted-requires
emitted-requires g c = has_output _ _ _ (c.in_ok-emit.ensures _ _ (c.in_ok-taken.ensures.after _ (c.in_ok-receive.ensures _ _ c.in_ok-state.ensures))) (ap (λ (n : Node). n.outs) c.in_ok-node.ensures)
