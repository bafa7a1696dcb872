use Rattle.std.proofs.Common.{ap, length, subst, sym, ◌∙◌, ◌≤◌}
use Rattle.nf_nodes.specs.Ready.{IsReadyAt}
use Rattle.nf_flow.specs.Seen.{state_of}
use Rattle.nf_flow.specs.Flow.{state_in}
use Rattle.nf_flow.proofs.Asking.{none_past, none_ready_at}
use Rattle.nf_flow.proofs.Running.{nodes_in}
use Rattle.nf_flow.proofs.Standing.{not_running}
use Rattle.nf_flow.proofs.flow.Flow.ready_at.Goals as goal
use Rattle.nf_flow.proofs.flow.Flow.ready_at.Goals.{then-is_stopped-via-then-is_stopped, then-is_stopped-via-else-is_stopped+then-node-nodes}

pub returns-then-is_stopped : goal.returns-then-is_stopped
returns-then-is_stopped c =
    let z = c.args.self.now in
    elim c.then-is_stopped.branch [
      | then-is_stopped-via-then-is_stopped w ↦ none_ready_at z.graph (state_of z) c.args.node (not_running (state_of z).stop (sym c.is_stopped.ensures ∙ w.if-is_stopped.true))
      | then-is_stopped-via-else-is_stopped+then-node-nodes w ↦ none_past z.graph (state_of z) c.args.node
          (subst (λ gs. length gs ≤ c.args.node) (c.nodes-nodes.ensures.nodes ∙ ap (λ y. y.graph) c.self.view_is) w.if-node-nodes.true)
    ]

pub ready_at-requires : goal.ready_at-requires
ready_at-requires c =
    let f = c.self.inside in
    let n = nodes_in f.graph f.parts f.log c.args.self.now c.self.view_is c.self.invariant c.is_stopped.result c.is_stopped.ensures c.if-is_stopped.false c.nodes-nodes.result.now c.nodes-nodes.ensures.nodes in
    record { state = state_in f.graph f.log; shows = n.shows; below = c.if-node-nodes.false }

pub returns : goal.returns
returns c =
    let f = c.self.inside in let s = state_in f.graph f.log in
    let n = nodes_in f.graph f.parts f.log c.args.self.now c.self.view_is c.self.invariant c.is_stopped.result c.is_stopped.ensures c.if-is_stopped.false c.nodes-nodes.result.now c.nodes-nodes.ensures.nodes in
    subst (λ z. IsReadyAt z.graph (state_of z) c.args.node c.ready_at.result) c.self.view_is (subst (λ ns. IsReadyAt ns s c.args.node c.ready_at.result) c.nodes-nodes.ensures.nodes (c.ready_at.ensures s n))
