use Rattle.std.proofs.Common.{subst, sym, ◌∙◌}
use Rattle.nf_nodes.specs.Ready.{IsReady}
use Rattle.nf_flow.specs.Seen.{state_of}
use Rattle.nf_flow.specs.Flow.{state_in}
use Rattle.nf_flow.proofs.Asking.{none_ready}
use Rattle.nf_flow.proofs.Running.{nodes_in}
use Rattle.nf_flow.proofs.Standing.{not_running}
use Rattle.nf_flow.proofs.flow.Flow.ready.Goals as goal

pub returns-then-is_stopped : goal.returns-then-is_stopped
returns-then-is_stopped c = none_ready c.args.self.now.graph (state_of c.args.self.now) (not_running (state_of c.args.self.now).stop (sym c.is_stopped.ensures ∙ c.if-is_stopped.true))

pub ready-requires : goal.ready-requires
ready-requires c =
    let f = c.self.inside in
    let n = nodes_in f.graph f.parts f.log c.args.self.now c.self.view_is c.self.invariant c.is_stopped.result c.is_stopped.ensures c.if-is_stopped.false c.nodes.result.now c.nodes.ensures.nodes in
    record { state = state_in f.graph f.log; shows = n.shows }

pub returns : goal.returns
returns c =
    let f = c.self.inside in let s = state_in f.graph f.log in
    let n = nodes_in f.graph f.parts f.log c.args.self.now c.self.view_is c.self.invariant c.is_stopped.result c.is_stopped.ensures c.if-is_stopped.false c.nodes.result.now c.nodes.ensures.nodes in
    subst (λ z. IsReady z.graph (state_of z) c.ready.result) c.self.view_is (subst (λ ns. IsReady ns s c.ready.result) c.nodes.ensures.nodes (c.ready.ensures s n))
