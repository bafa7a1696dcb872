use Rattle.std.proofs.Common.{◌≡◌, subst, sym, true, ◌∙◌}
use Rattle.std.specs.Prelude.{◌↔◌}
use Rattle.nf_nodes.specs.Ready.{IsLegalMove}
use Rattle.nf_flow.specs.Seen.{state_of}
use Rattle.nf_flow.specs.Flow.{state_in}
use Rattle.nf_flow.proofs.Asking.{none_legal}
use Rattle.nf_flow.proofs.Running.{nodes_in}
use Rattle.nf_flow.proofs.Standing.{not_running}
use Rattle.nf_flow.proofs.flow.Flow.is_legal.Goals as goal

pub returns-then-is_stopped : goal.returns-then-is_stopped
returns-then-is_stopped c = none_legal c.args.self.now.graph (state_of c.args.self.now) c.args.step (not_running (state_of c.args.self.now).stop (sym c.is_stopped.ensures ∙ c.if-is_stopped.true))

pub is_legal-requires : goal.is_legal-requires
is_legal-requires c =
    let f = c.self.inside in
    let n = nodes_in f.graph f.parts f.log c.args.self.now c.self.view_is c.self.invariant c.is_stopped.result c.is_stopped.ensures c.if-is_stopped.false c.nodes.result.now c.nodes.ensures.nodes in
    record { state = state_in f.graph f.log; shows = n.shows }

pub returns : goal.returns
returns c =
    let f = c.self.inside in let s = state_in f.graph f.log in
    let n = nodes_in f.graph f.parts f.log c.args.self.now c.self.view_is c.self.invariant c.is_stopped.result c.is_stopped.ensures c.if-is_stopped.false c.nodes.result.now c.nodes.ensures.nodes in
    subst (λ z. (c.is_legal.result ≡ true) ↔ IsLegalMove z.graph (state_of z) c.args.step) c.self.view_is (subst (λ ns. (c.is_legal.result ≡ true) ↔ IsLegalMove ns s c.args.step) c.nodes.ensures.nodes (c.is_legal.ensures s n))
