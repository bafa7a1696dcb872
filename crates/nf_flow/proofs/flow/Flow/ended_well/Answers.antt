use Rattle.std.proofs.Common.{ap, refl, sym, ◌∙◌}
use Rattle.std.specs.Prelude.{is_some}
use Rattle.nf_machine.specs.History.{ended_well}
use Rattle.nf_flow.specs.Seen.{plain_of, state_of}
use Rattle.nf_flow.specs.Flow.{state_in}
use Rattle.nf_flow.proofs.Asking.{ended_else, ended_then}
use Rattle.nf_flow.proofs.flow.Flow.ended_well.Goals as goal

pub returns-then-self-eq0 : goal.returns-then-self-eq0
returns-then-self-eq0 c =
    let f = c.self.inside in let s = state_in f.graph f.log in
    ended_then f.graph s f.parts.open_nodes 0 c.is_stopped.result c.self.invariant.parts.open_is (c.is_stopped.ensures ∙ ap (λ z. is_some (state_of z).stop) (sym c.self.view_is)) c.if-self-eq0.true
    ∙ ap (λ z. ended_well (plain_of z) (state_of z)) c.self.view_is

pub returns-else-self-eq0 : goal.returns-else-self-eq0
returns-else-self-eq0 c =
    let f = c.self.inside in let s = state_in f.graph f.log in
    ended_else f.graph s f.parts.open_nodes 0 (is_some s.stop) c.self.invariant.parts.open_is refl c.if-self-eq0.false
    ∙ ap (λ z. ended_well (plain_of z) (state_of z)) c.self.view_is
