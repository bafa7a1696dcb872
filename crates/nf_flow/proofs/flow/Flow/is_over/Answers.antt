use Rattle.std.proofs.Common.{ap, length, refl, sym, ◌∙◌}
use Rattle.std.specs.Prelude.{is_some}
use Rattle.nf_machine.specs.History.{is_over}
use Rattle.nf_flow.specs.Seen.{plain_of, state_of}
use Rattle.nf_flow.specs.Flow.{state_in}
use Rattle.nf_flow.proofs.Asking.{over_else, over_first, over_then}
use Rattle.nf_flow.proofs.flow.Flow.is_over.Goals as goal

pub returns-then-self-eq0 : goal.returns-then-self-eq0
returns-then-self-eq0 c =
    let f = c.self.inside in let s = state_in f.graph f.log in
    over_first f.graph s f.parts.open_nodes (length s.tickets) (is_some s.stop) c.self.invariant.parts.open_is refl refl c.if-self-eq0.true ∙ ap (λ z. is_over (plain_of z) (state_of z)) c.self.view_is

pub returns-then-is_stopped : goal.returns-then-is_stopped
returns-then-is_stopped c =
    let f = c.self.inside in let s = state_in f.graph f.log in
    over_then f.graph s f.parts.open_nodes c.in_flight.result c.is_stopped.result c.self.invariant.parts.open_is (c.is_stopped.ensures ∙ ap (λ z. is_some (state_of z).stop) (sym c.self.view_is))
    (c.in_flight.ensures ∙ ap (λ z. length (state_of z).tickets) (sym c.self.view_is)) c.if-self-eq0.false c.if-is_stopped.true ∙ ap (λ z. is_over (plain_of z) (state_of z)) c.self.view_is

pub returns-else-is_stopped : goal.returns-else-is_stopped
returns-else-is_stopped c =
    let f = c.self.inside in let s = state_in f.graph f.log in
    over_else f.graph s f.parts.open_nodes (length s.tickets) c.is_stopped.result c.self.invariant.parts.open_is (c.is_stopped.ensures ∙ ap (λ z. is_some (state_of z).stop) (sym c.self.view_is)) refl
    c.if-self-eq0.false c.if-is_stopped.false ∙ ap (λ z. is_over (plain_of z) (state_of z)) c.self.view_is
