use Rattle.std.proofs.Common.{ap, ◌∙◌, length}
use Rattle.nf_flow.specs.Seen.{state_of}
use Rattle.nf_flow.specs.Flow.{state_in}
use Rattle.nf_flow.proofs.flow.Flow.in_flight.Goals as goal

pub returns : goal.returns
returns c =
    let f = c.self.inside in let p = c.self.invariant.parts in
    c.in_flight.ensures p.next (state_in f.graph f.log).tickets p.flights ∙ ap (λ z. length (state_of z).tickets) c.self.view_is
