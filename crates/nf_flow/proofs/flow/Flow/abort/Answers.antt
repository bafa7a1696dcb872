use Rattle.std.proofs.Common.{ap, refl, ◌∙◌}
use Rattle.std.specs.Prelude.{option_map}
use Rattle.nf_graph.specs.WellMade.{plain_graph}
use Rattle.nf_machine.specs.declared.event.Event.TheVariants as e
use Rattle.nf_machine.specs.Event.{stop_of}
use Rattle.nf_machine.specs.Legal.{AbortIsLegal}
use Rattle.nf_flight.specs.Ticket.{number_of}
use Rattle.nf_flow.specs.Seen.{grown}
use Rattle.nf_flow.specs.Flow.{state_in}
use Rattle.nf_flow.proofs.Ending.{given_up}
use Rattle.nf_flow.proofs.Flowing.{flow_aborted}
use Rattle.nf_flow.proofs.Growth.{ticket_place}
use Rattle.nf_flow.proofs.Running.{abort_given, abort_stops, flying_in, grown_by, legal_in, some_flight, there_in}
use Rattle.nf_flow.proofs.Standing.{in_flight}
use Rattle.nf_flow.proofs.flow.Flow.abort.Goals as goal

pub leave-requires : goal.leave-requires
leave-requires c = let f = c.self.inside in flying_in f.graph f.parts f.log c.args.self.now c.self.view_is c.self.invariant c.number-number.result c.args.ticket c.number-number.ensures c.requires.ticket

pub abort-requires : goal.abort-requires
abort-requires c =
    let f = c.self.inside in
    ticket_place f.graph f.parts f.log c.self.invariant (some_flight f.graph f.parts f.log c.args.self.now c.self.view_is c.self.invariant c.number-number.result c.args.ticket c.number-number.ensures c.requires.ticket)

pub invariant_of-self : goal.invariant_of-self
invariant_of-self c =
    let f = c.self.inside in let z = c.args.self.now in let v = c.self.view_is in let h = c.self.invariant in
    let n = c.number-number.result in let t = number_of c.args.ticket in let k = c.requires.ticket in let s = state_in f.graph f.log in
    let m = c.requires.legal in
    let there = there_in f.graph f.parts f.log z v h n t k.ticket c.number-number.ensures k.there in
    let legal = in_flight (λ q. AbortIsLegal (plain_graph f.graph) m.rules s q (option_map stop_of c.args.cause)) s t k.ticket (there_in f.graph f.parts f.log z v h t t k.ticket refl k.there)
    (legal_in f.graph f.parts f.log z v h f.graph refl (e.Abort t c.args.cause) m) in
    flow_aborted f.graph f.parts _ f.log c.abort.new.self n c.args.cause k.ticket h there c.requires.named (abort_given f.graph m.rules s k.ticket c.args.cause legal) c.abort.ensures
    (given_up f.graph s f.parts h.parts n k.ticket there (option_map stop_of c.args.cause) _ (c.leave.ensures.after h.parts.next s.tickets k.ticket h.parts.flights there) c.leave.ensures.nodes refl
    (abort_stops f.graph m.rules s k.ticket c.args.cause legal))

pub returns : goal.returns
returns c =
    let f = c.self.inside in let z = c.args.self.now in
    grown_by f.graph f.parts f.log z c.self.view_is c.self.invariant c.abort.new.self _ _ c.abort.ensures ∙ ap (λ m. grown z (e.Abort m c.args.cause)) c.number-number.ensures
