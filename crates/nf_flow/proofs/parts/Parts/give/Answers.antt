use Rattle.std.proofs.Common.{subst, sym, ◌∙◌, refl}
use Rattle.std.specs.Prelude.{Some, Ok}
use Rattle.nf_value.specs.View.{plain_of}
use Rattle.nf_graph.specs.WellMade.{plain_graph}
use Rattle.nf_machine.specs.declared.stop.Stop.TheVariants as st
use Rattle.nf_machine.specs.Event.{give}
use Rattle.nf_machine.specs.Step.{step, without}
use Rattle.nf_flight.specs.Flights.{IsFlights}
use Rattle.nf_flow.specs.Parts.{Leads, losing}
use Rattle.nf_flow.proofs.Calling.{can_give, is_flying}
use Rattle.nf_flow.proofs.Ending.{gave_ill, gave_well, lost_parts}
use Rattle.nf_flow.proofs.Moving.{happens_err}
use Rattle.nf_flow.proofs.parts.Parts.give.Goals as goal

pub leave-requires : goal.leave-requires
leave-requires c = let r = c.requires in is_flying c.args.nodes.now r.state c.args.self.now r.parts c.args.number r.ticket r.there

pub give-requires-clause-give : goal.give-requires-clause-give
give-requires-clause-give c = can_give c.args.nodes.now c.args.self.now c.args.number c.args.node c.requires

pub give-requires-clause-flights : goal.give-requires-clause-flights
give-requires-clause-flights c = c.leave.ensures.nodes ∙ c.requires.parts.count

pub returns-in_default : goal.returns-in_default
returns-in_default c s k h b run item =
    let ns = c.args.nodes.now in let t = c.args.number in
    let flights = c.leave.ensures.after h.next s.tickets k h.flights item.there in
    let told = c.in_default.ensures s t k (h.nodes_are run) item.there item.node_is
    (record { shows = subst (λ n. IsFlights n (without t s.tickets) c.leave.new.self) (h.next_is run) flights; nodes_are = c.leave.ensures.nodes ∙ h.count }) in
    gave_well ns s c.args.self.now h t k c.args.node c.args.port (plain_of c.args.item) (plain_of c.args.answer) item c.give.new.self c.leave.new.self flights c.leave.ensures.nodes told

pub returns-in_err-fault : goal.returns-in_err-fault
returns-in_err-fault c s k h b run item =
    happens_err c.args.nodes.now s (give c.args.number (Ok (plain_of c.args.answer))) (losing c.args.number) _ (record c.args.self.now { nodes = c.give.new.self; flights = c.leave.new.self }) c.from_residual.ensures.0
    (lost_parts c.args.nodes.now s c.args.self.now h c.args.number k item.there (record c.args.self.now { nodes = c.give.new.self; flights = c.leave.new.self }) (c.leave.ensures.after h.next s.tickets k h.flights item.there) c.leave.ensures.nodes refl)

pub returns : goal.returns
returns c s k h b run item =
    let ns = c.args.nodes.now in let t = c.args.number in let p = c.args.self.now in
    let flights = c.leave.ensures.after h.next s.tickets k h.flights item.there in
    let told = c.in-Err.ensures s t k (h.nodes_are run) item.there item.node_is
    (record { shows = subst (λ n. IsFlights n (without t s.tickets) c.leave.new.self) (h.next_is run) flights; nodes_are = c.leave.ensures.nodes ∙ h.count }) in
    let d = gave_ill ns s p h t k c.args.node c.args.port (plain_of c.args.item) (plain_of c.args.answer) item c.give.new.self c.leave.new.self c.in-Err.fault flights c.leave.ensures.nodes told c.in_ok-fault.ensures.1 in
    subst (λ x. Leads ns s (step (plain_graph ns) s (give t (Ok (plain_of c.args.answer)))) (Some (st.Op c.args.node x)) (record p { nodes = c.give.new.self; flights = c.leave.new.self })) (sym c.in_ok-fault.ensures.0) d
