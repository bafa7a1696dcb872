use Rattle.std.proofs.Common.{[], ◌∷◌, ◌++◌, ◌≡◌, false, subst, sym, ◌∙◌, refl}
use Rattle.std.specs.Prelude.{Some}
use Rattle.nf_graph.specs.WellMade.{plain_graph}
use Rattle.nf_machine.specs.Event.{finish}
use Rattle.nf_machine.specs.Step.{end_of, step, ticket_at, with_ticket, without}
use Rattle.nf_flight.specs.Flights as flights
use Rattle.nf_flight.specs.Flights.{IsFlights}
use Rattle.nf_flight.specs.Ticket.{inputs_of, n_of, node_of, number_of}
use Rattle.nf_nodes.specs.Steps.{CanEmit}
use Rattle.nf_flow.specs.Parts.{Leads, losing}
use Rattle.nf_flow.proofs.Calling.{can_emit, has_attempts, is_flying}
use Rattle.nf_flow.proofs.Ending.{ended_again, ended_ill, ended_late, ended_well, lost_parts, no_fault}
use Rattle.nf_flow.proofs.Moving.{happens_err}
use Rattle.nf_flow.proofs.Standing.{is_running}
use Rattle.nf_flow.proofs.parts.Parts.end.Goals as goal

pub again-requires-clause-flying : goal.again-requires-clause-flying
again-requires-clause-flying c =
    let r = c.requires in subst (flights.IsFlying c.args.self.now.flights) (sym c.number-number.ensures) (is_flying c.args.nodes.now r.state c.args.self.now r.parts (number_of c.args.ticket.now) r.ticket r.there)

pub again-requires-clause-attempt : goal.again-requires-clause-attempt
again-requires-clause-attempt c = subst (flights.HasAttempts c.args.self.now.flights) (sym c.number-number.ensures) (has_attempts c.args.nodes.now c.args.self.now c.args.ticket.now c.args.is_stopped c.requires)

pub leave-requires : goal.leave-requires
leave-requires c =
    let r = c.requires in subst (flights.IsFlying c.args.self.now.flights) (sym c.number-number.ensures) (is_flying c.args.nodes.now r.state c.args.self.now r.parts (number_of c.args.ticket.now) r.ticket r.there)

pub unreachable-requires : goal.unreachable-requires
unreachable-requires c = no_fault c.args.outs.now _ c.in_default.ensures c.in_default-outs.is

pub emit-requires-clause-emit : goal.emit-requires-clause-emit
emit-requires-clause-emit c =
    let r = c.requires in
    subst (CanEmit c.args.nodes.now c.args.self.now.nodes) (sym c.node.ensures) (can_emit c.args.nodes.now c.args.self.now c.args.ticket.now c.args.is_stopped r (is_running r.state.stop (sym r.told ∙ c.if-is_stopped.false)))

pub emit-requires-clause-flights : goal.emit-requires-clause-flights
emit-requires-clause-flights c = c.leave.ensures.nodes ∙ c.requires.parts.count

pub returns-then-is_tried_again : goal.returns-then-is_tried_again
returns-then-is_tried_again c s k report h b there is stopped =
    let n = c.number-number.ensures in let t = number_of c.args.ticket.now in
    let w = record k { told = k.told ++ report ∷ []; started = false } in
    let fl = subst (λ m. IsFlights h.next (with_ticket (record k { told = k.told ++ report ∷ []; started = false }) (without m s.tickets)) c.again.new.self) n
    (c.again.ensures.after h.next s.tickets k report h.flights (subst (λ m. ticket_at m s.tickets ≡ Some k) (sym n) there)) in
    ended_again c.args.nodes.now s c.args.self.now h t k there report c.args.outs.now c.tickets_change.ensures (sym c.is_tried_again.ensures ∙ c.if-is_tried_again.true) c.again.new.self fl c.again.ensures.nodes

pub returns-then-is_stopped : goal.returns-then-is_stopped
returns-then-is_stopped c s k report h b there is stopped =
    let n = c.number-number.ensures in let t = number_of c.args.ticket.now in
    let fl = subst (λ m. IsFlights h.next (without m s.tickets) c.leave.new.self) n (c.leave.ensures.after h.next s.tickets k h.flights (subst (λ m. ticket_at m s.tickets ≡ Some k) (sym n) there)) in
    ended_late c.args.nodes.now s c.args.self.now h t k there report c.args.outs.now (sym c.is_tried_again.ensures ∙ c.if-is_tried_again.false) c.leave.new.self fl c.leave.ensures.nodes (sym stopped ∙ c.if-is_stopped.true)

pub returns-in_err-task_stop : goal.returns-in_err-task_stop
returns-in_err-task_stop c s k report h b there is stopped =
    let n = c.number-number.ensures in let t = number_of c.args.ticket.now in
    let fl = subst (λ m. IsFlights h.next (without m s.tickets) c.leave.new.self) n (c.leave.ensures.after h.next s.tickets k h.flights (subst (λ m. ticket_at m s.tickets ≡ Some k) (sym n) there)) in
    happens_err c.args.nodes.now s (finish t report c.args.outs.now) (losing t) _ (record c.args.self.now { flights = c.leave.new.self }) c.from_residual.ensures.0
    (lost_parts c.args.nodes.now s c.args.self.now h t k there (record c.args.self.now { flights = c.leave.new.self }) fl c.leave.ensures.nodes refl)

pub returns-in-Some : goal.returns-in-Some
returns-in-Some c s k report h b there is stopped =
    let ns = c.args.nodes.now in let p = c.args.self.now in
    let n = c.number-number.ensures in let t = number_of c.args.ticket.now in
    let fl = subst (λ m. IsFlights h.next (without m s.tickets) c.leave.new.self) n (c.leave.ensures.after h.next s.tickets k h.flights (subst (λ m. ticket_at m s.tickets ≡ Some k) (sym n) there)) in
    let d = ended_ill ns s p h t k there report c.args.outs.now (sym c.is_tried_again.ensures ∙ c.if-is_tried_again.false) c.leave.new.self fl c.leave.ensures.nodes c.in-Some.fault.now
    (node_of c.args.ticket.now) (n_of c.args.ticket.now) (inputs_of c.args.ticket.now) (sym c.in-Some.ensures) is.node is.inputs is.n in
    subst (λ x. Leads ns s (step (plain_graph ns) s (finish t report c.args.outs.now)) (Some x) (record p { flights = c.leave.new.self })) (sym c.in_ok-task_stop.ensures) d

pub returns-in_err-emit : goal.returns-in_err-emit
returns-in_err-emit c s k report h b there is stopped =
    let n = c.number-number.ensures in let t = number_of c.args.ticket.now in
    let fl = subst (λ m. IsFlights h.next (without m s.tickets) c.leave.new.self) n (c.leave.ensures.after h.next s.tickets k h.flights (subst (λ m. ticket_at m s.tickets ≡ Some k) (sym n) there)) in
    happens_err c.args.nodes.now s (finish t report c.args.outs.now) (losing t) _ (record c.args.self.now { nodes = c.emit.new.self; flights = c.leave.new.self }) c.from_residual-in_err-emit.ensures.0
    (lost_parts c.args.nodes.now s c.args.self.now h t k there (record c.args.self.now { nodes = c.emit.new.self; flights = c.leave.new.self }) fl c.leave.ensures.nodes refl)

pub returns : goal.returns
returns c s k report h b there is stopped =
    let ns = c.args.nodes.now in let p = c.args.self.now in
    let n = c.number-number.ensures in let t = number_of c.args.ticket.now in
    let run = is_running s.stop (sym stopped ∙ c.if-is_stopped.false) in
    let fl = subst (λ m. IsFlights h.next (without m s.tickets) c.leave.new.self) n (c.leave.ensures.after h.next s.tickets k h.flights (subst (λ m. ticket_at m s.tickets ≡ Some k) (sym n) there)) in
    let e = end_of k report c.args.outs.now in
    let told = c.in_ok-emit.ensures s t k e (h.nodes_are run) there (sym is.node ∙ sym c.node.ensures) c.in-Ok.is
    (record { shows = subst (λ m. IsFlights m (without t s.tickets) c.leave.new.self) (h.next_is run) fl; nodes_are = c.leave.ensures.nodes ∙ h.count }) in
    ended_well ns s p h t k there report c.args.outs.now (sym c.is_tried_again.ensures ∙ c.if-is_tried_again.false) c.leave.new.self fl c.leave.ensures.nodes c.emit.new.self (sym c.in_default.ensures) told
