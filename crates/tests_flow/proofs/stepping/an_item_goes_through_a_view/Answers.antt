use Rattle.std.proofs.Common.{[], ◌∷◌, length, refl, ap, sym, ◌∙◌, subst}
use Rattle.std.specs.Prelude.{ℕ, List}
use Rattle.nf_graph.specs.declared.node.Node.{Node}
use Rattle.nf_machine.specs.Step.{without}
use Rattle.nf_flight.specs.Flights.{IsFlights}
use Rattle.nf_nodes.specs.Nodes.{AreNodes}
use Rattle.nf_nodes.specs.Steps.{left}
use Rattle.tests_flow.proofs.Stepped.{answered, begun, flying_first, found, gave, given, may_close, may_give, may_take, takes_there, there, ticket_of, took, waits}
use Rattle.tests_flow.proofs.stepping.an_item_goes_through_a_view.Goals as goal

pub take-requires : goal.take-requires
take-requires g c =
    let ns = c.nodes-list.result.now in let e = c.nodes-list.ensures.nodes ∙ c.in_ok-graph.ensures in
    let a = subst (λ (m : List Node). AreNodes m (begun m) c.in_ok-nodes.nodes) (sym c.nodes-list.ensures.nodes) c.in_ok-nodes.ensures in
    may_take ns e c.receive.new.self (c.in_ok-receive.ensures (begun ns) a (record { shows = c.in_ok-flights.ensures.flights; nodes_are = c.in_ok-flights.ensures.nodes ∙ sym (ap length e) }))

pub ready-requires-2 : goal.ready-requires-2
ready-requires-2 g c =
    let ns = c.nodes-list.result.now in let e = c.nodes-list.ensures.nodes ∙ c.in_ok-graph.ensures in
    let a = subst (λ (m : List Node). AreNodes m (begun m) c.in_ok-nodes.nodes) (sym c.nodes-list.ensures.nodes) c.in_ok-nodes.ensures in
    let b = c.in_ok-receive.ensures (begun ns) a (record { shows = c.in_ok-flights.ensures.flights; nodes_are = c.in_ok-flights.ensures.nodes ∙ sym (ap length e) }) in
    record { state = took ns; shows = (c.in_ok-take.ensures.after (waits ns) b (takes_there ns e)).shows }

pub leave-requires : goal.leave-requires
leave-requires g c =
    let ns = c.nodes-list.result.now in
    flying_first c.add.new.self c.in_ok-ticket.ticket (ticket_of ns) (c.in_ok-ticket.ensures.after 1 [] (ticket_of ns) c.in_ok-flights.ensures.flights refl refl refl refl) refl
    (c.in_ok-ticket.ensures.number ∙ c.in_ok-flights.ensures.flights.next_is)

pub give-requires-clause-give : goal.give-requires-clause-give
give-requires-clause-give g c =
    let ns = c.nodes-list.result.now in let e = c.nodes-list.ensures.nodes ∙ c.in_ok-graph.ensures in
    let a = subst (λ (m : List Node). AreNodes m (begun m) c.in_ok-nodes.nodes) (sym c.nodes-list.ensures.nodes) c.in_ok-nodes.ensures in
    let b = c.in_ok-receive.ensures (begun ns) a (record { shows = c.in_ok-flights.ensures.flights; nodes_are = c.in_ok-flights.ensures.nodes ∙ sym (ap length e) }) in
    may_give ns e c.take.new.self (c.in_ok-take.ensures.after (waits ns) b (takes_there ns e))

pub ready-requires-3 : goal.ready-requires-3
ready-requires-3 g c =
    let ns = c.nodes-list.result.now in let e = c.nodes-list.ensures.nodes ∙ c.in_ok-graph.ensures in
    let a = subst (λ (m : List Node). AreNodes m (begun m) c.in_ok-nodes.nodes) (sym c.nodes-list.ensures.nodes) c.in_ok-nodes.ensures in
    let b = c.in_ok-receive.ensures (begun ns) a (record { shows = c.in_ok-flights.ensures.flights; nodes_are = c.in_ok-flights.ensures.nodes ∙ sym (ap length e) }) in
    let t = c.in_ok-take.ensures.after (waits ns) b (takes_there ns e) in
    let one = c.in_ok-ticket.ensures.after 1 [] (ticket_of ns) c.in_ok-flights.ensures.flights refl refl refl refl in
    let number = c.in_ok-ticket.ensures.number ∙ c.in_ok-flights.ensures.flights.next_is in
    let gone = subst (λ (n : ℕ). IsFlights 2 (without n (ticket_of ns ∷ [])) c.leave.new.self) number (c.leave.ensures.after 2 (ticket_of ns ∷ []) (ticket_of ns) one (found c.in_ok-ticket.ticket (ticket_of ns) refl number)) in
    let h = c.give.ensures (took ns) 1 (ticket_of ns) t (there ns) refl (record { shows = gone; nodes_are = c.leave.ensures.nodes ∙ c.in_ok-ticket.ensures.nodes ∙ c.in_ok-flights.ensures.nodes ∙ sym (ap length e) }) in
    let on = given ns (left (took ns) 1) 1 answered c.give.result c.give.new.self c.in_ok-done.ensures h in
    record { state = gave ns on.emits; shows = on.nodes_are.shows }

pub close-requires-clause-close : goal.close-requires-clause-close
close-requires-clause-close g c =
    let ns = c.nodes-list.result.now in let e = c.nodes-list.ensures.nodes ∙ c.in_ok-graph.ensures in
    let a = subst (λ (m : List Node). AreNodes m (begun m) c.in_ok-nodes.nodes) (sym c.nodes-list.ensures.nodes) c.in_ok-nodes.ensures in
    let b = c.in_ok-receive.ensures (begun ns) a (record { shows = c.in_ok-flights.ensures.flights; nodes_are = c.in_ok-flights.ensures.nodes ∙ sym (ap length e) }) in
    let t = c.in_ok-take.ensures.after (waits ns) b (takes_there ns e) in
    let one = c.in_ok-ticket.ensures.after 1 [] (ticket_of ns) c.in_ok-flights.ensures.flights refl refl refl refl in
    let number = c.in_ok-ticket.ensures.number ∙ c.in_ok-flights.ensures.flights.next_is in
    let gone = subst (λ (n : ℕ). IsFlights 2 (without n (ticket_of ns ∷ [])) c.leave.new.self) number (c.leave.ensures.after 2 (ticket_of ns ∷ []) (ticket_of ns) one (found c.in_ok-ticket.ticket (ticket_of ns) refl number)) in
    let h = c.give.ensures (took ns) 1 (ticket_of ns) t (there ns) refl (record { shows = gone; nodes_are = c.leave.ensures.nodes ∙ c.in_ok-ticket.ensures.nodes ∙ c.in_ok-flights.ensures.nodes ∙ sym (ap length e) }) in
    let on = given ns (left (took ns) 1) 1 answered c.give.result c.give.new.self c.in_ok-done.ensures h in
    may_close ns e c.give.new.self on.emits on.nodes_are
