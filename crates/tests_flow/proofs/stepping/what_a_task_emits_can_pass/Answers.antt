use Rattle.std.proofs.Common.{[], ◌∷◌, length, refl, ap, sym, ◌∙◌, subst}
use Rattle.std.specs.Prelude.{ℕ, List, Ok}
use Rattle.nf_graph.specs.declared.node.Node.{Node}
use Rattle.nf_machine.specs.State.{Ended}
use Rattle.nf_machine.specs.Step.{ends_at, without}
use Rattle.nf_flight.specs.Flights.{IsFlights}
use Rattle.nf_nodes.specs.Nodes.{AreNodes}
use Rattle.nf_nodes.specs.Steps.{left}
use Rattle.tests_flow.proofs.Stepped.{begun, flying_first, found, ran, starts_there, task_of, task_there}
use Rattle.tests_flow.proofs.stepping.what_a_task_emits_can_pass.Goals as goal

pub leave-requires : goal.leave-requires
leave-requires g c =
    let ns = c.nodes-list.result.now in
    flying_first c.add.new.self c.in_ok-ticket.ticket (task_of ns) (c.in_ok-ticket.ensures.after 1 [] (task_of ns) c.in_ok-flights.ensures.flights refl refl refl refl) refl
    (c.in_ok-ticket.ensures.number ∙ c.in_ok-flights.ensures.flights.next_is)

pub ready-requires : goal.ready-requires
ready-requires g c =
    let ns = c.nodes-list.result.now in let e = c.nodes-list.ensures.nodes ∙ c.in_ok-graph.ensures in
    let a = subst (λ (m : List Node). AreNodes m (begun m) c.in_ok-nodes.nodes) (sym c.nodes-list.ensures.nodes) c.in_ok-nodes.ensures in
    let t = c.in_ok-take.ensures.after (begun ns) a (starts_there ns e) in
    let one = c.in_ok-ticket.ensures.after 1 [] (task_of ns) c.in_ok-flights.ensures.flights refl refl refl refl in
    let number = c.in_ok-ticket.ensures.number ∙ c.in_ok-flights.ensures.flights.next_is in
    let gone = subst (λ (n : ℕ). IsFlights 2 (without n (task_of ns ∷ [])) c.leave.new.self) number (c.leave.ensures.after 2 (task_of ns ∷ []) (task_of ns) one (found c.in_ok-ticket.ticket (task_of ns) refl number)) in
    let z : Ended = record { take = (task_of ns).take; told = []; outs = Ok _ } in
    let h = c.in_ok-emit.ensures (ran ns) 1 (task_of ns) z t (task_there ns) refl refl (record { shows = gone; nodes_are = c.leave.ensures.nodes ∙ c.in_ok-ticket.ensures.nodes ∙ c.in_ok-flights.ensures.nodes ∙ sym (ap length e) }) in
    record { state = ends_at (left (ran ns) 1) (task_of ns) z; shows = h.shows }
