use Rattle.std.proofs.Common.{arith, ap, subst, sym, ◌∙◌, refl, ◌+◌}
use Rattle.nf_value.specs.View.{plain_of}
use Rattle.nf_nodes.specs.Places.{place_in}
use Rattle.nf_nodes.specs.Nodes.{AreNodes}
use Rattle.nf_nodes.specs.Steps.{received}
use Rattle.nf_machine.specs.Event.{halt, pass}
use Rattle.nf_flow.proofs.Calling.{can_receive, has_next, small_charge}
use Rattle.nf_flow.proofs.Moving.{flying, halted, happens_err, passed_over, passed_within}
use Rattle.nf_flow.proofs.parts.Parts.pass.Goals as goal

pub next_item-item-requires : goal.next_item-item-requires
next_item-item-requires c = has_next c.args.nodes.now c.args.self.now c.args.port c.requires

pub overflow_add-sum : goal.overflow_add-sum
overflow_add-sum c = let l = small_charge c.args.nodes.now c.args.self.now c.args.port c.requires c.delivery_cost.result c.delivery_cost.ensures.small in omega arith

pub receive-requires-clause-may : goal.receive-requires-clause-may
receive-requires-clause-may c = can_receive c.args.nodes.now c.args.self.now c.args.port c.requires

pub receive-requires-clause-flights : goal.receive-requires-clause-flights
receive-requires-clause-flights c = c.requires.parts.count

pub returns-then-is_past_limit : goal.returns-then-is_past_limit
returns-then-is_past_limit c s h b legal =
    let at_port = place_in c.args.nodes.now c.args.port in
    passed_over c.args.nodes.now s c.args.self.now h legal.running at_port.node at_port.port (plain_of c.next_item-item.result.now) _ (c.next_item-item.ensures s (h.nodes_are legal.running))
    (ap (λ n. c.args.self.now.charge + n) c.delivery_cost.ensures.value) (sym c.is_past_limit.ensures ∙ c.if-is_past_limit.true)

pub returns-in_err-item : goal.returns-in_err-item
returns-in_err-item c s h b legal = happens_err c.args.nodes.now s (pass (place_in c.args.nodes.now c.args.port).node (place_in c.args.nodes.now c.args.port).port) halt _ c.args.self.now c.from_residual.ensures.0
    (halted c.args.nodes.now s c.args.self.now h c.args.self.now refl refl)

pub returns-in_err-receive : goal.returns-in_err-receive
returns-in_err-receive c s h b legal = happens_err c.args.nodes.now s (pass (place_in c.args.nodes.now c.args.port).node (place_in c.args.nodes.now c.args.port).port) halt _ (record c.args.self.now { nodes = c.receive.new.self })
    c.from_residual-in_err-receive.ensures.0 (halted c.args.nodes.now s c.args.self.now h (record c.args.self.now { nodes = c.receive.new.self }) refl refl)

pub returns : goal.returns
returns c s h b legal =
    let at_port = place_in c.args.nodes.now c.args.port in
    passed_within c.args.nodes.now s c.args.self.now h legal.running at_port.node at_port.port (plain_of c.next_item-item.result.now) _ (c.next_item-item.ensures s (h.nodes_are legal.running))
    (ap (λ n. c.args.self.now.charge + n) c.delivery_cost.ensures.value) c.tickets_change.ensures c.receive.new.self (sym c.is_past_limit.ensures ∙ c.if-is_past_limit.false)
    (subst (λ x. AreNodes c.args.nodes.now (received s at_port x) c.receive.new.self) (ap plain_of c.in_ok-item.ensures) (c.in_ok-receive.ensures s (h.nodes_are legal.running) (flying c.args.nodes.now s c.args.self.now h legal.running)))
